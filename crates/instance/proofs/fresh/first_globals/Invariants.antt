use Rattle.std.proofs.Common.{◌≡◌, map, take}
use Rattle.valid.specs.Segments.{constant_in}
use Rattle.instance.proofs.fresh.first_globals.Given as goal

abbrev pub invariant-loop-global : goal.invariant-loop-global
invariant-loop-global l = l.globals.items ≡ map (λ g. constant_in g.init) (take l.global-index l.contents.globals)
