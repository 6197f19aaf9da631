use Rattle.world.proofs.Words.{map, opening_loop, settings_from, take, ◌≡◌}
use Rattle.world.proofs.world.opening_loops.Given as goal

abbrev pub invariant-loop-place : goal.invariant-loop-place
invariant-loop-place l = l.loops.items ≡ map opening_loop (settings_from 0 (take l.place l.configs))
