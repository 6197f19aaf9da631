use Rattle.std.proofs.Common.{◌≡◌, Option, Some, IfSome}
use Rattle.syntax.proofs.module.Module.export_place.Goals as goal

known_of_some : {X : Type 0} (P : X → Type 0) (o : Option X) (x : X) → o ≡ Some x → IfSome o P → P x
known_of_some {X} P o x e h = rw e at h

pub returns-in-Some : goal.returns-in-Some
returns-in-Some c =
    rw (← c.self.view_is, c.copied.ensures, c.get.ensures.value, c.deref.ensures)
    (known_of_some _ c.self.inside.places c.in-Some.places c.in-Some.is c.self.invariant.1 c.args.name.now)
