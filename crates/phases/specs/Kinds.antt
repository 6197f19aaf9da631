-- The numbers of the kinds that an after-work callback is given.
use Rattle.std.specs.Prelude.{◌≡◌}
use Rattle.phases.specs.declared.completion_kind.TheConstants.{DONE, TRAP, DEPTH, SPENT, NO_MEMORY, CANCELLED}

pub record AreKinds : Type 0 where
  pub done : DONE ≡ 0
  pub trap : TRAP ≡ 1
  pub depth : DEPTH ≡ 2
  pub spent : SPENT ≡ 3
  pub no_memory : NO_MEMORY ≡ 4
  pub cancelled : CANCELLED ≡ 5
