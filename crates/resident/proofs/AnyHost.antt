-- A run whose host answers every import with -1 is one whatever else is seen of the host.
use Rattle.resident.proofs.Words.{AnswersMinusOne, Caller, Contents, HostCall, Lawful, List, Paused, refl, SideTable, Store, Value, ℕ, ◌≡◌}
use Rattle.reduction.proofs.StepByStep.{steps_map}
use Rattle.interp.specs.Slices.{RunIsPaused}
use Rattle.interp.proofs.Slots.OtherHosts.{paused_over}
use Rattle.resident.specs.Underway.{answers}

module _ {H : Type 0} where
  abbrev pub refuses : H → HostCall → H → Type 0
  refuses a call b = AnswersMinusOne call × (b ≡ a)

  unseen : (trace : List HostCall) (old new : H) → Lawful refuses trace old new → Lawful answers trace tt tt
  unseen trace old new lawful = (steps_map refuses answers (λ h. tt) (λ h. Unit {0}) (λ call a b held moved. (moved.0, tt)) trace old new tt lawful).0

  seen : (trace : List HostCall) (any more : Unit {0}) (h : H) → Lawful answers trace any more → Lawful refuses trace h h
  seen trace any more h lawful = (steps_map answers refuses (λ any. h) (λ any. Unit {0}) (λ call a b held answered. ((answered, refl), tt)) trace any more tt lawful).0

  module _ (m : Contents) (tables : List SideTable) (s t : Store) (args : List Value) (fuel : ℕ) (paused : Paused) (slots : List ℕ) (frames : List Caller) where
    pub paused_unseen : (old new : H) → RunIsPaused m tables refuses s old args fuel paused slots frames t new → RunIsPaused m tables answers s tt args fuel paused slots frames t tt
    paused_unseen old new = paused_over refuses answers old new tt tt (λ trace. unseen trace old new) m tables s t args fuel paused slots frames

    pub paused_seen : (h : H) → RunIsPaused m tables answers s tt args fuel paused slots frames t tt → RunIsPaused m tables refuses s h args fuel paused slots frames t h
    paused_seen h = paused_over answers refuses tt tt h h (λ trace. seen trace tt tt h) m tables s t args fuel paused slots frames
