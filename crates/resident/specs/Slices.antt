-- What a slice leaves of a call of an instance.
use Rattle.std.specs.Prelude.{◌≡◌, ℕ, ◌+◌, ◌<◌, ◌≤◌, List, Option, Some, None}
use Rattle.syntax.specs.declared.types.Value.{Value}
use Rattle.instance.specs.Stops.{Halt}
use Rattle.events.specs.declared.ended.Ended.{Ended}
use Rattle.events.specs.declared.ended.Ending.TheVariants.{Spent}
use Rattle.resident.specs.Calls.{KeptInstance, CallsInstance}
use Rattle.resident.specs.Underway.{CallUnderway, HasCome, used_by}
use Rattle.resident.specs.declared.calling.Going.{Going}
use Rattle.resident.specs.declared.calling.Going.TheVariants.{Over, Paused}

-- It is over: ending, results, fuel and store are those of the whole call, however it was cut, and the slice used at most its units.
pub record CallIsOver (c : CallUnderway) (units : ℕ) (b : KeptInstance) (ended : Ended) : Type 0 where
  pub calls : (a : KeptInstance) (depth fuel function : ℕ) (args : List Value) → HasCome a depth fuel function args c
      → CallsInstance a depth fuel function args ended b
  pub since : used_by c ≤ ended.used
  pub slice : ended.used ≤ used_by c + units

-- It is under way still, has used exactly the slice's units more, and some are left.
pub record IsPausedAgain (c : CallUnderway) (units : ℕ) (d : CallUnderway) : Type 0 where
  pub goes_on : (a : KeptInstance) (depth fuel function : ℕ) (args : List Value) → HasCome a depth fuel function args c
      → HasCome a depth fuel function args d × (used_by d < fuel)
  pub used : used_by d ≡ used_by c + units

-- a call goes on for so many units
abbrev pub CallGoesOn : CallUnderway → (units : ℕ) → Going → Type 0
CallGoesOn c units (Over b ended) = CallIsOver c units b ended
CallGoesOn c units (Paused d) = IsPausedAgain c units d

-- Where a call under way stands: there a call with just so much fuel as it has used is over as spent, and leaves the instance as it is now.
-- Before anything of it has run, it stands nowhere.
abbrev pub CallStandsAt : CallUnderway → Option Halt → Type 0
CallStandsAt c None = used_by c ≡ 0
CallStandsAt c (Some stop) =
    (a : KeptInstance) (depth fuel function : ℕ) (args : List Value) → HasCome a depth fuel function args c
    → CallsInstance a depth (used_by c) function args (record { ending = Spent; used = used_by c })
    (record { loaded = c.loaded; store = c.store; stop = Some stop })

-- A call under way is ended: as spent, with the fuel that it has used. The instance keeps its store, and stops where the call stood.
pub record EndsCall (c : CallUnderway) (b : KeptInstance) (ended : Ended) : Type 0 where
  pub spent : ended ≡ record { ending = Spent; used = used_by c }
  pub same : b.loaded ≡ c.loaded
  pub store : b.store ≡ c.store
  pub stands : CallStandsAt c b.stop
