-- What the host that refuses every import, and a module's start function, bring to a call.
use Rattle.resident.proofs.Words.{AnswersMinusOne, CallsInstance, Contents, Ended, FuncType, HasFunctionType, HostCall, KeptInstance, Lawful, List, None}
use Rattle.resident.proofs.Words.{Some, type_of_function, Value, ℕ, ◌≡◌, ◌≤◌}
use Rattle.std.proofs.Common.{[], ◌∷◌, length, Option, sym}
use Rattle.std.specs.Prelude.{slice_get, option_and_then}
use Rattle.std.proofs.lemmas.Option.{get_or_from_slice_get, slice_get_within}
use Rattle.limits.specs.declared.TheConstants.{MAX_RESULTS}
use Rattle.valid.specs.Typing.{function_types}
use Rattle.valid.specs.Valid.{ValidModule}
use Rattle.reduction.specs.Invoking.{ReturnsTyped}
use Rattle.reduction.specs.Leading.{Leads, calling, scene}
use Rattle.resident.specs.Calls.{AllRefused}

pub all_refused : {H : Type 0} (trace : List HostCall) (old new : H) → Lawful (λ (a : H) (call : HostCall) (b : H). AnswersMinusOne call × (b ≡ a)) trace old new → AllRefused trace
all_refused [] old new lawful = tt
all_refused (call ∷ trace) old new (mid, moved, lawful) = (moved.0, all_refused trace mid new lawful)

pub untyped : (m : Contents) (function : ℕ) (type : FuncType) → type_of_function m function ≡ None → HasFunctionType m function type → ⊥
untyped m function type none has =
    let some : type_of_function m function ≡ Some type = rw has.1 has.2 in
    absurd (cc)

-- a valid module's functions have few results
few_by : (m : Contents) → ValidModule m → (o : Option ℕ) (type : FuncType) → option_and_then (slice_get m.types) o ≡ Some type → length type.results ≤ MAX_RESULTS
few_by m valid None type is = absurd (cc)
few_by m valid (Some t) type is = rw (get_or_from_slice_get m.types t type type is) at (valid.types t type (slice_get_within m.types t type is))

pub few_results : (m : Contents) → ValidModule m → (function : ℕ) (type : FuncType) → Some type ≡ type_of_function m function → length type.results ≤ MAX_RESULTS
few_results m valid function type is = few_by m valid (slice_get (function_types m) function) type (sym is)

-- a host that has no state but its module, and answers -1
module _ {H : Type 0} where
  abbrev refuses : H → HostCall → H → Type 0
  refuses a call b = AnswersMinusOne call × (b ≡ a)

  pub called : (a : KeptInstance) (depth fuel function : ℕ) (args : List Value) (old new : H) (ended : Ended) (b : KeptInstance)
      → b.loaded ≡ a.loaded → Leads refuses (calling a.loaded.contents function args fuel depth) (scene a.store old) ended b.stop (scene b.store new)
      → ended.used ≤ fuel → ReturnsTyped a.loaded.contents function ended.ending → CallsInstance a depth fuel function args ended b
  called a depth fuel function args old new ended b same led within typed = record {
    same = same;
    runs = record { asked = led.asked; refused = all_refused led.asked old new led.answered; ran = led.ran; stopped = led.stopped };
    within = within;
    typed = typed;
  }
