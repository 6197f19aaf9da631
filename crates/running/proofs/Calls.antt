-- What the start function of a new instance leaves for a call.
use Rattle.std.proofs.Common.{◌≡◌, ◌≤◌, ℕ, Option, Some, None, refl, ap, ◌∙◌, arith}
use Rattle.syntax.specs.Loaded.{Loaded}
use Rattle.events.specs.declared.ended.Ended.{Ended}
use Rattle.resident.specs.Calls.{KeptInstance, IsNew, StartsBy, StartsInstance}
use Rattle.running.specs.Calling.{IsReadyForCalls}

used_within : (start : Option ℕ) (a : KeptInstance) (depth fuel : ℕ) (ended : Ended) (b : KeptInstance) → StartsBy start a depth fuel ended b → ended.used ≤ fuel
used_within None a depth fuel ended b starts = let none : ended.used ≡ 0 = ap (λ (e : Ended). e.used) starts.0 in omega arith
used_within (Some function) a depth fuel ended b starts = starts.within

same_module : (start : Option ℕ) (a : KeptInstance) (depth fuel : ℕ) (ended : Ended) (b : KeptInstance) → StartsBy start a depth fuel ended b → b.loaded ≡ a.loaded
same_module None a depth fuel ended b starts = ap (λ (k : KeptInstance). k.loaded) starts.1
same_module (Some function) a depth fuel ended b starts = starts.same

module _ (loaded : Loaded) (new : KeptInstance) (depth fuel : ℕ) (started : Ended) (ready : KeptInstance) (is_new : IsNew loaded new) (starts : StartsInstance new depth fuel started ready) where
  pub fuel_left : started.used ≤ fuel
  fuel_left = used_within new.loaded.contents.start new depth fuel started ready starts

  pub of_module : ready.loaded ≡ loaded
  of_module = same_module new.loaded.contents.start new depth fuel started ready starts ∙ is_new.same

  pub is_ready : IsReadyForCalls loaded.contents depth fuel started ready
  is_ready = record { loaded = loaded; of_module = refl; new = new; is_new = is_new; starts = starts }
