-- A callback in slices is over.
use Rattle.phases.proofs.Words.{ap, begun, calling, Calls, Ended, EntryKind, false, finished, GuestCall, Halt, Host, IfNone, IfSome, IsLinked, IsStoreOf, KeepsLoop, Leads}
use Rattle.phases.proofs.Words.{List, Loaded, Loop, LoopStopsAt, moves, Option, Ran, RunsFrom, scene, Setting, setting_of, State, Store, Value, ℕ, ◌≡◌}
use Rattle.events.specs.Bare.{whole, whole_ending}
use Rattle.events.specs.declared.ended.BareEnding.{BareEnding}
use Rattle.events.specs.declared.ended.Ending.{Ending}
use Rattle.phases.specs.Outside.{is_failed}
use Rattle.phases.proofs.LoopsKeep.{same_setting, runs_from, kept_after, unfailed_after}
use Rattle.phases.proofs.StopsOfCallbacks.{stops_at}

-- an ending without results, with its fuel
pub whole_is : (bare : BareEnding) (ended : Ended) → whole_ending bare ≡ ended.ending → whole (record { ending = bare; used = ended.used }) ≡ ended
whole_is bare ended e = ap (λ (x : Ending). record { ending = x; used = ended.used }) e

module _ {S : Type 0} (calls : Calls S) (loaded : Loaded) (g : Setting) (mid : Loop S) (function : ℕ) (args : List Value) (reply : Option (List ℕ))
    (keeps : KeepsLoop loaded g mid.state mid.store) (before after : Host calls) (made : setting_of before.setting ≡ g)
    (begins : ◌≡◌ {A = State × S} (before.state, before.shared) (begun mid.state reply, mid.shared)) (store : Store) (ended : Ended) (stop : Option Halt)
    (leads : Leads (moves calls) (calling loaded.contents function args g.fuel g.depth) (scene mid.store before) ended stop (scene store after)) where
  abbrev set : Host calls → Setting
  set h = setting_of h.setting

  abbrev stands : Host calls → State × S
  stands h = (h.state, h.shared)

  pub over_setting : setting_of after.setting ≡ g
  over_setting = same_setting calls set stands loaded g mid keeps before after made reply begins store function args ended stop leads

  pub over_stops : IfSome stop (λ sites. ∥ LoopStopsAt calls (setting_of after.setting) store sites ∥₁)
  over_stops = stops_at calls set stands loaded g keeps.same before after made mid.store store function args ended stop leads

  module _ (last : State) (e : last ≡ finished after.state ended) where
    pub over_keeps : IsLinked loaded.contents → IsStoreOf loaded.contents store → KeepsLoop loaded (setting_of after.setting) last store
    over_keeps linked fits =
        kept_after calls set stands loaded g mid keeps before after made reply begins store function args ended stop leads linked fits last e

    pub over_unfailed : is_failed mid.state.status ≡ false → IfNone stop (is_failed last.status ≡ false)
    over_unfailed unfailed = unfailed_after calls set stands loaded g mid keeps before after made reply begins store function args ended stop leads unfailed last e

    pub over_runs : (kind : EntryKind) (number : ℕ)
        → (calls_made : List GuestCall) × RunsFrom calls g mid kind number function args reply (Ran kind number ended) calls_made
        (record { state = last; store = store; shared = after.shared })
    over_runs kind number = runs_from calls set stands loaded g mid keeps before after made reply begins store function args ended stop leads kind number last e
