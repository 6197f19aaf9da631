-- A callback that is under way over one host is so over each that stands alike.
use Rattle.phases.proofs.Words.{ap, AreOpenedUpTo, AreTables, Caller, Calls, Contents, Host, HostCall, HostStep, Lawful, List, moves, Paused, refl, RunIsPaused}
use Rattle.phases.proofs.Words.{Setting, setting_of, SideTable, State, steps_map, Store, subst, ValidModule, Value, View, ℕ, ◌∙◌, ◌≡◌}
use Rattle.std.proofs.Props.{props}
use Rattle.interp.proofs.Slots.OtherHosts.{came_by, paused_over}
use Rattle.phases.proofs.GuestCallsKeep.{served}

-- what is opened is so in one way
opened_prop : (last : ℕ) (v : View) → IsProp (AreOpenedUpTo last v)
opened_prop last v = Prim.hlevel props

module _ {S : Type 0} (calls : Calls S) (actual : Host calls) where
  -- a host of the same loop, which stands like another
  abbrev pub placed : Host calls → Host calls
  placed h = record actual { state = h.state; shared = h.shared; opened = h.opened }

  at_same : (p : State × S) → p ≡ (actual.state, actual.shared) → (o : AreOpenedUpTo p.0.requests.last (calls.view p.1))
      → record actual { state = p.0; shared = p.1; opened = o } ≡ actual
  at_same p e =
      rw e (λ o. ap (λ (x : AreOpenedUpTo actual.state.requests.last (calls.view actual.shared)). record actual { opened = x }) (opened_prop actual.state.requests.last (calls.view actual.shared) o actual.opened))

  pub placed_is : (h : Host calls) → ◌≡◌ {A = State × S} (h.state, h.shared) (actual.state, actual.shared) → placed h ≡ actual
  placed_is h e = at_same (h.state, h.shared) e h.opened

  moved : (trace : List HostCall) (old new : Host calls) → setting_of old.setting ≡ setting_of actual.setting → Lawful (moves calls) trace old new
      → Lawful (moves calls) trace (placed old) (placed new)
  moved trace old new same h =
      (steps_map (moves calls) (moves calls) placed (λ x. setting_of x.setting ≡ setting_of actual.setting)
      (λ call x y same one. (
        record { step = subst (λ (g : Setting). HostStep calls g (x.state, x.shared) call (y.state, y.shared)) same one.step; same = refl },
        one.same ∙ same,
      ))
      trace old new same h).0

  pub paused_at_placed : (before after : Host calls) → setting_of before.setting ≡ setting_of actual.setting
      → (m : Contents) (tables : List SideTable) (s t : Store) (args : List Value) (fuel : ℕ) (paused : Paused) (slots : List ℕ) (frames : List Caller)
      → RunIsPaused m tables (moves calls) s before args fuel paused slots frames t after
      → RunIsPaused m tables (moves calls) s (placed before) args fuel paused slots frames t (placed after)
  paused_at_placed before after same = paused_over (moves calls) (moves calls) before after (placed before) (placed after) (λ trace. moved trace before after same)

-- what a loop is made of stays as its callback comes from one host to another
module _ {S : Type 0} (calls : Calls S) (m : Contents) (valid : ValidModule m) (tables : List SideTable) (agree : AreTables m tables) where
  pub same_made : (s t : Store) (before after : Host calls) (args : List Value) (fuel : ℕ) (paused : Paused) (slots : List ℕ) (frames : List Caller)
      → RunIsPaused m tables (moves calls) s before args fuel paused slots frames t after → setting_of after.setting ≡ setting_of before.setting
  same_made s t before after args fuel paused slots frames c =
      let it = came_by m valid tables agree (moves calls) s t before after args fuel paused slots frames c in
      (served calls (λ (h : Host calls). setting_of h.setting) (λ h. (h.state, h.shared)) it.0 before after it.1).same
