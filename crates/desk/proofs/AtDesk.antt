-- The histories of a loop at a desk.
use Rattle.std.proofs.Common.{◌≡◌, ◌<◌, true, false, List, [], ◌∷◌, refl, sym, ap, subst, arith}
use Rattle.limits.specs.declared.TheConstants.{MAX_ASYNCS}
use Rattle.phases.specs.Calls.{Calls, IsLawful}
use Rattle.phases.specs.History.{Event, Stepped, OrderAsked, EndOffered, CancelAnswered, RequestAnswered, ClockRaised, MovedBeside, EventStep, IsOpening}
use Rattle.phases.specs.State.{Setting, Loop}
use Rattle.phases.specs.Step.{over}
use Rattle.phases.proofs.Asyncs.{Few, event_few, async_below}
use Rattle.phases.proofs.Mirroring.{step_mirrors, cancel_mirrors, request_mirrors}
use Rattle.desk.specs.Desk.{Desk, new_desk}
use Rattle.desk.specs.Others.{busy_calls}
use Rattle.desk.specs.Laws.{Passed, PassesThrough, GoesAtDesk, PassesAtDesk, IsAtDesk}
use Rattle.desk.proofs.Standing.{Stands, standing, stands_moved}

module _ {S : Type 0} (calls : Calls S) (lawful : IsLawful calls) (g : Setting) where
  -- an event, from this desk
  abbrev Follows : Event → (old new : Loop S) → Desk → Type 0
  Follows e old new d = (mid : Desk) × GoesAtDesk g e old new d mid × Stands calls lawful new.shared mid

  -- the object stays
  kept : (old new : Loop S) (d : Desk) → new.shared ≡ old.shared → Stands calls lawful old.shared d → Stands calls lawful new.shared d
  kept old new d same r = rw same r

  follows : (e : Event) (old new : Loop S) (d : Desk) → Few old.state → Stands calls lawful old.shared d → EventStep calls g e old new → Follows e old new d
  follows MovedBeside old new d few r h = (d, refl, stands_moved calls lawful old.shared new.shared d h.view r)
  follows (Stepped did emits made) old new d few r h =
      let one =
      step_mirrors calls busy_calls g (λ a. a < MAX_ASYNCS) (Stands calls lawful) (standing calls lawful) old did made new d
      (λ a handle is. async_below old.state a handle few is) r h.0 in
      (one.0, (one.1, h.1), one.2)
  follows (OrderAsked order) old new d few r h = (d, (h.0, ap (over d) h.1), kept old new d (ap (λ (l : Loop S). l.shared) h.1) r)
  follows (EndOffered o end true) old new d few r h = (d, (h.0, (h.1.0, ap (over d) h.1.1)), kept old new d (ap (λ (l : Loop S). l.shared) h.1.1) r)
  follows (EndOffered o end false) old new d few r h = (d, (h.0, (h.1.0, ap (over d) h.1.1)), kept old new d (ap (λ (l : Loop S). l.shared) h.1.1) r)
  follows (CancelAnswered request answer) old new d few r h =
      let one =
      cancel_mirrors calls busy_calls g (λ a. a < MAX_ASYNCS) (Stands calls lawful) (standing calls lawful)
      old.state.status (old.state, old.shared) d request answer (new.state, new.shared) r h.0 in
      (one.0, (one.1, h.1), one.2)
  follows (RequestAnswered op bytes answer) old new d few r h =
      let one =
      request_mirrors calls busy_calls g (λ a. a < MAX_ASYNCS) (Stands calls lawful) (standing calls lawful)
      old.state.status (old.state, old.shared) d op bytes answer (new.state, new.shared) r h.0 in
      (one.0, (one.1, h.1), one.2)
  follows (ClockRaised ms) old new d few r h = (d, ap (over d) h, kept old new d (ap (λ (l : Loop S). l.shared) h) r)

  goes : (passed : List (Passed S)) (old now : Loop S) (d : Desk) → Few old.state → Stands calls lawful old.shared d → PassesThrough calls g old passed now
      → (e : Desk) × PassesAtDesk g old passed d e × Stands calls lawful now.shared e
  goes [] old now d few r h = (d, refl, rw h r)
  goes (p ∷ passed) old now d few r h =
      let one = follows p.event old p.new d few r h.0 in
      let rest = goes passed p.new now one.0 (event_few calls g p.event old p.new h.0 few) one.2 h.1 in
      (rest.0, (one.0, one.1, rest.1), rest.2)

  -- a loop that opens, at a new desk
  begins : (l : Loop S) → IsOpening calls g l → Stands calls lawful l.shared (new_desk g.loop_no)
  begins l h = record { known = sym h.shared; waits = refl; wide = refl; found = λ c none. none }

  pub at_desk : (start now : Loop S) (passed : List (Passed S)) → IsOpening calls g start → PassesThrough calls g start passed now → IsAtDesk calls g start passed now
  at_desk start now passed opens h =
      let few : Few start.state = subst Few (sym opens.state) (omega arith) in
      let it = goes passed start now (new_desk g.loop_no) few (begins start opens) h in
      record { desk = it.0; known = it.2.known; goes = it.1 }
