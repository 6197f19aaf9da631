-- The history of a thread's loop at a desk.
use Rattle.serve.proofs.Words.{ap, CancelAnswered, EndsBy, Event, EventStep, HasEnded, IsByThread, IsServed, List, Loop, LoopEnding, MovedBeside, over}
use Rattle.serve.proofs.Words.{passed_in, passed_of, refl, RequestAnswered, Seats, Served, Setting, slice_index, subst, sym, thread_calls, ThreadHistory, View}
use Rattle.serve.proofs.Words.{ℕ, [], ∥∥₁_map, ◌+◌, ◌∷◌, ◌≡◌}
use Rattle.desk.specs.Desk.{Desk, new_desk}
use Rattle.desk.specs.Laws.{PassesThrough, GoesAtDesk, PassesAtDesk, IsAsAtDesk}
use Rattle.desk.specs.Others.{busy_calls}
use Rattle.serve.specs.declared.served.LoopEnding.TheVariants as ending
use Rattle.serve.specs.AtDesk.{EndsAtDesk}

module _ (g : Setting) where
  pub passes_through : (old : Loop Seats) (events : List Event) (now : Loop Seats) (h : ThreadHistory thread_calls g old events now)
      → PassesThrough thread_calls g old (passed_in g old events now h) now
  passes_through old [] now h = h
  passes_through old (e ∷ events) now h = (h.1.0, passes_through h.0 events now h.2)

  -- what a thread does of its own, it does at the desk
  own_goes : (e : Event) (old new : Loop Seats) (d mid : Desk) → IsByThread e old.state → EventStep thread_calls g e old new → GoesAtDesk g e old new d mid
      → EventStep busy_calls g e (over d old) (over mid new)
  own_goes (CancelAnswered request answer) old new d mid own step h = absurd own
  own_goes (RequestAnswered op bytes answer) old new d mid own step h = absurd own
  own_goes MovedBeside old new d mid own step h = record { view = ap busy_calls.view h; state = step.state; store = step.store }
  own_goes _ old new d mid own step h = h

  goes_on : (events : List Event) (old now : Loop Seats) (d e : Desk) (h : ThreadHistory thread_calls g old events now)
      → PassesAtDesk g old (passed_in g old events now h) d e → ThreadHistory busy_calls g (over d old) events (over e now)
  goes_on [] old now d e h goes = λ i. over (goes i) (h i)
  goes_on (event ∷ events) old now d e h goes =
      (over goes.0 h.0, (own_goes event old h.0 d goes.0 h.1.1 h.1.0 goes.1, h.1.1), goes_on events h.0 now goes.0 e h.2 goes.2)

-- it ends so there
ends_over : (how : LoopEnding) (now : Loop Seats) (d : Desk) (ran : ℕ) → d.view ≡ thread_calls.view now.shared → EndsBy thread_calls how now ran → EndsBy busy_calls how (over d now) ran
ends_over ending.Waiting now d ran known h = record {
  phase = h.phase;
  none_due = h.none_due;
  none_outstanding = h.none_outstanding;
  for_ever = h.for_ever;
  drained = λ a active. subst (λ (v : View). slice_index v.untaken a ≡ 0) (sym known) (h.drained a active);
}
ends_over _ now d ran known h = h

ends_at_desk : IsAsAtDesk thread_calls → (g : Setting) (how : LoopEnding) (emits : List ℕ) → HasEnded thread_calls g how emits → EndsAtDesk g how emits
ends_at_desk law g how emits h =
    let done = h.done in
    let through = passes_through g done.start done.events h.now done.history in
    let it = law g done.start h.now (passed_of g done) done.opens through in
    record {
      ended = record {
        now = over it.desk h.now;
        ran = h.ran;
        few = h.few;
        done = record {
          start = over (new_desk g.loop_no) done.start;
          opens = record { state = done.opens.state; store = done.opens.store; shared = refl };
          events = done.events;
          history = goes_on g done.events done.start h.now (new_desk g.loop_no) it.desk done.history it.goes;
          alone = λ a. subst (λ (v : View). slice_index v.taken a + slice_index v.untaken a ≡ slice_index v.own a) (sym it.known) (done.alone a);
          counted = done.counted;
          told = done.told;
        };
        ends = ends_over how h.now it.desk h.ran it.known h.ends;
      };
      fresh = refl;
    }

pub served_at_desk : IsAsAtDesk thread_calls → (g : Setting) (served : Served) → IsServed g served → ∥ EndsAtDesk g served.ending served.emits.items ∥₁
served_at_desk law g served h = ∥∥₁_map h.ended (ends_at_desk law g served.ending served.emits.items)
