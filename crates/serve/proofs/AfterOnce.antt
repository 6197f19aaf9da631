-- The after-work callbacks of a loop that was served.
use Rattle.serve.proofs.Words.{Event, EventStep, HasEnded, History, IsAfterLast, IsAfterOnce, IsAfterOwn, IsServed, List, Loop, LoopEnding, Seats, Served}
use Rattle.serve.proofs.Words.{Setting, subst, thread_calls, ThreadHistory, ThreadStep, ℕ, ∥∥₁_map, ◌++◌, ◌∷◌}
use Rattle.reduction.proofs.StepByStep.{steps_split, steps_map}
use Rattle.serve.specs.AfterOnce.{EndsAfterOnce}

module _ (g : Setting) where
  pub history_of : (events : List Event) (old now : Loop Seats) → ThreadHistory thread_calls g old events now → History thread_calls g old events now
  history_of events old now h =
      (steps_map (ThreadStep thread_calls g) (λ l e m. EventStep thread_calls g e l m) (λ l. l) (λ l. Unit {0}) (λ e l m held one. (one.0, tt)) events old now tt h).0

  -- a history up to one of its events
  pub record IsLed (start : Loop Seats) (before : List Event) (e : Event) : Type 0 where
    pub old : Loop Seats
    pub new : Loop Seats
    pub led : ThreadHistory thread_calls g start before old
    pub step : EventStep thread_calls g e old new

  pub led_to : (before behind : List Event) (e : Event) (start now : Loop Seats) → ThreadHistory thread_calls g start (before ++ e ∷ behind) now → IsLed start before e
  led_to before behind e start now h =
      let it = steps_split (ThreadStep thread_calls g) before (e ∷ behind) start now h in
      record { old = it.0; new = it.2.0; led = it.1; step = it.2.1.0 }

module _ (once : IsAfterOnce thread_calls) (own : IsAfterOwn thread_calls) (last : IsAfterLast thread_calls) where
  unfoldable pub ends_once : (g : Setting) (how : LoopEnding) (emits : List ℕ) → HasEnded thread_calls g how emits → EndsAfterOnce g how emits
  ends_once g how emits h =
      let done = h.done in
      record {
        ended = h;
        once = once g done.start h.now done.events done.opens (history_of g done.events done.start h.now done.history);
        own = λ request before behind did out made is after.
            let it = led_to g before behind _ done.start h.now (subst (λ events. ThreadHistory thread_calls g done.start events h.now) is done.history) in
            record {
              old = it.old;
              new = it.new;
              led = it.led;
              own = own g done.start it.old it.new before did out made done.opens (history_of g before done.start it.old it.led) it.step request after;
            };
        last = λ request before behind e is after.
            last g done.start h.now before behind e done.opens
            (history_of g (before ++ e ∷ behind) done.start h.now (subst (λ events. ThreadHistory thread_calls g done.start events h.now) is done.history)) request after;
      }

  pub served_once : (g : Setting) (served : Served) → IsServed g served → ∥ EndsAfterOnce g served.ending served.emits.items ∥₁
  served_once g served h = ∥∥₁_map h.ended (ends_once g served.ending served.emits.items)
