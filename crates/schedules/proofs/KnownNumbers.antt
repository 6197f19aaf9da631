-- What stands in a world: numbers that its loops gave, and no others.
use Rattle.schedules.proofs.Words.{after_clock, Answer, Answered, answered, ap, AreInPlace, arith, Bool, Core, core, Desk, desk_calls, event_keeps, false, Idle}
use Rattle.schedules.proofs.Words.{in_state, inl, inr, is_open_stage, length, List, LogEntry, Loop, MatchBool, MAX_JOBS, next_order_of, None, Only}
use Rattle.schedules.proofs.Words.{opening_loop, opening_world, Option, OrderAsked, PostsOrder, refl, replicate, Setting, slice_get, slice_set, Some, Started}
use Rattle.schedules.proofs.Words.{State, Step, Stepped, subst, suc, sym, Taken, true, UnlessFailed, with_loop, with_requests, with_worker_at, Worker}
use Rattle.schedules.proofs.Words.{WorkOrder, World, WorldStep, zero, ℕ, [], ◌++◌, ◌==◌, ◌∙◌, ◌∷◌, ◌≡◌, ◌≢◌, ◌≤◌, ◌⊎◌}
use Rattle.tallies.proofs.Requests.{either}
use Rattle.phases.specs.History.{CancelAnswered}
use Rattle.phases.proofs.OrdersHandedOnce.{IsLowest, handed_is}
use Rattle.world_log.specs.declared.step.Step.TheVariants as step
use Rattle.world_log.specs.declared.entry.LogEntry.TheVariants as line
use Rattle.world_log.specs.declared.outcome.PostOutcome.TheVariants as post
use Rattle.world.specs.World.{WorkerTakesJob, StartsJob, FinishesJob, CollectsFrom}
use Rattle.world.proofs.Sets.{made_of}
use Rattle.schedules.proofs.Hands.{set_cases}
use Rattle.schedules.proofs.Numbers.{AreOwn, Numbered, Kept, own_found, keeps_numbered, staged}

-- the order's number was given by its loop
abbrev pub IsGiven : List (Core Desk) → WorkOrder → Type 0
IsGiven ls o = (p : Core Desk) → slice_get ls o.loop_no ≡ Some p → o.request ≤ p.loop.state.requests.last

abbrev pub AreGiven : List (Core Desk) → List WorkOrder → Type 0
AreGiven ls [] = Unit {0}
AreGiven ls (o ∷ os) = IsGiven ls o × AreGiven ls os

pub record IsPlaced (n : ℕ) (p : Core Desk) : Type 0 where
  pub place : p.setting.loop_no ≡ n
  pub own : AreOwn n p.loop.state.requests.last p.loop.state.requests.outstanding

-- Each loop's number is its place, its requests are its own, and the jobs that wait or that a worker took have numbers that
-- their loops gave.
pub record Stands (w : World) : Type 0 where
  pub loops : (n : ℕ) (p : Core Desk) → slice_get w.loops n ≡ Some p → IsPlaced n p
  pub jobs : AreGiven w.loops w.jobs
  pub workers : (k : ℕ) (o : WorkOrder) → slice_get w.workers k ≡ Some (Taken o) → IsGiven w.loops o

given_all : (ls ls' : List (Core Desk)) (os : List WorkOrder) → ((o : WorkOrder) → IsGiven ls o → IsGiven ls' o) → AreGiven ls os → AreGiven ls' os
given_all ls ls' [] f h = tt
given_all ls ls' (o ∷ os) f h = (f o h.0, given_all ls ls' os f h.1)

given_push : (ls : List (Core Desk)) (os : List WorkOrder) (o : WorkOrder) → IsGiven ls o → AreGiven ls os → AreGiven ls (os ++ o ∷ [])
given_push ls [] o one h = (one, tt)
given_push ls (x ∷ os) o one h = (h.0, given_push ls os o one h.1)

-- one loop is another, whose numbers rose
module _ (ls : List (Core Desk)) (n : ℕ) (g : Setting) (l m : Loop Desk) (at : slice_get ls n ≡ Some (core g l)) (numbered : Numbered g.loop_no l.state.requests.last m.state.requests) where
  given_moved : (o : WorkOrder) → IsGiven ls o → IsGiven (slice_set ls n (core g m)) o
  given_moved o h p at_p = by (set_cases ls n o.loop_no (core g m) (core g l) p at at_p) where
    by : ((o.loop_no ≡ n) × (p ≡ core g m)) ⊎ ((o.loop_no ≢ n) × (slice_get ls o.loop_no ≡ Some p)) → o.request ≤ p.loop.state.requests.last
    by (inl it) =
        let low = h (core g l) (ap (slice_get ls) it.0 ∙ at) in
        let more = numbered.risen in
        let most : o.request ≤ m.state.requests.last = omega (arith, low, more) in
        rw it.1 most
    by (inr it) = h p it.1

  placed_moved : ((k : ℕ) (p : Core Desk) → slice_get ls k ≡ Some p → IsPlaced k p) → (k : ℕ) (p : Core Desk) → slice_get (slice_set ls n (core g m)) k ≡ Some p → IsPlaced k p
  placed_moved h k p at_p = by (set_cases ls n k (core g m) (core g l) p at at_p) where
    by : ((k ≡ n) × (p ≡ core g m)) ⊎ ((k ≢ n) × (slice_get ls k ≡ Some p)) → IsPlaced k p
    by (inl it) =
        let place : g.loop_no ≡ k = (h n (core g l) at).place ∙ sym it.0 in
        subst (IsPlaced k) (sym it.1) (record { place = place; own = (rw place at numbered.own) })
    by (inr it) = h k p it.1

module _ (w w' : World) (s : Stands w) where
  same_workers : w'.workers ≡ w.workers → (f : (o : WorkOrder) → IsGiven w.loops o → IsGiven w'.loops o) → (k : ℕ) (o : WorkOrder) → slice_get w'.workers k ≡ Some (Taken o) → IsGiven w'.loops o
  same_workers e f k o at = f o (s.workers k o (ap (λ xs. slice_get xs k) (sym e) ∙ at))

  -- a worker is at something else
  set_workers : (n : ℕ) (was now : Worker) → slice_get w.workers n ≡ Some was → w'.workers ≡ slice_set w.workers n now → (f : (o : WorkOrder) → IsGiven w.loops o → IsGiven w'.loops o)
      → ((o : WorkOrder) → now ≡ Taken o → IsGiven w'.loops o) → (k : ℕ) (o : WorkOrder) → slice_get w'.workers k ≡ Some (Taken o) → IsGiven w'.loops o
  set_workers n was now at_n e f new k o at = by (set_cases w.workers n k now was (Taken o) at_n (ap (λ xs. slice_get xs k) (sym e) ∙ at)) where
    by : ((k ≡ n) × (Taken o ≡ now)) ⊎ ((k ≢ n) × (slice_get w.workers k ≡ Some (Taken o))) → IsGiven w'.loops o
    by (inl it) = new o (sym it.1)
    by (inr it) = f o (s.workers k o it.1)

  same_given : w'.loops ≡ w.loops → (o : WorkOrder) → IsGiven w.loops o → IsGiven w'.loops o
  same_given e o h = rw e h

  same_loops : w'.loops ≡ w.loops → (n : ℕ) (p : Core Desk) → slice_get w'.loops n ≡ Some p → IsPlaced n p
  same_loops e n p at = s.loops n p (ap (λ ls. slice_get ls n) (sym e) ∙ at)

  kept_jobs : w'.jobs ≡ w.jobs → ((o : WorkOrder) → IsGiven w.loops o → IsGiven w'.loops o) → AreGiven w'.loops w'.jobs
  kept_jobs e f = subst (AreGiven w'.loops) (sym e) (given_all w.loops w'.loops w.jobs f s.jobs)

  stays : w'.loops ≡ w.loops → w'.jobs ≡ w.jobs → w'.workers ≡ w.workers → Stands w'
  stays loops jobs states = record { loops = same_loops loops; jobs = kept_jobs jobs (same_given loops); workers = same_workers states (same_given loops) }

  only : (entry told : LogEntry) → Only w entry told w' → Stands w'
  only entry told h = stays (ap (λ (x : World). x.loops) h.1) (ap (λ (x : World). x.jobs) h.1) (ap (λ (x : World). x.workers) h.1)

  unless : (n : ℕ) (m : Loop Desk) (entry : LogEntry) (P : Type 0) → (P → Stands w') → UnlessFailed w n m entry w' P → Stands w'
  unless n m entry P f h = either _ _ _ (Stands w') (only entry (line.Failed n)) f h

  -- one loop changes
  module _ (n : ℕ) (g : Setting) (l m : Loop Desk) (at : slice_get w.loops n ≡ Some (core g l)) (loops : w'.loops ≡ slice_set w.loops n (core g m)) where
    start : Kept g l.state.requests.last [] l.state.requests
    start = let it = s.loops n (core g l) at in record {
      risen = omega arith;
      own = rw it.place it.own;
    }

    module _ (numbered : Numbered g.loop_no l.state.requests.last m.state.requests) where
      now_given : (o : WorkOrder) → IsGiven w.loops o → IsGiven w'.loops o
      now_given o h = rw loops (given_moved w.loops n g l m at numbered o h)

      now_loops : (k : ℕ) (p : Core Desk) → slice_get w'.loops k ≡ Some p → IsPlaced k p
      now_loops k p at_p = placed_moved w.loops n g l m at numbered s.loops k p (ap (λ ls. slice_get ls k) (sym loops) ∙ at_p)

      moved : w'.jobs ≡ w.jobs → w'.workers ≡ w.workers → Stands w'
      moved jobs states = record { loops = now_loops; jobs = kept_jobs jobs now_given; workers = same_workers states now_given }

  -- an order is handed out
  posts : (n : ℕ) (g : Setting) (l : Loop Desk) (entry : LogEntry) (out : Option WorkOrder × State) → slice_get w.loops n ≡ Some (core g l)
      → next_order_of l.state ≡ out → PostsOrder w n g l out entry w' → Stands w'
  posts n g l entry (None, st) at is h = only entry (line.Post n post.Nothing) h
  posts n g l entry (Some o, st) at is h = record {
    loops = now_loops n g l m at loops numbered;
    jobs = subst (AreGiven w'.loops) (sym jobs) (given_push w'.loops w.jobs o given (given_all w.loops w'.loops w.jobs (now_given n g l m at loops numbered) s.jobs));
    workers = same_workers (ap (λ (x : World). x.workers) h.1) (now_given n g l m at loops numbered);
  } where
    m : Loop Desk
    m = in_state l st

    loops : w'.loops ≡ slice_set w.loops n (core g m)
    loops = ap (λ (x : World). x.loops) h.1

    jobs : w'.jobs ≡ w.jobs ++ o ∷ []
    jobs = ap (λ (x : World). x.jobs) h.1

    numbered : Numbered g.loop_no l.state.requests.last m.state.requests
    numbered =
        event_keeps desk_calls g (Kept g l.state.requests.last) (keeps_numbered g l.state.requests.last) [] (OrderAsked (Some o)) l m
        (sym (ap (λ (p : Option WorkOrder × State). p.0) is), ap (in_state l) (sym (ap (λ (p : Option WorkOrder × State). p.1) is))) (start n g l m at loops)

    lowest : IsLowest l.state o
    lowest = handed_is l.state.status l.state o refl (sym (ap (λ (p : Option WorkOrder × State). p.0) is))

    found : (o.loop_no ≡ n) × (o.request ≤ l.state.requests.last)
    found =
        rw (← lowest.order)
        (own_found n l.state.requests.last (λ x. is_open_stage x.stage) l.state.requests.outstanding lowest.request lowest.lowest (s.loops n (core g l) at).own)

    before : IsGiven w.loops o
    before p at_p =
        (let same : core g l ≡ p = (let both = sym at ∙ ap (slice_get w.loops) (sym found.0) ∙ at_p in cc) in
        rw (← same) found.1)

    given : IsGiven w'.loops o
    given = now_given n g l m at loops numbered o before

  take : (n : ℕ) (state : Worker) (jobs : List WorkOrder) (entry : LogEntry) → slice_get w.workers n ≡ Some state → w.jobs ≡ jobs → WorkerTakesJob w n state jobs entry w' → Stands w'
  take n Idle (o ∷ jobs) entry at is h =
      let loops : w'.loops ≡ w.loops = ap (λ (x : World). x.loops) h.1 in
      let given : AreGiven w.loops (o ∷ jobs) = subst (AreGiven w.loops) is s.jobs in
      record {
        loops = same_loops loops;
        jobs = subst (AreGiven w'.loops) (sym (ap (λ (x : World). x.jobs) h.1)) (given_all w.loops w'.loops jobs (same_given loops) given.1);
        workers =
            set_workers n Idle (Taken o) at (ap (λ (x : World). x.workers) h.1) (same_given loops)
            (λ k same. (let it : o ≡ k = cc in subst (IsGiven w'.loops) it (same_given loops o given.0)));
      }
  take n _ _ entry at is h = only entry (line.Take n None) h

  idle : (n : ℕ) (was now : Worker) → slice_get w.workers n ≡ Some was → ((o : WorkOrder) → now ≡ Taken o → ⊥) → w'.loops ≡ w.loops → w'.jobs ≡ w.jobs
      → w'.workers ≡ slice_set w.workers n now → Stands w'
  idle n was now at never loops jobs states = record {
    loops = same_loops loops;
    jobs = kept_jobs jobs (same_given loops);
    workers = set_workers n was now at states (same_given loops) (λ o e. absurd (never o e));
  }

  -- the same requests
  same_requests : (n : ℕ) (g : Setting) (l m : Loop Desk) → slice_get w.loops n ≡ Some (core g l) → m.state.requests ≡ l.state.requests → Numbered g.loop_no l.state.requests.last m.state.requests
  same_requests n g l m at same =
      let it = s.loops n (core g l) at in
      subst (Numbered g.loop_no l.state.requests.last) (sym same) (record {
        risen = omega arith;
        own = rw it.place it.own;
      })

  starts : (n : ℕ) (o : WorkOrder) (ok : Bool) (g : Setting) (l m : Loop Desk) (entry told dropped : LogEntry) → slice_get w.workers n ≡ Some (Taken o)
      → slice_get w.loops o.loop_no ≡ Some (core g l) → m.state ≡ l.state
      → MatchBool ok ((entry ≡ told) × (w' ≡ with_worker_at (with_loop w o.loop_no g m) n (Started o))) ((entry ≡ dropped) × (w' ≡ with_worker_at w n Idle)) → Stands w'
  starts n o true g l m entry told dropped at at_loop same h =
      let loops : w'.loops ≡ slice_set w.loops o.loop_no (core g m) = ap (λ (x : World). x.loops) h.1 in
      let numbered = same_requests o.loop_no g l m at_loop (ap (λ (x : State). x.requests) same) in
      let given = now_given o.loop_no g l m at_loop loops numbered in
      record {
        loops = now_loops o.loop_no g l m at_loop loops numbered;
        jobs = kept_jobs (ap (λ (x : World). x.jobs) h.1) given;
        workers = set_workers n (Taken o) (Started o) at (ap (λ (x : World). x.workers) h.1) given (λ k e. absurd (cc));
      }
  starts n o false g l m entry told dropped at at_loop same h =
      idle n (Taken o) Idle at (λ k e. (cc)) (ap (λ (x : World). x.loops) h.1) (ap (λ (x : World). x.jobs) h.1) (ap (λ (x : World). x.workers) h.1)

  start_next : (n : ℕ) (state : Worker) (entry : LogEntry) → slice_get w.workers n ≡ Some state → StartsJob w n state entry w' → Stands w'
  start_next n (Taken o) entry at h = starts n o h.3 h.0 h.1 h.2 entry _ _ at h.4 h.5.1 h.6
  start_next n Idle entry at h = only entry _ h
  start_next n (Started o) entry at h = only entry _ h

  finish_next : (n : ℕ) (state : Worker) (entry : LogEntry) → slice_get w.workers n ≡ Some state → FinishesJob w n state entry w' → Stands w'
  finish_next n (Started o) entry at h =
      idle n (Started o) Idle at (λ k e. (cc)) (ap (λ (x : World). x.loops) h.after) (ap (λ (x : World). x.jobs) h.after) (ap (λ (x : World). x.workers) h.after)
  finish_next n Idle entry at h = only entry _ h
  finish_next n (Taken o) entry at h = only entry _ h

  collects : (n : ℕ) (g : Setting) (l : Loop Desk) (replies : List Answer) (entry : LogEntry) → slice_get w.loops n ≡ Some (core g l) → CollectsFrom w n g l replies entry w' → Stands w'
  collects n g l [] entry at h = only entry _ h
  collects n g l (a ∷ replies) entry at h =
      either h.0 _ _ (Stands w')
      (λ k. (
      let m = in_state l (with_requests l.state (answered l.state.requests a.order a.end)) in
      let loops : w'.loops ≡ slice_set w.loops n (core g m) = ap (λ (x : World). x.loops) k.2 in
      moved n g l m at loops (staged g l.state.requests.last [] l.state.requests a.order.request (Answered a.end) refl (start n g l m at loops))
      (ap (λ (x : World). x.jobs) k.2) (ap (λ (x : World). x.workers) k.2)
      ))
      (λ k. stays (ap (λ (x : World). x.loops) k.2) (ap (λ (x : World). x.jobs) k.2) (ap (λ (x : World). x.workers) k.2))
      h.1

  pub step_stands : (st : Step) (entry : LogEntry) → WorldStep w st entry w' → Stands w'
  step_stands (step.Loop n) entry h =
      let loops : w'.loops ≡ slice_set w.loops n (core h.setting h.new) = ap (λ (x : World). x.loops) h.after in
      let last = h.old.state.requests.last in
      moved n h.setting h.old h.new h.at loops
      (event_keeps desk_calls h.setting (Kept h.setting last) (keeps_numbered h.setting last) []
      (Stepped h.did h.new.state.emits h.made) h.old h.new (h.steps, refl) (start n h.setting h.old h.new h.at loops))
      (ap (λ (x : World). x.jobs) h.after) (ap (λ (x : World). x.workers) h.after)
  step_stands (step.Post n) entry h =
      unless n h.1 entry _ (λ k. either (length w.jobs == MAX_JOBS) _ _ (Stands w') (only entry (line.Post n post.Full)) (posts n h.0 h.1 entry (next_order_of h.1.state) h.2 refl) k) h.3
  step_stands (step.Take n) entry h = take n h.0 w.jobs entry h.1 refl h.2
  step_stands (step.Start n) entry h = start_next n h.0 entry h.1 h.2
  step_stands (step.Finish n) entry h = finish_next n h.0 entry h.1 h.2
  step_stands (step.Collect n) entry h = unless n h.1 entry _ (collects n h.0 h.1 h.2 entry h.3) h.5
  step_stands (step.Send n a) entry h =
      moved n h.0 h.1 h.2 h.5 (ap (λ (x : World). x.loops) h.8) (same_requests n h.0 h.1 h.2 h.5 (ap (λ (x : State). x.requests) h.6.1))
      (ap (λ (x : World). x.jobs) h.8) (ap (λ (x : World). x.workers) h.8)
  step_stands (step.Cancel n request) entry h =
      unless n h.1 entry _
      (λ k. (
      let loops : w'.loops ≡ slice_set w.loops n (core h.0 h.2) = ap (λ (x : World). x.loops) k.3 in
      let last = h.1.state.requests.last in
      moved n h.0 h.1 h.2 h.4 loops
      (event_keeps desk_calls h.0 (Kept h.0 last) (keeps_numbered h.0 last) [] (CancelAnswered request h.3) h.1 h.2 (k.0, k.1) (start n h.0 h.1 h.2 h.4 loops))
      (ap (λ (x : World). x.jobs) k.3) (ap (λ (x : World). x.workers) k.3)
      )) h.5
  step_stands (step.Clock n ms) entry h =
      unless n h.1 entry _
      (λ k. moved n h.0 h.1 (in_state h.1 (after_clock h.1.state ms)) h.2 (ap (λ (x : World). x.loops) k.1) (same_requests n h.0 h.1 (in_state h.1 (after_clock h.1.state ms)) h.2 refl)
      (ap (λ (x : World). x.jobs) k.1) (ap (λ (x : World). x.workers) k.1)) h.3

-- as a world opens
none_taken : (k n : ℕ) (o : WorkOrder) → slice_get (replicate k Idle) n ≡ Some (Taken o) → ⊥
none_taken zero n o at = (cc)
none_taken (suc k) zero o at = (cc)
none_taken (suc k) (suc n) o at = none_taken k n o at

pub opening_stands : (settings : List Setting) (workers : ℕ) → AreInPlace settings → Stands (opening_world settings workers)
opening_stands settings workers placed = record {
  loops = λ n p at. let it = made_of opening_loop settings n p at in subst (IsPlaced n) it.2 (record { place = placed n it.0 it.1; own = tt });
  jobs = tt;
  workers = λ k o at. absurd (none_taken workers k o at);
}
