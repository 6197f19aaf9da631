-- What a loop's owner does between two of its steps, among the threads and in the world, but for a post.
use Rattle.schedules.proofs.Words.{after_clock, Answer, answered, ap, Bool, Core, core, Desk, desk_calls, false, in_state, is_failed, is_taken_by, List}
use Rattle.schedules.proofs.Words.{LogEntry, Loop, MatchBool, Only, refl, set_same, Setting, slice_get, slice_set, Some, sym, TakesReplyTo, true, UnlessFailed}
use Rattle.schedules.proofs.Words.{with_loop, with_replies, with_requests, Worker, World, WorldStep, ℕ, [], ◌∙◌, ◌∷◌, ◌≡◌}
use Rattle.std.specs.Int.{w32, cast_signed}
use Rattle.phases.specs.Outside.{CancelIn}
use Rattle.world_log.specs.declared.step.Step.TheVariants as step
use Rattle.world_log.specs.declared.entry.LogEntry.TheVariants as line
use Rattle.world_log.specs.declared.outcome.CollectOutcome.TheVariants as collect
use Rattle.world.specs.World.{CollectsReplies, CollectsFrom, CancelsRequest, ClocksAt}
use Rattle.schedules.proofs.RunsOfOneJobEach.{beside}

-- The same step of the world, where the loop stands as it does among the threads.
pub record Owned (r r' : World) (n : ℕ) (entry : LogEntry) (ls : List (Core Desk)) (ws : List Worker) (F : World → Type 0) : Type 0 where
  pub now : Core Desk
  pub moves : F (beside r' (slice_set ls n now) ws)
  pub loops : r'.loops ≡ slice_set r.loops n now
  pub workers : r'.workers ≡ r.workers
  pub jobs : r'.jobs ≡ r.jobs
  pub quiet : (k : ℕ) → is_taken_by k entry ≡ false

module _ (r r' : World) (n : ℕ) (entry : LogEntry) (ls : List (Core Desk)) (ws : List Worker) where
  abbrev w : World
  w = beside r ls ws

  abbrev Out : (World → Type 0) → Type 0
  Out F = Owned r r' n entry ls ws F

  other : (F G : World → Type 0) → ((w' : World) → F w' → G w') → Out F → Out G
  other F G f h = record { now = h.now; moves = f (beside r' (slice_set ls n h.now) ws) h.moves; loops = h.loops; workers = h.workers; jobs = h.jobs; quiet = h.quiet }

  either_out : (b : Bool) (P Q : Type 0) (P' Q' : World → Type 0) → (P → Out P') → (Q → Out Q') → MatchBool b P Q → Out (λ w'. MatchBool b (P' w') (Q' w'))
  either_out true P Q P' Q' f k h = f h
  either_out false P Q P' Q' f k h = k h

  module _ (g : Setting) (l : Loop Desk) (at : slice_get r.loops n ≡ Some (core g l)) (here : slice_get ls n ≡ Some (core g l)) where
    -- the loop is this now
    becomes : (F : World → Type 0) (now : Core Desk) → F (beside r' (slice_set ls n now) ws) → r'.loops ≡ slice_set r.loops n now → r'.workers ≡ r.workers
        → r'.jobs ≡ r.jobs → ((k : ℕ) → is_taken_by k entry ≡ false) → Out F
    becomes F now moves loops workers jobs quiet = record {
      now = now;
      moves = moves;
      loops = loops;
      workers = workers;
      jobs = jobs;
      quiet = quiet;
    }

    only_out : (told : LogEntry) → ((k : ℕ) → is_taken_by k told ≡ false) → Only r entry told r' → Out (λ w'. Only w entry told w')
    only_out told quiet h =
        becomes (λ w'. Only w entry told w') (core g l) (h.0, ap (λ x. beside r' x ws) (set_same ls n (core g l) here) ∙ ap (λ x. beside x ls ws) h.1)
        (ap (λ (x : World). x.loops) h.1 ∙ sym (set_same r.loops n (core g l) at)) (ap (λ (x : World). x.workers) h.1) (ap (λ (x : World). x.jobs) h.1)
        (λ k. ap (is_taken_by k) h.0 ∙ quiet k)

    pub owner_tells : (F : World → Type 0) (told : LogEntry) → ((k : ℕ) → is_taken_by k told ≡ false) → ((w' : World) → Only w entry told w' → F w') → Only r entry told r' → Out F
    owner_tells F told quiet f h = other (λ w'. Only w entry told w') F f (only_out told quiet h)

    unless_out : (P : Type 0) (P' : World → Type 0) → (P → Out P') → UnlessFailed r n l entry r' P → Out (λ w'. UnlessFailed w n l entry w' (P' w'))
    unless_out P P' f h = either_out (is_failed l.state.status) _ P (λ w'. Only w entry (line.Failed n) w') P' (only_out (line.Failed n) (λ k. refl)) f h

    collects_from : (replies : List Answer) → CollectsFrom r n g l replies entry r' → Out (λ w'. CollectsFrom w n g l replies entry w')
    collects_from [] h = only_out (line.Collect n collect.Nothing) (λ k. refl) h
    collects_from (a ∷ replies) h =
        other (λ w'. _) (λ w'. CollectsFrom w n g l (a ∷ replies) entry w') (λ w' k. (h.0, k))
        (either_out h.0 _ _
        (λ w'. TakesReplyTo a.order l.state × (entry ≡ line.Collect n (collect.Request a.order.request)) × (w' ≡ with_replies (with_loop w n g m) n replies))
        (λ w'. (TakesReplyTo a.order l.state → ⊥) × (entry ≡ line.Collect n collect.Stranger) × (w' ≡ with_replies w n replies))
        (λ k.
        becomes (λ w'. TakesReplyTo a.order l.state × (entry ≡ line.Collect n (collect.Request a.order.request)) × (w' ≡ with_replies (with_loop w n g m) n replies)) (core g m)
        (k.0, k.1, ap (λ x. beside x (slice_set ls n (core g m)) ws) k.2) (ap (λ (x : World). x.loops) k.2) (ap (λ (x : World). x.workers) k.2) (ap (λ (x : World). x.jobs) k.2)
        (λ i. ap (is_taken_by i) k.1))
        (λ k.
        becomes (λ w'. (TakesReplyTo a.order l.state → ⊥) × (entry ≡ line.Collect n collect.Stranger) × (w' ≡ with_replies w n replies)) (core g l)
        (k.0, k.1, ap (λ x. beside r' x ws) (set_same ls n (core g l) here) ∙ ap (λ x. beside x ls ws) k.2)
        (ap (λ (x : World). x.loops) k.2 ∙ sym (set_same r.loops n (core g l) at)) (ap (λ (x : World). x.workers) k.2) (ap (λ (x : World). x.jobs) k.2)
        (λ i. ap (is_taken_by i) k.1))
        h.1) where
          m : Loop Desk
          m = in_state l (with_requests l.state (answered l.state.requests a.order a.end))

    cancels : (request answer : ℕ) (l' : Loop Desk)
        → (CancelIn desk_calls l.state.status (l.state, l.shared) request answer (l'.state, l'.shared) × (l'.store ≡ l.store)
        × (entry ≡ line.Cancel n request (cast_signed w32 answer)) × (r' ≡ with_loop r n g l'))
        → Out (λ w'. CancelIn desk_calls l.state.status (l.state, l.shared) request answer (l'.state, l'.shared) × (l'.store ≡ l.store)
        × (entry ≡ line.Cancel n request (cast_signed w32 answer)) × (w' ≡ with_loop w n g l'))
    cancels request answer l' h =
        becomes _ (core g l') (h.0, h.1, h.2, ap (λ x. beside x (slice_set ls n (core g l')) ws) h.3)
        (ap (λ (x : World). x.loops) h.3) (ap (λ (x : World). x.workers) h.3) (ap (λ (x : World). x.jobs) h.3) (λ k. ap (is_taken_by k) h.2)

    clocks : (m : Loop Desk) (clock : ℕ) → ((entry ≡ line.Clock n clock) × (r' ≡ with_loop r n g m)) → Out (λ w'. (entry ≡ line.Clock n clock) × (w' ≡ with_loop w n g m))
    clocks m clock h =
        becomes _ (core g m) (h.0, ap (λ x. beside x (slice_set ls n (core g m)) ws) h.1)
        (ap (λ (x : World). x.loops) h.1) (ap (λ (x : World). x.workers) h.1) (ap (λ (x : World). x.jobs) h.1) (λ k. ap (is_taken_by k) h.0)

  -- the loop is the same in both
  abbrev IsSame : Type 0
  IsSame = (p : Core Desk) → slice_get r.loops n ≡ Some p → slice_get ls n ≡ Some p

  module _ (same : IsSame) where
    pub owner_collects : CollectsReplies r n entry r' → Out (λ w'. WorldStep w (step.Collect n) entry w')
    owner_collects h =
        let here = same (core h.0 h.1) h.3 in
        other _ (λ w'. WorldStep w (step.Collect n) entry w') (λ w' k. (h.0, h.1, h.2, here, h.4, k))
        (unless_out h.0 h.1 h.3 here _ (λ w'. CollectsFrom w n h.0 h.1 h.2 entry w') (collects_from h.0 h.1 h.3 here h.2) h.5)

    pub owner_cancels : (request : ℕ) → CancelsRequest r n request entry r' → Out (λ w'. WorldStep w (step.Cancel n request) entry w')
    owner_cancels request h =
        let here = same (core h.0 h.1) h.4 in
        other _ (λ w'. WorldStep w (step.Cancel n request) entry w') (λ w' k. (h.0, h.1, h.2, h.3, here, k))
        (unless_out h.0 h.1 h.4 here _ _ (cancels h.0 h.1 h.4 here request h.3 h.2) h.5)

    pub owner_clocks : (ms : ℕ) → ClocksAt r n ms entry r' → Out (λ w'. WorldStep w (step.Clock n ms) entry w')
    owner_clocks ms h =
        let here = same (core h.0 h.1) h.2 in
        other _ (λ w'. WorldStep w (step.Clock n ms) entry w') (λ w' k. (h.0, h.1, here, k))
        (unless_out h.0 h.1 h.2 here _ _ (clocks h.0 h.1 h.2 here (in_state h.1 (after_clock h.1.state ms)) (after_clock h.1.state ms).clock) h.3)
