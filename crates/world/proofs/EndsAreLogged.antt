-- Whatever a loop has as the end of a job stands in the log, in the line that tells that the job was finished.
use Rattle.world.proofs.Words.{ap, CollectsFrom, Contains-append_left, Contains-push, IsKeptInSteps, next_order_of, opening_loop, opening_world, WorkerTakesJob}
use Rattle.world.proofs.Words.{after_clock, Bool, CancelFate, cancelled, Completion, desk_calls, FinishesJob, lowest_open, PostsOrder, step_keeps, UnlessFailed}
use Rattle.world.proofs.Words.{Answered, Contains, eqb-true, GuestCall, HandedOut, is_failed, slice_get, slice_set, StartsJob, StepsLoop, WorkOrder, WorldStep}
use Rattle.world.proofs.Words.{Answer, AreDue, fate_in, handing, in_state, LogEntry, MAX_JOBS, next_in, Request, Requests, Running, Setting, Started, WorldRun}
use Rattle.world.proofs.Words.{cond, Core, core, Desk, either, Failed, false, filter, find, length, Option, State, Status, stayed, subst, Taken, Worker, World}
use Rattle.world.proofs.Words.{Idle, inl, inr, List, Loop, map, None, not, Only, Over, refl, Some, Step, suc, sym, true, zero, ℕ, [], ◌++◌, ◌==◌, ◌∙◌, ◌∷◌, ◌≡◌}
use Rattle.order.specs.Work.{WorkEnd, Done}
use Rattle.phases.specs.Requests.{Stage, Open, Cancelled, cancellation, has_number, request_of, in_stage, completion_of, end_completion}
use Rattle.phases.proofs.StepsByCalls.{CallFate, changes_nothing, opens_one, cancels_one, call_forgets}
use Rattle.world_log.specs.declared.step.Step.TheVariants as step
use Rattle.world_log.specs.declared.entry.LogEntry.TheVariants as line
use Rattle.world_log.specs.declared.outcome.PostOutcome.TheVariants as post
use Rattle.world_log.specs.declared.outcome.StartOutcome.TheVariants as start
use Rattle.world_log.specs.declared.outcome.FinishOutcome.TheVariants as finish
use Rattle.world_log.specs.declared.outcome.CollectOutcome.TheVariants as collect
use Rattle.world.specs.Laws.{WasFinished}
use Rattle.world.proofs.GuestsOfRuns.{kept_in_run}
use Rattle.world.proofs.Sets.{made_of}

later : (log : List LogEntry) (entry : LogEntry) (l request : ℕ) (end : WorkEnd) → WasFinished l request end log → WasFinished l request end (log ++ entry ∷ [])
later log entry l request end h = (h.0, h.1, h.2, Contains-append_left log (entry ∷ []) _ h.3)

-- the lines of the requests that were answered, and of the replies that wait
module _ (log : List LogEntry) (l : ℕ) where
  abbrev pub AreAnswered : List Request → Type 0
  AreAnswered [] = Unit {0}
  AreAnswered (q ∷ qs) = ((end : WorkEnd) → q.stage ≡ Answered end → WasFinished l q.order.request end log) × AreAnswered qs

  abbrev AreReplies : List Answer → Type 0
  AreReplies [] = Unit {0}
  AreReplies (a ∷ rest) = WasFinished l a.order.request a.end log × AreReplies rest

  reply_push : (xs : List Answer) (a : Answer) → WasFinished l a.order.request a.end log → AreReplies xs → AreReplies (xs ++ a ∷ [])
  reply_push [] a h all = (h, tt)
  reply_push (x ∷ xs) a h all = (all.0, reply_push xs a h all.1)

  staged : (n : ℕ) (s : Stage) (qs : List Request) → ((end : WorkEnd) → s ≡ Answered end → WasFinished l n end log) → AreAnswered qs → AreAnswered (map (in_stage n s) qs)
  staged n s [] told h = tt
  staged n s (q ∷ qs) told h = (by (has_number n q) refl, staged n s qs told h.1) where
    by : (b : Bool) → has_number n q ≡ b → (end : WorkEnd) → (cond b (record q { stage = s }) q).stage ≡ Answered end → WasFinished l (cond b (record q { stage = s }) q).order.request end log
    by true is end e = rw (eqb-true q.order.request n is) (told end e)
    by false is end e = h.0 end e

  opened : (qs : List Request) (o : WorkOrder) → AreAnswered qs → AreAnswered (qs ++ record { order = o; stage = Open } ∷ [])
  opened [] o h = (λ end e. absurd (cc), tt)
  opened (q ∷ qs) o h = (h.0, opened qs o h.1)

  filtered : (p : Request → Bool) (qs : List Request) → AreAnswered qs → AreAnswered (filter p qs)
  filtered p [] h = tt
  filtered p (q ∷ qs) h = by (p q) (filtered p qs h.1) where
    by : (b : Bool) → AreAnswered (filter p qs) → AreAnswered (cond b (q ∷ filter p qs) (filter p qs))
    by true rest = (h.0, rest)
    by false rest = rest

  found : (p : Request → Bool) (qs : List Request) (q : Request) → find p qs ≡ Some q → AreAnswered qs → (end : WorkEnd) → q.stage ≡ Answered end → WasFinished l q.order.request end log
  found p [] q is h end e = absurd (cc)
  found p (x ∷ qs) q is h end e = by (p x) (λ at. found p qs q at h.1 end e) is where
    by : (b : Bool) → (find p qs ≡ Some q → WasFinished l q.order.request end log) → cond b (Some x) (find p qs) ≡ Some q → WasFinished l q.order.request end log
    by true rest at = (let same : x ≡ q = cc in rw same at (h.0 end (ap (λ (y : Request). y.stage) same ∙ e)))
    by false rest at = rest at

  -- the steps of a loop answer nothing
  abbrev Kept : List GuestCall → Requests → Desk → Type 0
  Kept made rs d = AreAnswered rs.outstanding

  call_keeps : (g : Setting) (c : GuestCall) (rs rs' : Requests) → CallFate g rs c rs' → AreAnswered rs.outstanding → AreAnswered rs'.outstanding
  call_keeps g c rs rs' (changes_nothing asks never e) h = rw e h
  call_keeps g c rs rs' (opens_one op place count slot is args told e) h = rw e (opened rs.outstanding _ h)
  call_keeps g c rs rs' (cancels_one n q is args told at e) h =
      rw e (staged n Cancelled rs.outstanding (λ end k. absurd (cc)) h)

  keeps : (g : Setting) → IsKeptInSteps desk_calls g Kept
  keeps g = record {
    called = λ made c old new moves h. call_keeps g c old.0 new.0 (call_forgets desk_calls g old c new moves) h;
    removed = λ made rs n s h. filtered (λ q. not (has_number n q)) rs.outstanding h;
    beside = λ made rs s s' moves h. h;
  }

  -- nor do a post and a cancel
  handing_keeps : (rs : Requests) (q : Option Request) → AreAnswered rs.outstanding → AreAnswered (handing rs q).1.outstanding
  handing_keeps rs None h = h
  handing_keeps rs (Some q) h = staged q.order.request HandedOut rs.outstanding (λ end k. absurd (cc)) h

  next_keeps : (status : Status) (s : State) → AreAnswered s.requests.outstanding → AreAnswered (next_in status s).1.requests.outstanding
  next_keeps Failed s h = h
  next_keeps Running s h = handing_keeps s.requests (lowest_open s.requests) h
  next_keeps Over s h = handing_keeps s.requests (lowest_open s.requests) h

  cancel_keeps : (rs rs' : Requests) (n answer : ℕ) → CancelFate rs n answer rs' → AreAnswered rs.outstanding → AreAnswered rs'.outstanding
  cancel_keeps rs rs' n answer (stayed refused e) h = rw e h
  cancel_keeps rs rs' n answer (cancelled q at won e) h =
      rw e (staged n Cancelled rs.outstanding (λ end k. absurd (cc)) h)

answered_later : (log : List LogEntry) (entry : LogEntry) (l : ℕ) (qs : List Request) → AreAnswered log l qs → AreAnswered (log ++ entry ∷ []) l qs
answered_later log entry l [] h = tt
answered_later log entry l (q ∷ qs) h = (λ end e. later log entry l q.order.request end (h.0 end e), answered_later log entry l qs h.1)

replies_later : (log : List LogEntry) (entry : LogEntry) (l : ℕ) (xs : List Answer) → AreReplies log l xs → AreReplies (log ++ entry ∷ []) l xs
replies_later log entry l [] h = tt
replies_later log entry l (a ∷ xs) h = (later log entry l a.order.request a.end h.0, replies_later log entry l xs h.1)

-- one place of a list is set
pub set_at : {X : Type 0} (P : ℕ → X → Type 0) (xs : List X) (k : ℕ) (v : X) → P k v → ((n : ℕ) (x : X) → slice_get xs n ≡ Some x → P n x)
    → (n : ℕ) (x : X) → slice_get (slice_set xs k v) n ≡ Some x → P n x
set_at P [] k v p all n x h = absurd (cc)
set_at P (y ∷ ys) zero v p all zero x h = let same : v ≡ x = cc in subst (P zero) same p
set_at P (y ∷ ys) zero v p all (suc n) x h = all (suc n) x h
set_at P (y ∷ ys) (suc k) v p all zero x h = all zero x h
set_at P (y ∷ ys) (suc k) v p all (suc n) x h = set_at (λ m. P (suc m)) ys k v p (λ m. all (suc m)) n x h

pub record AreFinished (w : World) (log : List LogEntry) : Type 0 where
  pub loops : (n : ℕ) (p : Core Desk) → slice_get w.loops n ≡ Some p → AreAnswered log n p.loop.state.requests.outstanding
  pub replies : (n : ℕ) (xs : List Answer) → slice_get w.replies n ≡ Some xs → AreReplies log n xs

module _ (w w' : World) (log : List LogEntry) (entry : LogEntry) (all : AreFinished w log) where
  abbrev Log : List LogEntry
  Log = log ++ entry ∷ []

  abbrev Next : Type 0
  Next = AreFinished w' Log

  same_loops : w'.loops ≡ w.loops → (n : ℕ) (p : Core Desk) → slice_get w'.loops n ≡ Some p → AreAnswered Log n p.loop.state.requests.outstanding
  same_loops e n p h = answered_later log entry n p.loop.state.requests.outstanding (all.loops n p (ap (λ ls. slice_get ls n) (sym e) ∙ h))

  set_loops : (k : ℕ) (g : Setting) (m : Loop Desk) → w'.loops ≡ slice_set w.loops k (core g m) → AreAnswered Log k m.state.requests.outstanding
      → (n : ℕ) (p : Core Desk) → slice_get w'.loops n ≡ Some p → AreAnswered Log n p.loop.state.requests.outstanding
  set_loops k g m e now n p h =
      set_at (λ i (x : Core Desk). AreAnswered Log i x.loop.state.requests.outstanding) w.loops k (core g m) now
      (λ i x at. answered_later log entry i x.loop.state.requests.outstanding (all.loops i x at)) n p (ap (λ ls. slice_get ls n) (sym e) ∙ h)

  same_replies : w'.replies ≡ w.replies → (n : ℕ) (xs : List Answer) → slice_get w'.replies n ≡ Some xs → AreReplies Log n xs
  same_replies e n xs h = replies_later log entry n xs (all.replies n xs (ap (λ rs. slice_get rs n) (sym e) ∙ h))

  set_replies : (k : ℕ) (ys : List Answer) → w'.replies ≡ slice_set w.replies k ys → AreReplies Log k ys
      → (n : ℕ) (xs : List Answer) → slice_get w'.replies n ≡ Some xs → AreReplies Log n xs
  set_replies k ys e now n xs h =
      set_at (λ i x. AreReplies Log i x) w.replies k ys now (λ i x at. replies_later log entry i x (all.replies i x at)) n xs (ap (λ rs. slice_get rs n) (sym e) ∙ h)

  -- the requests of a loop as they are
  old_requests : (n : ℕ) (g : Setting) (l : Loop Desk) → slice_get w.loops n ≡ Some (core g l) → AreAnswered Log n l.state.requests.outstanding
  old_requests n g l at = answered_later log entry n l.state.requests.outstanding (all.loops n (core g l) at)

  stays : w'.loops ≡ w.loops → w'.replies ≡ w.replies → Next
  stays loops replies = record { loops = same_loops loops; replies = same_replies replies }

  only : (told : LogEntry) → Only w entry told w' → Next
  only told h = stays (ap (λ (x : World). x.loops) h.1) (ap (λ (x : World). x.replies) h.1)

  unless_next : (n : ℕ) (l : Loop Desk) (P : Type 0) → (P → Next) → UnlessFailed w n l entry w' P → Next
  unless_next n l P f h = either (is_failed l.state.status) _ _ Next (only (line.Failed n)) f h

  loop_next : (n : ℕ) → StepsLoop w n entry w' → Next
  loop_next n h = record {
    loops = set_loops n h.setting h.new (ap (λ (x : World). x.loops) h.after)
        (step_keeps desk_calls h.setting (Kept Log n) (keeps Log n h.setting) [] h.made h.old h.did h.new h.steps (old_requests n h.setting h.old h.at));
    replies = same_replies (ap (λ (x : World). x.replies) h.after);
  }

  order_next : (n : ℕ) (g : Setting) (l : Loop Desk) (out : Option WorkOrder × State) → slice_get w.loops n ≡ Some (core g l) → next_order_of l.state ≡ out → PostsOrder w n g l out entry w' → Next
  order_next n g l (None, s) at is h = only (line.Post n post.Nothing) h
  order_next n g l (Some o, s) at is h = record {
    loops = set_loops n g (in_state l s) (ap (λ (x : World). x.loops) h.1)
        (rw is at (next_keeps Log n l.state.status l.state (old_requests n g l at)));
    replies = same_replies (ap (λ (x : World). x.replies) h.1);
  }

  take_next : (n : ℕ) (state : Worker) (jobs : List WorkOrder) → WorkerTakesJob w n state jobs entry w' → Next
  take_next n Idle (o ∷ jobs) h = stays (ap (λ (x : World). x.loops) h.1) (ap (λ (x : World). x.replies) h.1)
  take_next n _ _ h = only (line.Take n None) h

  -- another thread moves what a loop shares
  beside_next : (n : ℕ) (g : Setting) (l m : Loop Desk) → slice_get w.loops n ≡ Some (core g l) → m.state ≡ l.state → w'.loops ≡ slice_set w.loops n (core g m) → w'.replies ≡ w.replies → Next
  beside_next n g l m at same loops replies = record {
    loops = set_loops n g m loops (rw same (old_requests n g l at));
    replies = same_replies replies;
  }

  start_next : (n : ℕ) (state : Worker) → StartsJob w n state entry w' → Next
  start_next n (Taken o) h =
      either h.3 _ _ Next (λ k. beside_next o.loop_no h.0 h.1 h.2 h.4 h.5.1 (ap (λ (x : World). x.loops) k.1) (ap (λ (x : World). x.replies) k.1))
      (λ k. stays (ap (λ (x : World). x.loops) k.1) (ap (λ (x : World). x.replies) k.1)) h.6
  start_next n _ h = only (line.Start n start.Nothing) h

  finish_next : (n : ℕ) (state : Worker) → FinishesJob w n state entry w' → Next
  finish_next n (Started o) h = record {
    loops = same_loops (ap (λ (x : World). x.loops) h.after);
    replies = set_replies o.loop_no _ (ap (λ (x : World). x.replies) h.after)
        (reply_push Log o.loop_no h.replies (record { order = o; end = h.end })
        (n, h.ending, h.tells, subst (Contains Log) h.told (Contains-push log entry))
        (replies_later log entry o.loop_no h.replies (all.replies o.loop_no h.replies h.waiting)));
  }
  finish_next n _ h = only (line.Finish n finish.Nothing) h

  collect_next : (n : ℕ) (g : Setting) (l : Loop Desk) (replies : List Answer) → slice_get w.loops n ≡ Some (core g l) → AreReplies Log n replies → CollectsFrom w n g l replies entry w' → Next
  collect_next n g l [] at told h = only (line.Collect n collect.Nothing) h
  collect_next n g l (a ∷ replies) at told h =
      either h.0 _ _ Next
      (λ k. record {
        loops = set_loops n g _ (ap (λ (x : World). x.loops) k.2)
            (staged Log n a.order.request (Answered a.end) l.state.requests.outstanding
            (λ end e. let same : a.end ≡ end = cc in rw same at told.0) (old_requests n g l at));
        replies = set_replies n replies (ap (λ (x : World). x.replies) k.2) told.1;
      })
      (λ k. record {
        loops = same_loops (ap (λ (x : World). x.loops) k.2);
        replies = set_replies n replies (ap (λ (x : World). x.replies) k.2) told.1;
      })
      h.1

  step_next : (s : Step) → WorldStep w s entry w' → Next
  step_next (step.Loop n) h = loop_next n h
  step_next (step.Post n) h =
      unless_next n h.1 _ (λ k. either (length w.jobs == MAX_JOBS) _ _ Next (only (line.Post n post.Full)) (order_next n h.0 h.1 (next_order_of h.1.state) h.2 refl) k) h.3
  step_next (step.Take n) h = take_next n h.0 w.jobs h.2
  step_next (step.Start n) h = start_next n h.0 h.2
  step_next (step.Finish n) h = finish_next n h.0 h.2
  step_next (step.Collect n) h = unless_next n h.1 _ (collect_next n h.0 h.1 h.2 h.3 (replies_later log entry n h.2 (all.replies n h.2 h.4))) h.5
  step_next (step.Send n a) h = beside_next n h.0 h.1 h.2 h.5 h.6.1 (ap (λ (x : World). x.loops) h.8) (ap (λ (x : World). x.replies) h.8)
  step_next (step.Cancel n request) h =
      unless_next n h.1 _
      (λ k. record {
        loops = set_loops n h.0 h.2 (ap (λ (x : World). x.loops) k.3)
            (cancel_keeps Log n h.1.state.requests h.2.state.requests request h.3
            (fate_in desk_calls h.1.state.status (h.1.state, h.1.shared) request h.3 (h.2.state, h.2.shared) k.0) (old_requests n h.0 h.1 h.4));
        replies = same_replies (ap (λ (x : World). x.replies) k.3);
      }) h.5
  step_next (step.Clock n ms) h =
      unless_next n h.1 _
      (λ k. record {
        loops = set_loops n h.0 (in_state h.1 (after_clock h.1.state ms)) (ap (λ (x : World). x.loops) k.1) (old_requests n h.0 h.1 h.2);
        replies = same_replies (ap (λ (x : World). x.replies) k.1);
      }) h.3

pub finished_after : (settings : List Setting) (workers : ℕ) (steps : List Step) (log : List LogEntry) (w : World) → WorldRun (opening_world settings workers) steps log w → AreFinished w log
finished_after settings workers steps log w run =
    kept_in_run 0 (λ w log made. AreFinished w log) (λ w log made s entry w' h was. step_next w w' log entry was s h) (opening_world settings workers) [] [] steps log w run
    (record {
      loops = λ n p at. rw (sym (made_of opening_loop settings n p at).2) tt;
      replies = λ n xs at. subst (AreReplies [] n) (made_of (λ _. []) settings n xs at).2 tt;
    })

-- no end is given as a cancellation
no_end : (end : WorkEnd) → cancellation ≡ end_completion end → ⊥
no_end (Done value bytes) e = (let it = ap (λ (t : Completion). t.kind) e in cc)
no_end _ e = (let it = ap (λ (t : Completion). t.kind) e in cc)

-- what a request is given that was not cancelled
pub given_end : (log : List LogEntry) (l n : ℕ) (rs : Requests) (q : Request) (t : Completion) (won : Type 0) → AreAnswered log l rs.outstanding
    → request_of rs q.order.request ≡ Some q → q.order.request ≡ n
    → completion_of q.stage ≡ Some t → AreDue q.order t won → (won → ⊥) → (end : WorkEnd) × WasFinished l n end log × (t ≡ end_completion end)
given_end log l n rs q t won all at numbered given due never = by q.stage refl given where
  by : (s : Stage) → q.stage ≡ s → completion_of s ≡ Some t → (end : WorkEnd) × WasFinished l n end log × (t ≡ end_completion end)
  by Open is e = absurd (cc)
  by HandedOut is e = absurd (cc)
  by (Answered end) is e = (
    end,
    rw numbered at (found log l (has_number q.order.request) rs.outstanding q at all end is),
    (let it : end_completion end ≡ t = cc in sym it),
  )
  by Cancelled is e = elim due [
    | inl h ↦ absurd (never h.0)
    | inr h ↦ let it : cancellation ≡ t = cc in absurd (no_end h.1.0 (it ∙ h.1.2))
  ]
