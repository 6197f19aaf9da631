-- A job is never begun of whose request a cancel was answered 0, and never cancelled so once it was begun.
use Rattle.world.proofs.Words.{CollectsFrom, Contains-push_cases, is_open_stage, IsCancelledInLog, IsKeptInSteps, next_order_of, with_worker_at, WorkerTakesJob}
use Rattle.world.proofs.Words.{after_clock, and_parts, AreInPlace, cast_signed, desk_calls, FinishesJob, opening_loop, opening_world, sum_by_push, UnlessFailed}
use Rattle.world.proofs.Words.{ap, DeskStarts, entry_told, GuestCall, HandedOut, is_failed, PostsOrder, replicate, set_apart, slice_get, step_keeps, with_stage}
use Rattle.world.proofs.Words.{Answered, cases_eq, count_by, eqb-true, in_state, LogEntry, slice_set, StartsJob, StepsLoop, with_loop, WorkOrder, WorldStep, []}
use Rattle.world.proofs.Words.{Answer, either, eq-eqb, HasLoop, inl, is_some, job_of, length, MAX_JOBS, Requests, set_here, Setting, Started, StepDid, WorldRun}
use Rattle.world.proofs.Words.{arith, Bool, cond, Core, core, Desk, false, Idle, List, Loop, ne_eqb, None, Only, Option, State, subst, Taken, Worker, World, ℕ}
use Rattle.world.proofs.Words.{inr, pos, refl, Some, Step, suc, sym, true, w32, zero, ◌&&◌, ◌++◌, ◌==◌, ◌∙◌, ◌∷◌, ◌≡◌, ◌≢◌, ◌≤◌, ◌⊎◌}
use Rattle.std.proofs.Common.{append-nil, MatchBool}
use Rattle.order.specs.Uv.Bytes.{taken_out}
use Rattle.events.specs.declared.did.StepDid.TheVariants as did
use Rattle.phases.specs.Host.{next_work}
use Rattle.phases.specs.Laws.{IsCancel, IsHandedOnce as LoopHandedOnce, IsHandedOwn as LoopHandedOwn}
use Rattle.phases.proofs.CancelFates.{CancelMoves, wins, leaves, moves_in}
use Rattle.phases.proofs.OrdersHandedOnce.{IsLowest, handed_is}
use Rattle.phases.proofs.CallMoves.{CallMoves, leaves_all, opens, cancels_won}
use Rattle.world_log.specs.declared.step.Step.TheVariants as step
use Rattle.world_log.specs.declared.entry.LogEntry.TheVariants as line
use Rattle.world_log.specs.declared.outcome.PostOutcome.TheVariants as post
use Rattle.world_log.specs.declared.outcome.StartOutcome.TheVariants as start
use Rattle.world_log.specs.declared.outcome.FinishOutcome.TheVariants as finish
use Rattle.world_log.specs.declared.outcome.CollectOutcome.TheVariants as collect
use Rattle.world.proofs.GuestsOfRuns.{step_calls, guest_calls, kept_in_run}
use Rattle.world.proofs.Sets.{made_of}
use Rattle.world.specs.Laws.{is_of_job, is_begun, is_finished}
use Rattle.world.proofs.AfterOnce.{some_of}
use Rattle.world.proofs.EndsAreLogged.{set_at}
use Rattle.world.proofs.OneWay.{IsCounted, own_orders, step_counted, opening_counted, one_way_after}
use Rattle.world.proofs.Runs.{set_there}
use Rattle.world.proofs.RequestsApart.{got_still, beside_still, in_found, IsApart, never_both, apart_less, apart_still}
use Rattle.world.proofs.RequestsApart.{apart_staged, apart_removed, apart_opened, apart_cancelled, apart_handed, apart_started}

abbrev is_cancel_line : LogEntry → Bool
is_cancel_line (line.Cancel n request answer) = true
is_cancel_line _ = false

module _ (l r : ℕ) where
  abbrev Won : List LogEntry → List GuestCall → Type 0
  Won log made = IsCancelledInLog l r log made

  abbrev Begun : List LogEntry → Type 0
  Begun log = 1 ≤ count_by (is_begun l r) log

  abbrev is_order : WorkOrder → Bool
  is_order o = is_of_job l r (job_of o)

  order_is : (o : WorkOrder) → is_order o ≡ true → (o.loop_no ≡ l) × (o.request ≡ r)
  order_is o is = let it = and_parts (o.loop_no == l) (o.request == r) is in (eqb-true o.loop_no l it.0, eqb-true o.request r it.1)

  -- the orders that wait, and that which a worker has not begun, have the slot that was handed out
  abbrev AreOut : Option ℕ → List WorkOrder → Type 0
  AreOut out [] = Unit {0}
  AreOut out (o ∷ os) = (is_order o ≡ true → out ≡ Some o.slot) × AreOut out os

  abbrev HoldsOut : Option ℕ → Worker → Type 0
  HoldsOut out (Taken o) = is_order o ≡ true → out ≡ Some o.slot
  HoldsOut out _ = Unit {0}

  out_push : (out : Option ℕ) (os : List WorkOrder) (o : WorkOrder) → (is_order o ≡ true → out ≡ Some o.slot) → AreOut out os → AreOut out (os ++ o ∷ [])
  out_push out [] o new h = (new, tt)
  out_push out (x ∷ os) o new h = (h.0, out_push out os o new h.1)

  out_other : (out out' : Option ℕ) (os : List WorkOrder) → ((s : ℕ) → out ≡ Some s → out' ≡ Some s) → AreOut out os → AreOut out' os
  out_other out out' [] f h = tt
  out_other out out' (o ∷ os) f h = (λ is. f o.slot (h.0 is), out_other out out' os f h.1)

  holds_other : (out out' : Option ℕ) (x : Worker) → ((s : ℕ) → out ≡ Some s → out' ≡ Some s) → HoldsOut out x → HoldsOut out' x
  holds_other out out' (Taken o) f h = λ is. f o.slot (h is)
  holds_other out out' Idle f h = tt
  holds_other out out' (Started o) f h = tt

  record Stands (w : World) (log : List LogEntry) (made : List GuestCall) : Type 0 where
    pub out : Option ℕ
    pub jobs : AreOut out w.jobs
    pub workers : (n : ℕ) (x : Worker) → slice_get w.workers n ≡ Some x → HoldsOut out x
    pub loops : (p : Core Desk) → slice_get w.loops l ≡ Some p → IsApart r out (Won log made) (Begun log) p.loop.state.requests p.loop.shared
    pub there : Begun log → is_some (slice_get w.loops l) ≡ true

  -- the calls of a callback
  won_call : (log : List LogEntry) (made : List GuestCall) (c : GuestCall) → (IsCancel r c → ⊥) → Won log (made ++ c ∷ []) → Won log made
  won_call log made c never (inl x) = inl x
  won_call log made c never (inr a) = elim (Contains-push_cases made c a.0 a.1) [
    | inl there ↦ inr (a.0, there, a.2)
    | inr is ↦ absurd (never (subst (IsCancel r) (sym is) a.2))
  ]

  module _ (log : List LogEntry) (out : Option ℕ) (g : Setting) where
    abbrev Kept : List GuestCall → Requests → Desk → Type 0
    Kept made rs d = IsApart r out (Won log made) (Begun log) rs d

    call_keeps : (made : List GuestCall) (c : GuestCall) (old new : Requests × Desk) → CallMoves desk_calls g old c new → Kept made old.0 old.1 → Kept (made ++ c ∷ []) new.0 new.1
    call_keeps made c old new (leaves_all asks never e beside) h =
        rw e (apart_still r out (Won log (made ++ c ∷ [])) (Begun log) old.0 old.1 new.1 (beside_still old.1 new.1 beside)
        (apart_less r out (Won log made) (Won log (made ++ c ∷ [])) (Begun log) (Begun log) old.0 old.1 (won_call log made c (never r)) (λ b. b) h))
    call_keeps made c old new (opens op place count slot may is args told e at) h =
        rw e (apart_opened r out (Won log (made ++ c ∷ [])) (Begun log) old.0 new.1 (next_work g old.0 slot op (taken_out place count c.call.before)) refl
        (apart_still r out (Won log (made ++ c ∷ [])) (Begun log) old.0 old.1 new.1 (record { cancelled = ap (λ x. x.view.cancelled) at; started = ap (λ x. x.started) at })
        (apart_less r out (Won log made) (Won log (made ++ c ∷ [])) (Begun log) (Begun log) old.0 old.1 (won_call log made c (λ k. (let it = sym is ∙ k.function in cc))) (λ b. b) h)))
    call_keeps made c old new (cancels_won n q is args told found e at) h =
        rw e (apart_cancelled r out (Won log made) (Begun log) (Won log (made ++ c ∷ [])) old.0 old.1 new.1 n q found at why h) where
          why : Won log (made ++ c ∷ []) → (n ≡ r) ⊎ Won log made
          why (inl x) = inr (inl x)
          why (inr a) = elim (Contains-push_cases made c a.0 a.1) [
            | inl there ↦ inr (inr (a.0, there, a.2))
            | inr same ↦ inl (let it = sym args ∙ ap (λ (x : GuestCall). x.call.args) same ∙ a.2.args in cc)
          ]

    keeps : IsKeptInSteps desk_calls g Kept
    keeps = record {
      called = call_keeps;
      removed = λ made rs n s h. apart_removed r out (Won log made) (Begun log) rs s n h;
      beside = λ made rs s s' moves h. apart_still r out (Won log made) (Begun log) rs s s' (beside_still s s' moves) h;
    }

  -- one step
  module _ (w w' : World) (log : List LogEntry) (made : List GuestCall) (entry : LogEntry) (s : Stands w log made) where
    abbrev Log : List LogEntry
    Log = log ++ entry ∷ []

    abbrev Next : List GuestCall → Type 0
    Next more = Stands w' Log (made ++ more)

    abbrev IsQuiet : LogEntry → Type 0
    IsQuiet told = (is_begun l r told ≡ false) × (told ≡ line.Cancel l r (pos 0) → ⊥)

    no_cancel : (told : LogEntry) → is_cancel_line told ≡ false → told ≡ line.Cancel l r (pos 0) → ⊥
    no_cancel told none is = (let it = ap is_cancel_line is in cc)

    begun_back : is_begun l r entry ≡ false → Begun Log → Begun log
    begun_back none b = subst (λ k. 1 ≤ k) (sum_by_push (λ x. cond (is_begun l r x) 1 0) log entry ∙ rw none (omega arith)) b

    won_back : (more : List GuestCall) → (entry ≡ line.Cancel l r (pos 0) → ⊥) → Won Log more → Won log more
    won_back more never (inl x) = elim (Contains-push_cases log entry (line.Cancel l r (pos 0)) x) [ inl there ↦ inl there | inr is ↦ absurd (never is) ]
    won_back more never (inr a) = inr a

    won_nil : Won log (made ++ []) → Won log made
    won_nil h = subst (Won log) (append-nil made) h

    less : (out : Option ℕ) (rs : Requests) (d : Desk) → IsQuiet entry → IsApart r out (Won log made) (Begun log) rs d → IsApart r out (Won Log (made ++ [])) (Begun Log) rs d
    less out rs d q h = apart_less r out (Won log made) (Won Log (made ++ [])) (Begun log) (Begun Log) rs d (λ k. won_nil (won_back (made ++ []) q.1 k)) (begun_back q.0) h

    quiet : (told : LogEntry) → entry ≡ told → is_begun l r told ≡ false → is_cancel_line told ≡ false → IsQuiet entry
    quiet told is none other = subst IsQuiet (sym is) (none, no_cancel told other)

    same_there : w'.loops ≡ w.loops → IsQuiet entry → Begun Log → is_some (slice_get w'.loops l) ≡ true
    same_there e q b = ap (λ ls. is_some (slice_get ls l)) e ∙ s.there (begun_back q.0 b)

    same_loops : w'.loops ≡ w.loops → IsQuiet entry → (p : Core Desk) → slice_get w'.loops l ≡ Some p → IsApart r s.out (Won Log (made ++ [])) (Begun Log) p.loop.state.requests p.loop.shared
    same_loops e q p h = less s.out p.loop.state.requests p.loop.shared q (s.loops p (ap (λ ls. slice_get ls l) (sym e) ∙ h))

    set_some : (k : ℕ) (v : Core Desk) → w'.loops ≡ slice_set w.loops k v → is_some (slice_get w'.loops l) ≡ is_some (slice_get w.loops l)
    set_some k v e = ap (λ ls. is_some (slice_get ls l)) e ∙ set_there w.loops k l v

    abbrev Here : Option ℕ → List GuestCall → Loop Desk → Type 0
    Here out more m = IsApart r out (Won Log (made ++ more)) (Begun Log) m.state.requests m.shared

    set_loops : (k : ℕ) (g : Setting) (x m : Loop Desk) (out : Option ℕ) (more : List GuestCall) → slice_get w.loops k ≡ Some (core g x) → w'.loops ≡ slice_set w.loops k (core g m)
        → (k ≡ l → IsApart r s.out (Won log made) (Begun log) x.state.requests x.shared → Here out more m)
        → (k ≢ l → (p : Core Desk) → IsApart r s.out (Won log made) (Begun log) p.loop.state.requests p.loop.shared → Here out more p.loop)
        → (p : Core Desk) → slice_get w'.loops l ≡ Some p → Here out more p.loop
    set_loops k g x m out more at e here apart p h = elim (cases_eq k l) [
      | inl same ↦
          let at_l : slice_get w.loops l ≡ Some (core g x) = ap (slice_get w.loops) (sym same) ∙ at in
          let now : slice_get w'.loops l ≡ Some (core g m) =
          ap (λ ls. slice_get ls l) e ∙ (ap (λ i. slice_get (slice_set w.loops i (core g m)) l) same ∙ set_here w.loops l (core g m) (core g x) at_l) in
          let is : core g m ≡ p = (let it = sym now ∙ h in cc) in
          rw (sym is) (here same (s.loops (core g x) at_l))
      | inr other ↦ apart other p (s.loops p (sym (ap (λ ls. slice_get ls l) e ∙ set_apart w.loops k l (core g m) other) ∙ h))
    ]

    -- one worker
    set_workers : (n : ℕ) (v : Worker) → w'.workers ≡ slice_set w.workers n v → HoldsOut s.out v → (i : ℕ) (x : Worker) → slice_get w'.workers i ≡ Some x → HoldsOut s.out x
    set_workers n v e now i x h = set_at (λ k y. HoldsOut s.out y) w.workers n v now s.workers i x (ap (λ xs. slice_get xs i) (sym e) ∙ h)

    same_workers : w'.workers ≡ w.workers → (i : ℕ) (x : Worker) → slice_get w'.workers i ≡ Some x → HoldsOut s.out x
    same_workers e i x h = s.workers i x (ap (λ xs. slice_get xs i) (sym e) ∙ h)

    same_jobs : w'.jobs ≡ w.jobs → AreOut s.out w'.jobs
    same_jobs e = subst (AreOut s.out) (sym e) s.jobs

    stays : IsQuiet entry → w'.loops ≡ w.loops → w'.jobs ≡ w.jobs → w'.workers ≡ w.workers → Next []
    stays q loops jobs states = record { out = s.out; jobs = same_jobs jobs; workers = same_workers states; loops = same_loops loops q; there = same_there loops q }

    only : (told : LogEntry) → is_begun l r told ≡ false → is_cancel_line told ≡ false → Only w entry told w' → Next []
    only told none other h = stays (quiet told h.0 none other) (ap (λ (x : World). x.loops) h.1) (ap (λ (x : World). x.jobs) h.1) (ap (λ (x : World). x.workers) h.1)

    unless_next : (n : ℕ) (m : Loop Desk) (P : Type 0) → (P → Next []) → UnlessFailed w n m entry w' P → Next []
    unless_next n m P f h = either (is_failed m.state.status) _ _ (Next []) (only (line.Failed n) refl refl) f h

    -- one loop, where nothing else changes
    moved : (n : ℕ) (g : Setting) (x m : Loop Desk) → slice_get w.loops n ≡ Some (core g x) → IsQuiet entry → w'.loops ≡ slice_set w.loops n (core g m) → w'.jobs ≡ w.jobs → w'.workers ≡ w.workers
        → (IsApart r s.out (Won log made) (Begun log) x.state.requests x.shared → IsApart r s.out (Won log made) (Begun log) m.state.requests m.shared) → Next []
    moved n g x m at q loops jobs states f = record {
      out = s.out;
      jobs = same_jobs jobs;
      workers = same_workers states;
      loops = set_loops n g x m s.out [] at loops (λ same h. less s.out m.state.requests m.shared q (f h)) (λ other p h. less s.out p.loop.state.requests p.loop.shared q h);
      there = λ b. set_some n (core g m) loops ∙ s.there (begun_back q.0 b);
    }

    step_quiet : (n : ℕ) (told : StepDid) (emits : List ℕ) → (is_begun l r (entry_told n told emits) ≡ false) × (is_cancel_line (entry_told n told emits) ≡ false)
    step_quiet n (did.Entered phase now) emits = (refl, refl)
    step_quiet n _ emits = (refl, refl)

    loop_next : (n : ℕ) (h : StepsLoop w n entry w') → Next (cond (n == l) h.made [])
    loop_next n h = record {
      out = s.out;
      jobs = same_jobs (ap (λ (x : World). x.jobs) h.after);
      workers = same_workers (ap (λ (x : World). x.workers) h.after);
      loops = set_loops n h.setting h.old h.new s.out (cond (n == l) h.made []) h.at (ap (λ (x : World). x.loops) h.after) here apart;
      there = λ b. set_some n (core h.setting h.new) (ap (λ (x : World). x.loops) h.after) ∙ s.there (begun_back q.0 b);
    } where
      q : IsQuiet entry
      q = let it = step_quiet n h.did h.new.state.emits in quiet _ h.told it.0 it.1

      more : List GuestCall
      more = h.made

      here : n ≡ l → IsApart r s.out (Won log made) (Begun log) h.old.state.requests h.old.shared → Here s.out (cond (n == l) h.made []) h.new
      here same was =
          let calls : cond (n == l) h.made [] ≡ more = rw (eq-eqb n l same) refl in
          rw (sym calls) at (apart_less r s.out (Won log (made ++ more)) (Won Log (made ++ more)) (Begun log) (Begun Log) h.new.state.requests h.new.shared (won_back (made ++ more) q.1) (begun_back q.0)
          (step_keeps desk_calls h.setting (Kept log s.out h.setting) (keeps log s.out h.setting) made h.made h.old h.did h.new h.steps was))

      apart : n ≢ l → (p : Core Desk) → IsApart r s.out (Won log made) (Begun log) p.loop.state.requests p.loop.shared → Here s.out (cond (n == l) h.made []) p.loop
      apart other p was =
          let calls : cond (n == l) h.made [] ≡ [] = rw (ne_eqb n l other) refl in
          rw calls (less s.out p.loop.state.requests p.loop.shared q was)

    -- an order is handed out
    module _ (n : ℕ) (g : Setting) (x : Loop Desk) (o : WorkOrder) (st : State) (at : slice_get w.loops n ≡ Some (core g x)) (is : next_order_of x.state ≡ (Some o, st)) (own : o.loop_no ≡ n)
        (h : PostsOrder w n g x (Some o, st) entry w') where
      lowest : IsLowest x.state o
      lowest = handed_is x.state.status x.state o refl (sym (ap (λ p. p.0) is))

      q : IsQuiet entry
      q = quiet _ h.0 refl refl

      loops_are : w'.loops ≡ slice_set w.loops n (core g (in_state x st))
      loops_are = ap (λ (y : World). y.loops) h.1

      jobs_are : w'.jobs ≡ w.jobs ++ o ∷ []
      jobs_are = ap (λ (y : World). y.jobs) h.1

      requests_are : st.requests ≡ with_stage x.state.requests o.request HandedOut
      requests_are = ap (λ (p : Option WorkOrder × State). p.1.requests) (sym is) ∙ lowest.after

      there_is : Begun Log → is_some (slice_get w'.loops l) ≡ true
      there_is b = set_some n (core g (in_state x st)) loops_are ∙ s.there (begun_back q.0 b)

      other_order : is_order o ≡ false → Next []
      other_order none = record {
        out = s.out;
        jobs = subst (AreOut s.out) (sym jobs_are) (out_push s.out w.jobs o (λ it. absurd (cc)) s.jobs);
        workers = same_workers (ap (λ (y : World). y.workers) h.1);
        loops = set_loops n g x (in_state x st) s.out [] at loops_are
            (λ same was. less s.out st.requests x.shared q (rw requests_are (apart_staged r s.out (Won log made) (Begun log) x.state.requests x.shared o.request HandedOut refl was)))
            (λ other p was. less s.out p.loop.state.requests p.loop.shared q was);
        there = there_is;
      }

      this_order : is_order o ≡ true → Next []
      this_order it = record {
        out = Some o.slot;
        jobs = subst (AreOut (Some o.slot)) (sym jobs_are) (out_push (Some o.slot) w.jobs o (λ _. refl) (out_other s.out (Some o.slot) w.jobs same_out s.jobs));
        workers = λ i y k. holds_other s.out (Some o.slot) y same_out (same_workers (ap (λ (z : World). z.workers) h.1) i y k);
        loops = set_loops n g x (in_state x st) (Some o.slot) [] at loops_are (λ same was. less (Some o.slot) st.requests x.shared q (handed was)) (λ other. absurd (other here));
        there = there_is;
      } where
        here : n ≡ l
        here = sym own ∙ (order_is o it).0

        at_l : slice_get w.loops l ≡ Some (core g x)
        at_l = ap (slice_get w.loops) (sym here) ∙ at

        number : lowest.request.order.request ≡ r
        number = ap (λ (y : WorkOrder). y.request) lowest.order ∙ (order_is o it).1

        handed : IsApart r s.out (Won log made) (Begun log) x.state.requests x.shared → IsApart r (Some o.slot) (Won log made) (Begun log) st.requests x.shared
        handed was =
            rw (requests_are, sym lowest.order) (apart_handed r s.out (Won log made) (Begun log) x.state.requests x.shared lowest.request lowest.lowest number was)

        same_out : (k : ℕ) → s.out ≡ Some k → Some o.slot ≡ Some k
        same_out k e =
            let was = s.loops (core g x) at_l in
            let one = in_found r was.slot (λ y. is_open_stage y.stage) x.state.requests.outstanding lowest.request lowest.lowest was.in_slot number in
            ap Some (sym (ap (λ (y : WorkOrder). y.slot) lowest.order) ∙ one ∙ sym (was.handed k e).0)

      order_next : Next []
      order_next = by (is_order o) refl where
        by : (b : Bool) → is_order o ≡ b → Next []
        by true it = this_order it
        by false it = other_order it

    posts_next : (n : ℕ) (g : Setting) (x : Loop Desk) (out : Option WorkOrder × State) → slice_get w.loops n ≡ Some (core g x)
        → next_order_of x.state ≡ out → ((o : WorkOrder) → out.0 ≡ Some o → o.loop_no ≡ n)
        → PostsOrder w n g x out entry w' → Next []
    posts_next n g x (None, st) at is own h = only (line.Post n post.Nothing) refl refl h
    posts_next n g x (Some o, st) at is own h = order_next n g x o st at is (own o refl) h

    take_next : (n : ℕ) (state : Worker) (jobs : List WorkOrder) → w.jobs ≡ jobs → WorkerTakesJob w n state jobs entry w' → Next []
    take_next n Idle (o ∷ jobs) is h =
        let waits : AreOut s.out (o ∷ jobs) = subst (AreOut s.out) is s.jobs in
        let q = quiet _ h.0 refl refl in
        record {
          out = s.out;
          jobs = subst (AreOut s.out) (sym (ap (λ (x : World). x.jobs) h.1)) waits.1;
          workers = set_workers n (Taken o) (ap (λ (x : World). x.workers) h.1) waits.0;
          loops = same_loops (ap (λ (x : World). x.loops) h.1) q;
          there = same_there (ap (λ (x : World). x.loops) h.1) q;
        }
    take_next n _ _ is h = only (line.Take n None) refl refl h

    -- a worker that has nothing more
    idle : (n : ℕ) → IsQuiet entry → w'.loops ≡ w.loops → w'.jobs ≡ w.jobs → w'.workers ≡ slice_set w.workers n Idle → Next []
    idle n q loops jobs states = record { out = s.out; jobs = same_jobs jobs; workers = set_workers n Idle states tt; loops = same_loops loops q; there = same_there loops q }

    -- a job is begun
    module _ (n : ℕ) (o : WorkOrder) (g : Setting) (x m : Loop Desk) (held : is_order o ≡ true → s.out ≡ Some o.slot) (at : slice_get w.loops o.loop_no ≡ Some (core g x))
        (moves : DeskStarts x.shared (o.slot, o.request) true m.shared) (same : m.state ≡ x.state) (told : entry ≡ line.Start n (start.Begun (job_of o))) where
      not_won : entry ≡ line.Cancel l r (pos 0) → ⊥
      not_won is = no_cancel (line.Start n (start.Begun (job_of o))) refl (sym told ∙ is)

      begins : is_begun l r entry ≡ is_order o
      begins = ap (is_begun l r) told

      why : o.loop_no ≡ l → Begun Log → ((o.request ≡ r) × (s.out ≡ Some o.slot)) ⊎ Begun log
      why here b = by (is_order o) refl where
        by : (b : Bool) → is_order o ≡ b → ((o.request ≡ r) × (s.out ≡ Some o.slot)) ⊎ Begun log
        by true it = inl ((order_is o it).1, held it)
        by false it = inr (begun_back (begins ∙ it) b)

      begun_here : o.loop_no ≡ l → IsApart r s.out (Won log made) (Begun log) x.state.requests x.shared → Here s.out [] m
      begun_here here was =
          rw (sym same) at (apart_less r s.out (Won log made) (Won Log (made ++ [])) (Begun Log) (Begun Log) x.state.requests m.shared (λ k. won_nil (won_back (made ++ []) not_won k)) (λ b. b)
          (apart_started r s.out (Won log made) (Begun log) (Begun Log) x.state.requests x.shared m.shared o.slot o.request moves (why here) was))

      elsewhere : o.loop_no ≢ l → IsQuiet entry
      elsewhere other = (begins ∙ ap (λ b. b && (o.request == r)) (ne_eqb o.loop_no l other), not_won)

      begun_next : w'.loops ≡ slice_set w.loops o.loop_no (core g m) → w'.jobs ≡ w.jobs → w'.workers ≡ slice_set w.workers n (Started o) → Next []
      begun_next loops jobs states = record {
        out = s.out;
        jobs = same_jobs jobs;
        workers = set_workers n (Started o) states tt;
        loops = set_loops o.loop_no g x m s.out [] at loops begun_here (λ other p was. less s.out p.loop.state.requests p.loop.shared (elsewhere other) was);
        there = λ b. set_some o.loop_no (core g m) loops ∙ is_there b;
      } where
        is_there : Begun Log → is_some (slice_get w.loops l) ≡ true
        is_there b = elim (cases_eq o.loop_no l) [
          | inl here ↦ ap (λ k. is_some (slice_get w.loops k)) (sym here) ∙ ap is_some at
          | inr other ↦ s.there (begun_back (elsewhere other).0 b)
        ]

    started_next : (n : ℕ) (o : WorkOrder) (ok : Bool) (g : Setting) (x m : Loop Desk) → slice_get w.workers n ≡ Some (Taken o) → slice_get w.loops o.loop_no ≡ Some (core g x)
        → DeskStarts x.shared (o.slot, o.request) ok m.shared → m.state ≡ x.state
        → MatchBool ok ((entry ≡ line.Start n (start.Begun (job_of o))) × (w' ≡ with_worker_at (with_loop w o.loop_no g m) n (Started o)))
        ((entry ≡ line.Start n (start.Dropped (job_of o))) × (w' ≡ with_worker_at w n Idle)) → Next []
    started_next n o true g x m held at moves same h =
        begun_next n o g x m (s.workers n (Taken o) held) at moves same h.0 (ap (λ (y : World). y.loops) h.1) (ap (λ (y : World). y.jobs) h.1) (ap (λ (y : World). y.workers) h.1)
    started_next n o false g x m held at moves same h =
        idle n (quiet _ h.0 refl refl) (ap (λ (y : World). y.loops) h.1) (ap (λ (y : World). y.jobs) h.1) (ap (λ (y : World). y.workers) h.1)

    start_next : (n : ℕ) (state : Worker) → slice_get w.workers n ≡ Some state → StartsJob w n state entry w' → Next []
    start_next n (Taken o) held h = started_next n o h.3 h.0 h.1 h.2 held h.4 h.5.0 h.5.1 h.6
    start_next n Idle held h = only (line.Start n start.Nothing) refl refl h
    start_next n (Started o) held h = only (line.Start n start.Nothing) refl refl h

    finish_next : (n : ℕ) (state : Worker) → FinishesJob w n state entry w' → Next []
    finish_next n (Started o) h = idle n (quiet _ h.told refl refl) (ap (λ (x : World). x.loops) h.after) (ap (λ (x : World). x.jobs) h.after) (ap (λ (x : World). x.workers) h.after)
    finish_next n Idle h = only (line.Finish n finish.Nothing) refl refl h
    finish_next n (Taken o) h = only (line.Finish n finish.Nothing) refl refl h

    collect_next : (n : ℕ) (g : Setting) (x : Loop Desk) (replies : List Answer) → slice_get w.loops n ≡ Some (core g x) → CollectsFrom w n g x replies entry w' → Next []
    collect_next n g x [] at h = only (line.Collect n collect.Nothing) refl refl h
    collect_next n g x (a ∷ replies) at h =
        either h.0 _ _ (Next [])
        (λ k. moved n g x _ at (quiet _ k.1 refl refl) (ap (λ (y : World). y.loops) k.2) (ap (λ (y : World). y.jobs) k.2) (ap (λ (y : World). y.workers) k.2)
        (λ was. apart_staged r s.out (Won log made) (Begun log) x.state.requests x.shared a.order.request (Answered a.end) refl was))
        (λ k. stays (quiet _ k.1 refl refl) (ap (λ (y : World). y.loops) k.2) (ap (λ (y : World). y.jobs) k.2) (ap (λ (y : World). y.workers) k.2))
        h.1

    -- a cancel by the owner
    module _ (n request answer : ℕ) (g : Setting) (x m : Loop Desk) (at : slice_get w.loops n ≡ Some (core g x)) (told : entry ≡ line.Cancel n request (cast_signed w32 answer))
        (loops : w'.loops ≡ slice_set w.loops n (core g m)) where
      none_begun : is_begun l r entry ≡ false
      none_begun = ap (is_begun l r) told

      numbers : entry ≡ line.Cancel l r (pos 0) → (n ≡ l) × (request ≡ r) × (cast_signed w32 answer ≡ pos 0)
      numbers is = let it = sym told ∙ is in (cc, cc, cc)

      here : CancelMoves desk_calls (x.state.requests, x.shared) request answer (m.state.requests, m.shared) → IsApart r s.out (Won log made) (Begun log) x.state.requests x.shared → Here s.out [] m
      here (wins q found zeroed is moves) was =
          rw (sym is) at (apart_cancelled r s.out (Won log made) (Begun Log) (Won Log (made ++ [])) x.state.requests x.shared m.shared request q found moves why
          (apart_less r s.out (Won log made) (Won log made) (Begun log) (Begun Log) x.state.requests x.shared (λ k. k) (begun_back none_begun) was)) where
            why : Won Log (made ++ []) → (request ≡ r) ⊎ Won log made
            why k = elim (cases_eq request r) [ inl same ↦ inl same | inr other ↦ inr (won_nil (won_back (made ++ []) (λ e. other (numbers e).1) k)) ]
      here (leaves refused is beside) was =
          less s.out m.state.requests m.shared (none_begun, λ e. refused.signed (numbers e).2)
          (rw is (apart_still r s.out (Won log made) (Begun log) x.state.requests x.shared m.shared (beside_still x.shared m.shared beside) was))

      cancel_next : CancelMoves desk_calls (x.state.requests, x.shared) request answer (m.state.requests, m.shared) → w'.jobs ≡ w.jobs → w'.workers ≡ w.workers → Next []
      cancel_next moves jobs states = record {
        out = s.out;
        jobs = same_jobs jobs;
        workers = same_workers states;
        loops = set_loops n g x m s.out [] at loops (λ same. here moves) (λ other p was. less s.out p.loop.state.requests p.loop.shared (none_begun, λ e. other (numbers e).0) was);
        there = λ b. set_some n (core g m) loops ∙ s.there (begun_back none_begun b);
      }

    step_stands : (st : Step) → ((n : ℕ) (g : Setting) (m : Loop Desk) (o : WorkOrder) → HasLoop w n g m → (next_order_of m.state).0 ≡ Some o → o.loop_no ≡ n)
        → (h : WorldStep w st entry w') → Next (step_calls l w st entry w' h)
    step_stands (step.Loop n) own h = loop_next n h
    step_stands (step.Post n) own h =
        unless_next n h.1 _
        (λ k. either (length w.jobs == MAX_JOBS) _ _ (Next []) (only (line.Post n post.Full) refl refl) (posts_next n h.0 h.1 (next_order_of h.1.state) h.2 refl (λ o e. own n h.0 h.1 o h.2 e)) k) h.3
    step_stands (step.Take n) own h = take_next n h.0 w.jobs refl h.2
    step_stands (step.Start n) own h = start_next n h.0 h.1 h.2
    step_stands (step.Finish n) own h = finish_next n h.0 h.2
    step_stands (step.Collect n) own h = unless_next n h.1 _ (collect_next n h.0 h.1 h.2 h.3) h.5
    step_stands (step.Send n a) own h =
        moved n h.0 h.1 h.2 h.5 (quiet _ h.7 refl refl) (ap (λ (x : World). x.loops) h.8) (ap (λ (x : World). x.jobs) h.8) (ap (λ (x : World). x.workers) h.8)
        (λ was. rw h.6.1 (apart_still r s.out (Won log made) (Begun log) h.1.state.requests h.1.shared h.2.shared (got_still h.1.shared h.2.shared a h.3 h.6.0) was))
    step_stands (step.Cancel n request) own h =
        unless_next n h.1 _
        (λ k. cancel_next n request h.3 h.0 h.1 h.2 h.4 k.2 (ap (λ (x : World). x.loops) k.3)
        (moves_in desk_calls h.1.state.status (h.1.state, h.1.shared) request h.3 (h.2.state, h.2.shared) k.0) (ap (λ (x : World). x.jobs) k.3) (ap (λ (x : World). x.workers) k.3)) h.5
    step_stands (step.Clock n ms) own h =
        unless_next n h.1 _
        (λ k. moved n h.0 h.1 (in_state h.1 (after_clock h.1.state ms)) h.2 (quiet _ k.0 refl refl) (ap (λ (x : World). x.loops) k.1)
        (ap (λ (x : World). x.jobs) k.1) (ap (λ (x : World). x.workers) k.1) (λ was. was)) h.3

  -- as a world opens
  opening_workers : (k n : ℕ) (x : Worker) → slice_get (replicate k Idle) n ≡ Some x → HoldsOut None x
  opening_workers zero n x h = absurd (cc)
  opening_workers (suc k) zero x h = let is : Idle ≡ x = cc in subst (HoldsOut None) is tt
  opening_workers (suc k) (suc n) x h = opening_workers k n x h

  no_begun : Begun [] → ⊥
  no_begun b = omega (arith, b)

  no_won : Won [] [] → ⊥
  no_won (inl h) = omega (arith, h.1)
  no_won (inr h) = omega (arith, h.1.1)

  opening_apart : (g : Setting) → IsApart r None (Won [] []) (Begun []) (opening_loop g).loop.state.requests (opening_loop g).loop.shared
  opening_apart g = record {
    up_to = tt;
    either_one = λ c some. refl;
    slot = 0;
    in_slot = tt;
    handed = λ s is. absurd (cc);
    shut = λ w. absurd (no_won w);
    at_desk = λ w. absurd (no_won w);
    was_begun = λ b. absurd (no_begun b);
  }

  opening_stands : (settings : List Setting) (workers : ℕ) → Stands (opening_world settings workers) [] []
  opening_stands settings workers = record {
    out = None;
    jobs = tt;
    workers = opening_workers workers;
    loops = λ p at.
        let it = made_of opening_loop settings l p at in
        rw (sym it.2) (opening_apart it.0);
    there = λ b. absurd (no_begun b);
  }

  stands_apart : (w : World) (log : List LogEntry) (made : List GuestCall) → Stands w log made → Won log made → Begun log → ⊥
  stands_apart w log made s won begun =
      let at = some_of (slice_get w.loops l) (s.there begun) in
      never_both r s.out (Won log made) (Begun log) at.0.loop.state.requests at.0.loop.shared (s.loops at.0 at.1) won begun

module _ (settings : List Setting) (placed : AreInPlace settings) (workers : ℕ) (l r : ℕ) (once : LoopHandedOnce desk_calls) (own : LoopHandedOwn desk_calls) where
  abbrev Both : World → List LogEntry → List GuestCall → Type 0
  Both w log made = IsCounted settings placed workers l r once own w log × Stands l r w log made

  step_both : (w : World) (log : List LogEntry) (made : List GuestCall) (s : Step) (entry : LogEntry) (w' : World) (h : WorldStep w s entry w')
      → Both w log made → Both w' (log ++ entry ∷ []) (made ++ step_calls l w s entry w' h)
  step_both w log made s entry w' h was = (
    step_counted settings placed workers l r once own w w' log s entry h was.0,
    step_stands l r w w' log made entry was.1 s (own_orders settings placed workers l r once own w log was.0.told) h,
  )

  none_of : (b f : ℕ) → (1 ≤ b → ⊥) → f ≤ b → (b ≡ 0) × (f ≡ 0)
  none_of zero f never few = (refl, omega (arith, few))
  none_of (suc b) f never few = absurd (never (omega arith))

  pub apart_after : (steps : List Step) (log : List LogEntry) (w : World) (run : WorldRun (opening_world settings workers) steps log w)
      → IsCancelledInLog l r log (guest_calls l (opening_world settings workers) steps log w run)
      → (count_by (is_begun l r) log ≡ 0) × (count_by (is_finished l r) log ≡ 0)
  apart_after steps log w run won =
      let s = (kept_in_run l Both step_both (opening_world settings workers) [] [] steps log w run (opening_counted settings placed workers l r once own, opening_stands l r settings workers)).1 in
      none_of (count_by (is_begun l r) log) (count_by (is_finished l r) log) (stands_apart l r w log (guest_calls l (opening_world settings workers) steps log w run) s won)
      (one_way_after settings placed workers l r once own steps log w run).finished
