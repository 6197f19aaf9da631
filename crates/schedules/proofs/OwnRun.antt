-- What a loop did in its thread, as steps of a world: each order is taken by a worker of its own as it is handed out.
use Rattle.schedules.proofs.Words.{after_clock, Answer, Answered, answered, ap, arith, Bool, Calls, Cancelled, cases_eq, cases_lt, ClockRaised, cond, core}
use Rattle.schedules.proofs.Words.{count_by, Desk, entry_told, eq-eqb, EventStep, Failed, false, GuestCall, HandedOut, has_number, HasLoop, Idle, in_state, inl}
use Rattle.schedules.proofs.Words.{inr, is_failed, is_full, is_of_loop, is_open_request, is_open_stage, is_pending, is_settled, IsLawful, job_of, JobEnd}
use Rattle.schedules.proofs.Words.{length, length-set, lines_of, List, log_of, LogEntry, Loop, lowest_open, MatchBool, MAX_JOBS, Member, ne_eqb, next_order_of}
use Rattle.schedules.proofs.Words.{None, Only, Open, Over, over, PostsOrder, pushed, refl, Request, Requests, Running, set_apart, set_here, Setting, slice_get}
use Rattle.schedules.proofs.Words.{slice_set, Some, Stage, Started, started, Status, Step, StepDid, Stepped, subst, sym, Taken, TakesReplyTo, TellsEnd, times}
use Rattle.schedules.proofs.Words.{times_grow, true, UnlessFailed, with_loop, with_replies, with_requests, with_stage, with_worker_at, WorkEnd, Worker}
use Rattle.schedules.proofs.Words.{WorkOrder, World, WorldRun, WorldStep, ℕ, [], ◌&&◌, ◌++◌, ◌+◌, ◌<◌, ◌==◌, ◌∙◌, ◌∷◌, ◌≡◌, ◌≢◌, ◌≤◌, ◌⊎◌}
use Rattle.order.specs.Work.{IsEndOf}
use Rattle.events.specs.declared.did.StepDid.TheVariants as did
use Rattle.phases.specs.Outside.{clock_in}
use Rattle.phases.proofs.Asyncs.{Few, event_few}
use Rattle.world_log.specs.declared.step.Step.TheVariants as step
use Rattle.world_log.specs.declared.entry.LogEntry.TheVariants as line
use Rattle.world_log.specs.declared.outcome.PostOutcome.TheVariants as post
use Rattle.world_log.specs.declared.outcome.StartOutcome.TheVariants as start
use Rattle.world_log.specs.declared.outcome.FinishOutcome.TheVariants as finish
use Rattle.world_log.specs.declared.outcome.CollectOutcome.TheVariants as collect
use Rattle.world_log.specs.declared.outcome.JobId.{JobId}
use Rattle.schedules.proofs.Begun.{jobs_begun, own_begins_none}
use Rattle.schedules.proofs.FreeSlots.{step_kept}
use Rattle.schedules.proofs.OwnDesk.{Stands, EndsSo, step_there, now_there}
use Rattle.schedules.proofs.OwnRequests.{FitsOne, Fits, FitsAt, keeps_fits, fits_staged, fits_settled, find_member, place_of, open_not_settled, times_of_another}

-- a line by itself
own_entry : (l : ℕ) (entry : LogEntry) → is_of_loop l entry ≡ true → log_of l (entry ∷ []) ≡ entry ∷ []
own_entry l entry is = ap (λ (b : Bool). cond b (entry ∷ []) []) is

other_entry : (l : ℕ) (entry : LogEntry) → is_of_loop l entry ≡ false → log_of l (entry ∷ []) ≡ []
other_entry l entry is = ap (λ (b : Bool). cond b (entry ∷ []) []) is

told_is : (n k : ℕ) (it : StepDid) (emits : List ℕ) → is_of_loop k (entry_told n it emits) ≡ (n == k)
told_is n k (did.Entered phase now) emits = refl
told_is n k _ emits = refl

told_fits : (n : ℕ) (it : StepDid) (emits : List ℕ) → is_full (entry_told n it emits) ≡ false
told_fits n (did.Entered phase now) emits = refl
told_fits n _ emits = refl

one_not_full : (entry : LogEntry) → is_full entry ≡ false → count_by is_full (entry ∷ []) ≡ 0
one_not_full entry is = ap (λ (b : Bool). 0 + cond {A = ℕ} b 1 0) is

-- what else stands in the world stays, and nothing is logged of other loops
pub record IsBesideLoop (n : ℕ) (w : World) (told : List LogEntry) (w' : World) : Type 0 where
  pub loops : (k : ℕ) → n ≢ k → slice_get w'.loops k ≡ slice_get w.loops k
  pub replies : (k : ℕ) → n ≢ k → slice_get w'.replies k ≡ slice_get w.replies k
  pub workers : length w'.workers ≡ length w.workers
  pub others : (k : ℕ) → n ≢ k → log_of k told ≡ []
  pub none_full : count_by is_full told ≡ 0

module _ {S : Type 0} (calls : Calls S) (lawful : IsLawful calls) (g : Setting) (gone : List (ℕ × ℕ)) where
  abbrev n : ℕ
  n = g.loop_no

  -- The loop stands so in the world, in its place; no job is on its way, and no reply waits for it; and workers from this one on are
  -- idle, as many at least as there are orders yet to be handed out.
  pub record IsAt (w : World) (l : Loop S) (handed : List (ℕ × ℕ)) (next left : ℕ) : Type 0 where
    pub desk : Desk
    pub there : HasLoop w n g (over desk l)
    pub jobs : w.jobs ≡ []
    pub replies : slice_get w.replies n ≡ Some []
    pub stands : Stands handed gone (calls.view l.shared) desk
    pub fits : FitsAt calls lawful g handed gone w.workers l.state.requests l.shared
    pub few : Few l.state
    pub idle : (k : ℕ) → next ≤ k → k < length w.workers → slice_get w.workers k ≡ Some Idle
    pub room : next + left ≤ length w.workers

  -- from there it goes on to here, and this is logged of it, and these jobs are begun
  pub record GoesTo (w : World) (l : Loop S) (lines : List LogEntry) (begun : List JobId) (handed : List (ℕ × ℕ)) (next left : ℕ) : Type 0 where
    pub steps : List Step
    pub told : List LogEntry
    pub world : World
    pub run : WorldRun w steps told world
    pub at : IsAt world l handed next left
    pub own : log_of n told ≡ lines
    pub starts : jobs_begun told ≡ begun
    pub beside : IsBesideLoop n w told world

  mine : (n == n) ≡ true
  mine = eq-eqb n n refl

  apart : (k : ℕ) → n ≢ k → (n == k) ≡ false
  apart k other = ne_eqb n k other

  module _ (w : World) (old : Loop S) (handed : List (ℕ × ℕ)) (next left : ℕ) (r : IsAt w old handed next left) where
    abbrev d : Desk
    d = r.desk

    abbrev here : Loop Desk
    here = over d old

    -- one line of the loop itself, by which only the loop changes
    module _ (new : Loop S) (e : Desk) (s : Step) (entry : LogEntry) where
      abbrev w' : World
      w' = with_loop w n g (over e new)

      only_loop : WorldStep w s entry w' → is_of_loop n entry ≡ true → ((k : ℕ) → n ≢ k → is_of_loop k entry ≡ false) → is_full entry ≡ false
          → Stands handed gone (calls.view new.shared) e → FitsAt calls lawful g handed gone w.workers new.state.requests new.shared → Few new.state
          → GoesTo w new (entry ∷ []) [] handed next left
      only_loop moves is others fits stands requests few = record {
        steps = s ∷ [];
        told = entry ∷ [];
        world = w';
        run = (w', moves, refl);
        at = record {
          desk = e;
          there = set_here w.loops n (core g (over e new)) (core g here) r.there;
          jobs = r.jobs;
          replies = r.replies;
          stands = stands;
          fits = requests;
          few = few;
          idle = r.idle;
          room = r.room;
        };
        own = own_entry n entry is;
        starts = own_begins_none n entry is;
        beside = record {
          loops = λ k other. set_apart w.loops n k (core g (over e new)) other;
          replies = λ k other. refl;
          workers = refl;
          others = λ k other. other_entry k entry (others k other);
          none_full = one_not_full entry fits;
        };
      }

    -- a line by which nothing changes
    stays : (s : Step) (entry : LogEntry) → WorldStep w s entry w → is_of_loop n entry ≡ true → ((k : ℕ) → n ≢ k → is_of_loop k entry ≡ false) → is_full entry ≡ false
        → GoesTo w old (entry ∷ []) [] handed next left
    stays s entry moves is others fits = record {
      steps = s ∷ [];
      told = entry ∷ [];
      world = w;
      run = (w, moves, refl);
      at = r;
      own = own_entry n entry is;
      starts = own_begins_none n entry is;
      beside = record { loops = λ k other. refl; replies = λ k other. refl; workers = refl; others = λ k other. other_entry k entry (others k other); none_full = one_not_full entry fits };
    }

    -- nothing is done
    pub rests : GoesTo w old [] [] handed next left
    rests = record {
      steps = [];
      told = [];
      world = w;
      run = refl;
      at = r;
      own = refl;
      starts = refl;
      beside = record { loops = λ k other. refl; replies = λ k other. refl; workers = refl; others = λ k other. refl; none_full = refl };
    }

    -- on a failed loop nothing changes
    failed_only : (entry : LogEntry) (P : Type 0) → is_failed old.state.status ≡ true → entry ≡ line.Failed n → UnlessFailed w n here entry w P
    failed_only entry P failed e = rw failed (e, refl)

    -- a step
    pub stepped : (it : StepDid) (emits : List ℕ) (made : List GuestCall) (new : Loop S) → EventStep calls g (Stepped it emits made) old new → EndsSo handed gone (calls.view new.shared)
        → GoesTo w new (entry_told n it emits ∷ []) [] handed next left
    stepped it emits made new h ends =
        let there = step_there handed gone calls lawful g old it made new d r.few r.stands h.0 ends in
        only_loop new there.0 (step.Loop n) (entry_told n it emits)
        (record {
          setting = g;
          old = here;
          new = over there.0 new;
          did = it;
          made = made;
          at = r.there;
          steps = there.1;
          told = ap (entry_told n it) h.1;
          after = refl;
        })
        (told_is n n it emits ∙ mine) (λ k other. told_is n k it emits ∙ apart k other) (told_fits n it emits) there.2
        (step_kept calls g (FitsAt calls lawful g handed gone w.workers) (keeps_fits calls lawful g handed gone w.workers) it made new old h.0 r.fits)
        (event_few calls g (Stepped it emits made) old new h r.few)

    -- the clock
    pub clocked : (ms : ℕ) → GoesTo w (in_state old (after_clock old.state ms)) (lines_of n old.state (ClockRaised ms)) [] handed next left
    clocked ms = by (is_failed old.state.status) refl where
      new : Loop S
      new = in_state old (after_clock old.state ms)

      clock_stays : (t : Status) → is_failed t ≡ true → clock_in t old.state.clock ms ≡ old.state.clock
      clock_stays Failed h = refl
      clock_stays Running h = absurd (cc)
      clock_stays Over h = absurd (cc)

      by : (b : Bool) → is_failed old.state.status ≡ b → GoesTo w new (cond b (line.Failed n ∷ []) (line.Clock n (after_clock old.state ms).clock ∷ [])) [] handed next left
      by true failed =
          let same : old ≡ new = ap (λ (k : ℕ). in_state old (record old.state { clock = k })) (sym (clock_stays old.state.status failed)) in
          rw (← same) (stays (step.Clock n ms) (line.Failed n) (
            g,
            here,
            r.there,
            failed_only (line.Failed n) ((line.Failed n ≡ line.Clock n (after_clock old.state ms).clock) × (w ≡ with_loop w n g (over d new))) failed refl,
          ) mine (λ k other. apart k other) refl)
      by false on =
          only_loop new d (step.Clock n ms) (line.Clock n (after_clock old.state ms).clock) (
            g,
            here,
            r.there,
            rw on (refl, refl),
          )
          mine (λ k other. apart k other) refl r.stands r.fits r.few

    -- an order is asked for, and there is none
    posts : (entry : LogEntry) (w' : World) → is_failed old.state.status ≡ false → PostsOrder w n g here (next_order_of old.state) entry w' → WorldStep w (step.Post n) entry w'
    posts entry w' on h = (
      g,
      here,
      r.there,
      rw (on, (ap (λ (js : List WorkOrder). length js == MAX_JOBS) r.jobs)) h,
    )

    pub asked_none : (b : Bool) → is_failed old.state.status ≡ b → next_order_of old.state ≡ (None, old.state)
        → GoesTo w old (cond b (line.Failed n ∷ []) (line.Post n post.Nothing ∷ [])) [] handed next left
    asked_none true failed is =
        stays (step.Post n) (line.Failed n) (
          g,
          here,
          r.there,
          failed_only (line.Failed n)
              (MatchBool (length w.jobs == MAX_JOBS) (Only w (line.Failed n) (line.Post n post.Full) w) (PostsOrder w n g here (next_order_of old.state) (line.Failed n) w)) failed refl,
        ) mine (λ k other. apart k other) refl
    asked_none false on is =
        stays (step.Post n) (line.Post n post.Nothing)
        (posts (line.Post n post.Nothing) w on
        (rw is (refl, refl))) mine (λ k other. apart k other) refl

  -- a worker that has started a job is not the idle one
  another : (ws : List Worker) (next k : ℕ) (o : WorkOrder) → slice_get ws next ≡ Some Idle → slice_get ws k ≡ Some (Started o) → next ≢ k
  another ws next k o idle busy same = (let it = sym idle ∙ ap (slice_get ws) same ∙ busy in cc)

  -- an order is handed out, and taken at once by the next worker
  module _ (w : World) (old : Loop S) (handed : List (ℕ × ℕ)) (next left : ℕ) (r : IsAt w old handed next (1 + left)) (q : Request)
      (on : is_failed old.state.status ≡ false) (lowest : lowest_open old.state.requests ≡ Some q)
      (is : next_order_of old.state ≡ (Some q.order, with_requests old.state (with_stage old.state.requests q.order.request HandedOut))) where
    abbrev rs : Requests
    rs = old.state.requests

    abbrev o : WorkOrder
    o = q.order

    abbrev c : ℕ × ℕ
    c = place_of q

    abbrev its_job : JobId
    its_job = record { loop_no = n; request = o.request }

    abbrev new : Loop S
    new = in_state old (with_requests old.state (with_stage rs o.request HandedOut))

    abbrev handed' : List (ℕ × ℕ)
    handed' = handed ++ c ∷ []

    abbrev w1 : World
    w1 = record (with_loop w n g (over r.desk new)) { jobs = w.jobs ++ o ∷ [] }

    abbrev w2 : World
    w2 = record (with_worker_at w1 next (Taken o)) { jobs = [] }

    abbrev w3 : World
    w3 = with_worker_at (with_loop w2 n g (over (started r.desk c) new)) next (Started o)

    there : Member q rs.outstanding × (is_open_stage q.stage ≡ true)
    there = find_member (λ (x : Request). is_open_stage x.stage) rs.outstanding q lowest

    fits_q : FitsOne n handed gone w.workers (calls.view old.shared).opened (calls.view old.shared).cancelled rs.last q
    fits_q = r.fits.each q there.0

    inside : next < length w.workers
    inside = let room = r.room in omega (arith, room)

    idle : slice_get w.workers next ≡ Some Idle
    idle = r.idle next (omega arith) inside

    abbrev posted : LogEntry
    posted = line.Post n (post.Request o.request)

    abbrev took : LogEntry
    took = line.Take next (Some (job_of o))

    abbrev begun : LogEntry
    begun = line.Start next (start.Begun (job_of o))

    post_moves : WorldStep w (step.Post n) posted w1
    post_moves = posts w old handed next (1 + left) r posted w1 on (rw is (refl, refl))

    take_moves : WorldStep w1 (step.Take next) took w2
    take_moves = (Idle, idle, rw (ap (λ (js : List WorkOrder). js ++ o ∷ []) r.jobs) (refl, refl))

    own : o.loop_no ≡ n
    own = fits_q.mine

    none_begun : times c r.desk.started ≡ 0
    none_begun = elim (cases_lt 0 (times c r.desk.started)) [
      | inl some ↦ absurd (let out = r.stands.given c some in let fresh = fits_q.fresh there.1 o.slot in omega (arith, out, fresh))
      | inr none ↦ omega (arith, none)
    ]

    is_open : is_open_request r.desk c ≡ true
    is_open =
        let pending = fits_q.pending (open_not_settled q.stage there.1) in
        let known = r.stands.known in
        let p = ap (λ (v : _). is_pending v.opened v.cancelled c) known ∙ pending in
        λ i. p i && eq-eqb (times c r.desk.started) 0 none_begun i

    start_moves : WorldStep w2 (step.Start next) begun w3
    start_moves = (
      Taken o,
      set_here w.workers next (Taken o) Idle idle,
      (
        g,
        over r.desk new,
        over (started r.desk c) new,
        true,
        rw own (set_here w.loops n (core g (over r.desk new)) (core g (over r.desk old)) r.there),
        ((sym is_open, refl), refl, refl),
        (refl, ap (λ (k : ℕ). with_worker_at (with_loop w2 k g (over (started r.desk c) new)) next (Started o)) (sym own)),
      ),
    )

    known : (x : ℕ × ℕ) → 0 < times x handed' → x.1 ≤ rs.last
    known x some = elim (pushed x c handed some) [
      | inl was ↦ r.fits.known x was
      | inr same ↦ rw same fits_q.low
    ]

    -- the requests, where other workers are at what they were
    fits_with : (ws : List Worker) → ((k : ℕ) (x : WorkOrder) → slice_get w.workers k ≡ Some (Started x) → slice_get ws k ≡ Some (Started x))
        → (times c gone ≡ 0 → (k : ℕ) × (slice_get ws k ≡ Some (Started o)))
        → Fits n handed' gone ws (with_stage rs o.request HandedOut) (calls.view old.shared).opened (calls.view old.shared).cancelled
    fits_with ws others it =
        fits_staged n handed handed' gone w.workers ws rs (calls.view old.shared).opened (calls.view old.shared).cancelled (calls.view old.shared).cancelled o.request HandedOut
        (λ x at same f. let one : x ≡ q = r.fits.one x q at there.0 same in record {
          mine = f.mine;
          low = f.low;
          pending = λ none. f.pending (ap (λ (y : Request). is_settled y.stage) one ∙ open_not_settled q.stage there.1);
          fresh = λ yes. absurd (cc);
          working = λ out live.
              let work = it (ap (λ (y : Request). times (place_of y) gone) (sym one) ∙ live) in
              (work.0, work.1 ∙ ap (λ (y : Request). Some (Started y.order)) (sym one));
        })
        (λ x at other f. record {
          mine = f.mine;
          low = f.low;
          pending = f.pending;
          fresh = λ yes slot. times_of_another (slot, x.order.request) c handed other ∙ f.fresh yes slot;
          working = λ out live. let work = f.working out live in (work.0, others work.0 x.order work.1);
        })
        known r.fits.few r.fits

    handed_started : times c gone ≡ 0 → GoesTo w new (posted ∷ []) (its_job ∷ []) handed' (1 + next) left
    handed_started live = record {
      steps = step.Post n ∷ step.Take next ∷ step.Start next ∷ [];
      told = posted ∷ took ∷ begun ∷ [];
      world = w3;
      run = (w1, post_moves, (w2, take_moves, (w3, start_moves, refl)));
      at = record {
        desk = started r.desk c;
        there = set_here (slice_set w.loops n (core g (over r.desk new))) n (core g (over (started r.desk c) new)) (core g (over r.desk new))
            (set_here w.loops n (core g (over r.desk new)) (core g (over r.desk old)) r.there);
        jobs = refl;
        replies = r.replies;
        stands = record {
          known = r.stands.known;
          waits = r.stands.waits;
          wide = r.stands.wide;
          covers = r.stands.covers;
          never = λ x some. elim (pushed x c r.desk.started some) [
            | inl was ↦ r.stands.never x was
            | inr same ↦ ap (λ (y : ℕ × ℕ). times y gone) same ∙ live
          ];
          begun = λ x out alive. elim (pushed x c handed out) [
            | inl was ↦ times_grow x c r.desk.started (r.stands.begun x was alive)
            | inr same ↦ rw same (now_there c r.desk.started)
          ];
          given = λ x some. elim (pushed x c r.desk.started some) [
            | inl was ↦ times_grow x c handed (r.stands.given x was)
            | inr same ↦ rw same (now_there c handed)
          ];
        };
        fits = fits_with w3.workers
            (λ k x busy. set_apart (slice_set w.workers next (Taken o)) next k (Started o) (another w.workers next k x idle busy)
            ∙ set_apart w.workers next k (Taken o) (another w.workers next k x idle busy) ∙ busy)
            (λ it. (next, set_here (slice_set w.workers next (Taken o)) next (Started o) (Taken o) (set_here w.workers next (Taken o) Idle idle)));
        few = r.few;
        idle = λ k more low.
            let other : next ≢ k = λ same. omega (arith, more, same) in
            let long = length-set w.workers next (Taken o) in
            let longer = length-set (slice_set w.workers next (Taken o)) next (Started o) in
            set_apart (slice_set w.workers next (Taken o)) next k (Started o) other ∙ set_apart w.workers next k (Taken o) other
            ∙ r.idle k (omega (arith, more)) (omega (arith, low, long, longer));
        room =
            let room = r.room in
            let long = length-set w.workers next (Taken o) in
            let longer = length-set (slice_set w.workers next (Taken o)) next (Started o) in
            omega (arith, room, long, longer);
      };
      own = own_entry n posted mine;
      starts = ap (λ (l : ℕ). record { loop_no = l; request = o.request } ∷ []) fits_q.mine;
      beside = record {
        loops = λ k other. set_apart (slice_set w.loops n (core g (over r.desk new))) n k (core g (over (started r.desk c) new)) other ∙ set_apart w.loops n k (core g (over r.desk new)) other;
        replies = λ k other. refl;
        workers = length-set (slice_set w.workers next (Taken o)) next (Started o) ∙ length-set w.workers next (Taken o);
        others = λ k other. other_entry k posted (apart k other);
        none_full = refl;
      };
    }

    -- a request that no worker starts stays with the one that took it
    handed_taken : 0 < times c gone → GoesTo w new (posted ∷ []) [] handed' (1 + next) left
    handed_taken lost = record {
      steps = step.Post n ∷ step.Take next ∷ [];
      told = posted ∷ took ∷ [];
      world = w2;
      run = (w1, post_moves, (w2, take_moves, refl));
      at = record {
        desk = r.desk;
        there = set_here w.loops n (core g (over r.desk new)) (core g (over r.desk old)) r.there;
        jobs = refl;
        replies = r.replies;
        stands = record {
          known = r.stands.known;
          waits = r.stands.waits;
          wide = r.stands.wide;
          covers = r.stands.covers;
          never = r.stands.never;
          begun = λ x out alive. elim (pushed x c handed out) [
            | inl was ↦ r.stands.begun x was alive
            | inr same ↦ absurd (let none = ap (λ (y : ℕ × ℕ). times y gone) (sym same) ∙ alive in omega (arith, lost, none))
          ];
          given = λ x some. times_grow x c handed (r.stands.given x some);
        };
        fits = fits_with w2.workers (λ k x busy. set_apart w.workers next k (Taken o) (another w.workers next k x idle busy) ∙ busy) (λ none. absurd (omega (arith, lost, none)));
        few = r.few;
        idle = λ k more low.
            let other : next ≢ k = λ same. omega (arith, more, same) in
            let long = length-set w.workers next (Taken o) in
            set_apart w.workers next k (Taken o) other ∙ r.idle k (omega (arith, more)) (omega (arith, low, long));
        room = (let room = r.room in let long = length-set w.workers next (Taken o) in omega (arith, room, long));
      };
      own = own_entry n posted mine;
      starts = refl;
      beside = record {
        loops = λ k other. set_apart w.loops n k (core g (over r.desk new)) other;
        replies = λ k other. refl;
        workers = length-set w.workers next (Taken o);
        others = λ k other. other_entry k posted (apart k other);
        none_full = refl;
      };
    }

    pub hands_out : GoesTo w new (posted ∷ []) (cond (times c gone == 0) (its_job ∷ []) []) handed' (1 + next) left
    hands_out = elim (cases_lt 0 (times c gone)) [
      | inl lost ↦ goes_by false (ne_eqb (times c gone) 0 (λ none. omega (arith, lost, none))) (handed_taken lost)
      | inr none ↦ goes_by true (eq-eqb (times c gone) 0 (omega (arith, none))) (handed_started (omega (arith, none)))
    ] where
      goes_by : (b : Bool) → (times c gone == 0) ≡ b → GoesTo w new (posted ∷ []) (cond b (its_job ∷ []) []) handed' (1 + next) left
          → GoesTo w new (posted ∷ []) (cond (times c gone == 0) (its_job ∷ []) []) handed' (1 + next) left
      goes_by b is h = subst (λ (x : Bool). GoesTo w new (posted ∷ []) (cond x (its_job ∷ []) []) handed' (1 + next) left) (sym is) h

  -- a reply is taken, which its worker has just put
  module _ (w : World) (old : Loop S) (handed : List (ℕ × ℕ)) (next left : ℕ) (r : IsAt w old handed next left) (o : WorkOrder) (end : WorkEnd)
      (right : ∥ IsEndOf o end ∥₁) (takes : TakesReplyTo o old.state) (out : 0 < times (o.slot, o.request) handed) (ending : JobEnd) (tells : TellsEnd ending end) where
    abbrev os : Requests
    os = old.state.requests

    abbrev asked_for : Request
    asked_for = takes.one.request

    abbrev after_reply : Loop S
    after_reply = in_state old (with_requests old.state (answered os o end))

    at_reply : Member asked_for os.outstanding × (has_number o.request asked_for ≡ true)
    at_reply = find_member (has_number o.request) os.outstanding asked_for takes.one.outstanding

    fits_reply : FitsOne n handed gone w.workers (calls.view old.shared).opened (calls.view old.shared).cancelled os.last asked_for
    fits_reply = r.fits.each asked_for at_reply.0

    stage_is : (s : Stage) → asked_for.stage ≡ s → asked_for.stage ≡ HandedOut
    stage_is Open e =
        absurd
        (let none = fits_reply.fresh (ap is_open_stage e) o.slot in
        let same = ap (λ (x : WorkOrder). times (o.slot, x.request) handed) takes.one.order in
        omega (arith, out, none, same))
    stage_is HandedOut e = e
    stage_is (Answered x) e = absurd (let it = ap is_settled e in let un = takes.one.unsettled in cc)
    stage_is Cancelled e = absurd (let it = ap is_settled e in let un = takes.one.unsettled in cc)

    module _ (live : times (o.slot, o.request) gone ≡ 0) where
      working : (k : ℕ) × (slice_get w.workers k ≡ Some (Started o))
      working =
          let it = fits_reply.working (stage_is asked_for.stage refl) (ap (λ (x : WorkOrder). times (x.slot, x.request) gone) takes.one.order ∙ live) in
          (it.0, it.1 ∙ ap (λ (x : WorkOrder). Some (Started x)) takes.one.order)

      abbrev worker : ℕ
      worker = working.0

      abbrev reply : Answer
      reply = record { order = o; end = end }

      abbrev v1 : World
      v1 = with_worker_at (with_replies w n (reply ∷ [])) worker Idle

      abbrev v2 : World
      v2 = with_replies (with_loop v1 n g (over r.desk after_reply)) n []

      abbrev finished : LogEntry
      finished = line.Finish worker (finish.Ended (job_of o) ending)

      abbrev collected : LogEntry
      collected = line.Collect n (collect.Request o.request)

      own_reply : o.loop_no ≡ n
      own_reply = ap (λ (x : WorkOrder). x.loop_no) (sym takes.one.order) ∙ fits_reply.mine

      finish_moves : WorldStep w (step.Finish worker) finished v1
      finish_moves = (
        Started o,
        working.1,
        record {
          end = end;
          ending = ending;
          replies = [];
          right = right;
          tells = tells;
          waiting = ap (slice_get w.replies) own_reply ∙ r.replies;
          told = refl;
          after = ap (λ (k : ℕ). with_worker_at (with_replies w k (reply ∷ [])) worker Idle) (sym own_reply);
        },
      )

      collect_moves : WorldStep v1 (step.Collect n) collected v2
      collect_moves = (
        g,
        over r.desk old,
        reply ∷ [],
        r.there,
        set_here w.replies n (reply ∷ []) [] r.replies,
        rw takes.goes_on (true, (takes, refl, refl)),
      )

      other_work : (x : Request) (k : ℕ) → x.order.request ≢ o.request → slice_get w.workers k ≡ Some (Started x.order) → slice_get (slice_set w.workers worker Idle) k ≡ Some (Started x.order)
      other_work x k other busy =
          set_apart w.workers worker k Idle
          (λ same. let it = sym busy ∙ sym (ap (slice_get w.workers) same) ∙ working.1 in other (let orders : x.order ≡ o = cc in ap (λ (y : WorkOrder). y.request) orders))
          ∙ busy

      pub takes_reply : GoesTo w after_reply (collected ∷ []) [] handed next left
      takes_reply = record {
        steps = step.Finish worker ∷ step.Collect n ∷ [];
        told = finished ∷ collected ∷ [];
        world = v2;
        run = (v1, finish_moves, (v2, collect_moves, refl));
        at = record {
          desk = r.desk;
          there = set_here w.loops n (core g (over r.desk after_reply)) (core g (over r.desk old)) r.there;
          jobs = r.jobs;
          replies = set_here (slice_set w.replies n (reply ∷ [])) n [] (reply ∷ []) (set_here w.replies n (reply ∷ []) [] r.replies);
          stands = r.stands;
          fits =
              fits_settled n handed gone w.workers (slice_set w.workers worker Idle) os (calls.view old.shared).opened (calls.view old.shared).cancelled (calls.view old.shared).cancelled
              o.request (Answered end) refl (λ x other is. is) r.fits.few other_work r.fits;
          few = r.few;
          idle = λ k more low. by k more low (cases_eq worker k);
          room = (let room = r.room in let long = length-set w.workers worker Idle in omega (arith, room, long));
        };
        own = own_entry n collected mine;
        starts = refl;
        beside = record {
          loops = λ k other. set_apart w.loops n k (core g (over r.desk after_reply)) other;
          replies = λ k other. set_apart (slice_set w.replies n (reply ∷ [])) n k [] other ∙ set_apart w.replies n k (reply ∷ []) other;
          workers = length-set w.workers worker Idle;
          others = λ k other. other_entry k collected (apart k other);
          none_full = refl;
        };
      } where
        by : (k : ℕ) → next ≤ k → k < length (slice_set w.workers worker Idle) → (worker ≡ k) ⊎ (worker ≢ k) → slice_get (slice_set w.workers worker Idle) k ≡ Some Idle
        by k more low (inl same) = rw (← same) (set_here w.workers worker Idle (Started o) working.1)
        by k more low (inr other) = set_apart w.workers worker k Idle other ∙ r.idle k more (let long = length-set w.workers worker Idle in omega (arith, low, long))
