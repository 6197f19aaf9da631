-- A worker's starts and finishes, as those of a world.
use Rattle.world.proofs.Words.{All, All-set, Answer, answer_of, ap, Bool, Core, core, Desk, desk_others, Err, false, FinishesJob, FitsLoops, get_or, Idle}
use Rattle.world.proofs.Words.{IsEndOf, IsJob, job_of, JobId, length, length-set, List, Loop, map, map-set, map_get, Ok, Order, order_of, refl, Reply, Result}
use Rattle.world.proofs.Words.{set_same, slice_get, slice_get-get_or, slice_set, Some, Started, StartsJob, subst, sym, Taken, true, with_loop, with_worker_at}
use Rattle.world.proofs.Words.{WithWorker, Worker, worker_of, WorkOrder, World, WorldIsKept, ℕ, [], ◌++◌, ◌<◌, ◌∙◌, ◌∷◌, ◌≡◌}
use Rattle.std.specs.Prelude.{OnErr}
use Rattle.order.specs.Orders.{end_of}
use Rattle.phases.specs.Outside.{StartsBeside}
use Rattle.world_log.specs.declared.entry.LogEntry.TheVariants as line
use Rattle.world_log.specs.declared.outcome.JobEnd.{JobEnd}
use Rattle.world_log.specs.declared.outcome.StartOutcome.TheVariants as start
use Rattle.world_log.specs.declared.outcome.FinishOutcome.TheVariants as finish
use Rattle.world.specs.World.{TellsEnd, with_replies}
use Rattle.world.specs.declared.worker.Worker.{Worker as CodeWorker}
use Rattle.world.specs.declared.worker.Worker.TheVariants as worker
use Rattle.phases.proofs.RequestsRise.{at_all}
use Rattle.world.proofs.StepsAgree.{world_of, moved}

-- what each worker has
abbrev pub workers_in : List CodeWorker → List Worker
workers_in hs = map worker_of hs

-- what an index reads
pub read_or : {X : Type 0} (xs : List X) (n : ℕ) (x d : X) → n < length xs → x ≡ get_or xs n d → slice_get xs n ≡ Some x
read_or xs n x d within is = slice_get-get_or xs n d within ∙ ap Some (sym is)

-- the loop of a job is there
pub loop_there : (loops : ℕ) (o : Order) (job : JobId) → job ≡ job_of (order_of o) → IsJob loops o → job.loop_no < loops
loop_there loops o job told held = rw told held.there

pub on_err : {X E : Type 0} (r : Result X E) (P : Type 0) → P → OnErr r P
on_err (Ok x) P h = tt
on_err (Err e) P h = h

pub taken_same : (x y : Order) → worker.Taken x ≡ worker.Taken y → x ≡ y
taken_same x y h = cc

pub started_same : (x y : Order) → worker.Started x ≡ worker.Started y → x ≡ y
started_same x y h = cc

pub job_held : (loops n : ℕ) (hs : List CodeWorker) (h h' : CodeWorker) → All (FitsLoops loops) hs → slice_get hs n ≡ Some h → h ≡ h' → FitsLoops loops h'
job_held loops n hs h h' all at is = subst (FitsLoops loops) is (at_all (FitsLoops loops) hs n h all at)

pub kept_worker : (ls : List (Core Desk)) (js : List Order) (hs : List CodeWorker) (lists room n : ℕ) (h : CodeWorker) → FitsLoops (length ls) h
    → WorldIsKept ls js hs lists room → WorldIsKept ls js (slice_set hs n h) lists room
kept_worker ls js hs lists room n h job kept = record {
  numbered = kept.numbered;
  waiting = kept.waiting;
  held = All-set (FitsLoops (length ls)) hs n h job kept.held;
  paired = kept.paired;
  few = kept.few;
  roomy = kept.roomy;
}

pub kept_reply : {D : Type 0} (ls : List (Core Desk)) (js : List Order) (hs : List CodeWorker) (lists : List D) (room n k : ℕ) (h : CodeWorker) (d : D)
    → h ≡ worker.Idle → WorldIsKept ls js hs (length lists) room
    → WorldIsKept ls js (slice_set hs n h) (length (slice_set lists k d)) room
kept_reply ls js hs lists room n k h d empty kept =
    rw (length-set lists k d) (kept_worker ls js hs (length lists) room n h (subst (FitsLoops (length ls)) (sym empty) tt) kept)

loop_same : (l m : Loop Desk) → l.state ≡ m.state → l.store ≡ m.store → l.shared ≡ m.shared → l ≡ m
loop_same l m state store shared =
    ap (λ s. record { state = s; store = l.store; shared = l.shared }) state ∙ ap (λ s. record { state = m.state; store = s; shared = l.shared }) store
    ∙ ap (λ s. record { state = m.state; store = m.store; shared = s }) shared

module _ (w : World) (ls : List (Core Desk)) (js : List WorkOrder) (hs : List CodeWorker) (rs : List (List Answer))
    (is : world_of ls js (workers_in hs) rs ≡ w) (n : ℕ) (h : CodeWorker) (at : slice_get hs n ≡ Some h) where
  has_worker : slice_get w.workers n ≡ Some (worker_of h)
  has_worker = ap (λ x. slice_get x.workers n) (sym is) ∙ map_get worker_of hs n h at

  unmoved : world_of ls js (workers_in (slice_set hs n h)) rs ≡ w
  unmoved = ap (λ x. world_of ls js (workers_in x) rs) (set_same hs n h at) ∙ is

  pub starts_nothing : ((o : Order) → h ≡ worker.Taken o → ⊥) → WithWorker w n (λ x. StartsJob w n x (line.Start n start.Nothing) (world_of ls js (workers_in (slice_set hs n h)) rs))
  starts_nothing other = (worker_of h, has_worker, by h unmoved other) where
    by : (x : CodeWorker) {w' : World} → w' ≡ w → ((o : Order) → x ≡ worker.Taken o → ⊥) → StartsJob w n (worker_of x) (line.Start n start.Nothing) w'
    by worker.Idle same isnt = (refl, same)
    by (worker.Taken o) same isnt = absurd (isnt o refl)
    by (worker.Started o) same isnt = (refl, same)

  pub finishes_nothing : ((o : Order) → h ≡ worker.Started o → ⊥) → WithWorker w n (λ x. FinishesJob w n x (line.Finish n finish.Nothing) (world_of ls js (workers_in (slice_set hs n h)) rs))
  finishes_nothing other = (worker_of h, has_worker, by h unmoved other) where
    by : (x : CodeWorker) {w' : World} → w' ≡ w → ((o : Order) → x ≡ worker.Started o → ⊥) → FinishesJob w n (worker_of x) (line.Finish n finish.Nothing) w'
    by worker.Idle same isnt = (refl, same)
    by (worker.Taken o) same isnt = (refl, same)
    by (worker.Started o) same isnt = absurd (isnt o refl)

  module _ (o : Order) (job : JobId) (p q : Core Desk) (ok : Bool) (is_taken : h ≡ worker.Taken o) (told : job ≡ job_of (order_of o))
      (at_loop : slice_get ls job.loop_no ≡ Some p) (e : q.setting ≡ p.setting) (beside : StartsBeside desk_others p.loop o.slot o.request ok q.loop) where
    has_taken : slice_get w.workers n ≡ Some (Taken (order_of o))
    has_taken = has_worker ∙ ap (λ x. Some (worker_of x)) is_taken

    has_loop : slice_get w.loops o.loop_no ≡ Some p
    has_loop = ap (λ x. slice_get x.loops o.loop_no) (sym is) ∙ ap (λ j. slice_get ls j.loop_no) (sym told) ∙ at_loop

    as_told : (b : Bool) → ok ≡ b → StartsBeside desk_others p.loop o.slot o.request b q.loop
    as_told b it = rw it at beside

    pub begins : (o' : Order) → ok ≡ true → o' ≡ o → WithWorker w n
        (λ x. StartsJob w n x (line.Start n (start.Begun job)) (world_of (slice_set ls job.loop_no q) js (workers_in (slice_set hs n (worker.Started o'))) rs))
    begins o' begun same = (
      Taken (order_of o),
      has_taken,
      (
        p.setting,
        p.loop,
        q.loop,
        true,
        has_loop,
        as_told true begun,
        (
          ap (λ j. line.Start n (start.Begun j)) told,
          ap (λ x. world_of (slice_set ls job.loop_no q) js x rs) (map-set worker_of hs n (worker.Started o'))
              ∙ ap (λ x. with_worker_at x n (Started (order_of o'))) (moved w ls js (workers_in hs) rs is job.loop_no p at_loop q e)
              ∙ ap (λ j. with_worker_at (with_loop w j.loop_no p.setting q.loop) n (Started (order_of o'))) told
              ∙ ap (λ y. with_worker_at (with_loop w o.loop_no p.setting q.loop) n (Started (order_of y))) same,
        ),
      ),
    )

    pub drops : ok ≡ false → WithWorker w n (λ x. StartsJob w n x (line.Start n (start.Dropped job)) (world_of (slice_set ls job.loop_no q) js (workers_in (slice_set hs n worker.Idle)) rs))
    drops dropped =
        let same : q.loop ≡ p.loop = loop_same q.loop p.loop (as_told false dropped).1 (as_told false dropped).2 (as_told false dropped).0.1 in
        let still : q ≡ p = ap (λ g. core g q.loop) e ∙ ap (λ l. core p.setting l) same in (
          Taken (order_of o),
          has_taken,
          (
            p.setting,
            p.loop,
            q.loop,
            false,
            has_loop,
            as_told false dropped,
            (
              ap (λ j. line.Start n (start.Dropped j)) told,
              ap (λ x. world_of (slice_set ls job.loop_no q) js x rs) (map-set worker_of hs n worker.Idle)
                  ∙ ap (λ x. world_of x js (slice_set (workers_in hs) n Idle) rs) (ap (slice_set ls job.loop_no) still ∙ set_same ls job.loop_no p at_loop)
                  ∙ ap (λ x. with_worker_at x n Idle) is,
            ),
          ),
        )

module _ {D : Type 0} (f : D → List Answer) (w : World) (ls : List (Core Desk)) (js : List WorkOrder) (hs : List CodeWorker) (rs : List D)
    (is : world_of ls js (workers_in hs) (map f rs) ≡ w) (n : ℕ) (h : CodeWorker) (at : slice_get hs n ≡ Some h)
    (o : Order) (job : JobId) (d d' : D) (is_started : h ≡ worker.Started o) (at_list : slice_get rs job.loop_no ≡ Some d) where
  -- a list with more room reads the same
  pub reserves : f d' ≡ f d → world_of ls js (workers_in (slice_set hs n (worker.Started o))) (map f (slice_set rs job.loop_no d')) ≡ w
  reserves same =
      ap (λ x. world_of ls js (workers_in (slice_set hs n x)) (map f (slice_set rs job.loop_no d'))) (sym is_started)
      ∙ ap (λ x. world_of ls js (workers_in (slice_set hs n h)) x)
      (map-set f rs job.loop_no d' ∙ ap (slice_set (map f rs) job.loop_no) same
      ∙ set_same (map f rs) job.loop_no (f d) (map_get f rs job.loop_no d at_list))
      ∙ unmoved w ls js hs (map f rs) is n h at

  pub finishes : (r : Reply) (ending : JobEnd) (h' : CodeWorker) → job ≡ job_of (order_of o) → h' ≡ worker.Idle → r.order ≡ o
      → f d' ≡ f d ++ answer_of r ∷ [] → ∥ IsEndOf (order_of r.order) (end_of r.outcome) ∥₁ → TellsEnd ending (end_of r.outcome)
      → WithWorker w n (λ x. FinishesJob w n x (line.Finish n (finish.Ended job ending)) (world_of ls js (workers_in (slice_set hs n h')) (map f (slice_set rs job.loop_no d'))))
  finishes r ending h' told empty own pushed right tells = (
    Started (order_of o),
    has_worker w ls js hs (map f rs) is n h at ∙ ap (λ x. Some (worker_of x)) is_started,
    record {
      end = end_of r.outcome;
      ending = ending;
      replies = f d;
      right = rw own at right;
      tells = tells;
      waiting = ap (λ x. slice_get x.replies o.loop_no) (sym is) ∙ ap (λ j. slice_get (map f rs) j.loop_no) (sym told) ∙ map_get f rs job.loop_no d at_list;
      told = ap (λ j. line.Finish n (finish.Ended j ending)) told;
      after =
          ap (λ x. world_of ls js x (map f (slice_set rs job.loop_no d'))) (map-set worker_of hs n h')
          ∙ ap (λ y. world_of ls js (slice_set (workers_in hs) n (worker_of y)) (map f (slice_set rs job.loop_no d'))) empty
          ∙ ap (λ x. world_of ls js (slice_set (workers_in hs) n Idle) x)
          (map-set f rs job.loop_no d' ∙ ap (slice_set (map f rs) job.loop_no) (pushed ∙ ap (λ y. f d ++ record { order = order_of y; end = end_of r.outcome } ∷ []) own))
          ∙ ap (λ x. with_worker_at (with_replies x job.loop_no (f d ++ record { order = order_of o; end = end_of r.outcome } ∷ [])) n Idle) is
          ∙ ap (λ j. with_worker_at (with_replies w j.loop_no (f d ++ record { order = order_of o; end = end_of r.outcome } ∷ [])) n Idle) told;
    },
  )
