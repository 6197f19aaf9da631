-- How a take of the code reads as that of a world.
use Rattle.world.proofs.Words.{All, All-set, Answer, ap, arith, Core, Desk, FitsLoops, Idle, inl, inr, IsJob, job_of, JobId, length, List, map, map-set}
use Rattle.world.proofs.Words.{map_get, None, Order, order_of, refl, set_same, slice_get, slice_set, Some, subst, suc, sym, Taken, with_worker_at, WithWorker}
use Rattle.world.proofs.Words.{Worker, worker_of, WorkerTakesJob, WorkOrder, World, WorldIsKept, ℕ, [], ◌∙◌, ◌∷◌, ◌≡◌, ◌≢◌, ◌⊎◌}
use Rattle.world_log.specs.declared.entry.LogEntry.TheVariants as line
use Rattle.world.specs.declared.worker.Worker.{Worker as CodeWorker}
use Rattle.world.specs.declared.worker.Worker.TheVariants as code
use Rattle.world.proofs.StepsAgree.{world_of}

taken_none : (w : World) (n : ℕ) (state : Worker) (w' : World) → slice_get w.workers n ≡ Some state → w' ≡ w → (state ≢ Idle) ⊎ (w.jobs ≡ [])
    → WithWorker w n (λ h. WorkerTakesJob w n h w.jobs (line.Take n None) w')
taken_none w n state w' at same why = (state, at, by state w.jobs why) where
  by : (state : Worker) (jobs : List WorkOrder) → (state ≢ Idle) ⊎ (jobs ≡ []) → WorkerTakesJob w n state jobs (line.Take n None) w'
  by Idle (o ∷ jobs) (inl no_worker) = absurd (no_worker refl)
  by Idle (o ∷ jobs) (inr none) = absurd (cc)
  by _ _ why = (refl, same)

taken_one : (w : World) (n : ℕ) (o : WorkOrder) (rest : List WorkOrder) (w' : World) → slice_get w.workers n ≡ Some Idle → w.jobs ≡ o ∷ rest → w' ≡ record (with_worker_at w n (Taken o)) { jobs = rest }
    → WithWorker w n (λ h. WorkerTakesJob w n h w.jobs (line.Take n (Some (job_of o))) w')
taken_one w n o rest w' at front after = (Idle, at, rw front (refl, after))

not_empty : (h : CodeWorker) → h ≢ code.Idle → worker_of h ≢ Idle
not_empty code.Idle other same = other refl
not_empty (code.Taken o) other same = absurd (cc)
not_empty (code.Started o) other same = absurd (cc)

none_there : (js : List Order) → length js ≡ 0 → js ≡ []
none_there [] h = refl
none_there (o ∷ js) h = absurd (cc)

module _ (w : World) (ls : List (Core Desk)) (js : List Order) (hs : List CodeWorker) (rs : List (List Answer))
    (is : world_of ls (map order_of js) (map worker_of hs) rs ≡ w) (n : ℕ) (h : CodeWorker) (at : slice_get hs n ≡ Some h) where
  there : slice_get w.workers n ≡ Some (worker_of h)
  there = ap (λ x. slice_get x.workers n) (sym is) ∙ map_get worker_of hs n h at

  back : world_of ls (map order_of js) (map worker_of (slice_set hs n h)) rs ≡ w
  back = ap (λ x. world_of ls (map order_of js) (map worker_of x) rs) (set_same hs n h at) ∙ is

  jobs_are : w.jobs ≡ map order_of js
  jobs_are = ap (λ x. x.jobs) (sym is)

  pub takes_busy : h ≢ code.Idle → WithWorker w n (λ x. WorkerTakesJob w n x w.jobs (line.Take n None) (world_of ls (map order_of js) (map worker_of (slice_set hs n h)) rs))
  takes_busy other = taken_none w n (worker_of h) _ there back (inl (not_empty h other))

  pub takes_nothing : (js' : List Order) → length js ≡ 0 → js ≡ js'
      → WithWorker w n (λ x. WorkerTakesJob w n x w.jobs (line.Take n None) (world_of ls (map order_of js') (map worker_of (slice_set hs n h)) rs))
  takes_nothing js' none same =
      taken_none w n (worker_of h) _ there (ap (λ x. world_of ls (map order_of x) (map worker_of (slice_set hs n h)) rs) (sym same) ∙ back) (inr (jobs_are ∙ ap (map order_of) (none_there js none)))

  pub takes_one : (o : Order) (js' : List Order) (job : JobId) → h ≡ code.Idle → js ≡ o ∷ js' → job ≡ job_of (order_of o)
      → WithWorker w n (λ x. WorkerTakesJob w n x w.jobs (line.Take n (Some job)) (world_of ls (map order_of js') (map worker_of (slice_set hs n (code.Taken o))) rs))
  takes_one o js' job empty front told =
      let w' = world_of ls (map order_of js') (map worker_of (slice_set hs n (code.Taken o))) rs in
      rw told (taken_one w n (order_of o) (map order_of js') w' (there ∙ ap (λ x. Some (worker_of x)) empty) (jobs_are ∙ ap (map order_of) front)
      (ap (λ x. world_of ls (map order_of js') x rs) (map-set worker_of hs n (code.Taken o)) ∙ ap (λ (x : World). record (with_worker_at x n (Taken (order_of o))) { jobs = map order_of js' }) is))

pub kept_take : (ls : List (Core Desk)) (js js' : List Order) (hs : List CodeWorker) (lists room room' n : ℕ) (o : Order) → js ≡ o ∷ js' → room' ≡ room → WorldIsKept ls js hs lists room
    → WorldIsKept ls js' (slice_set hs n (code.Taken o)) lists room'
kept_take ls js js' hs lists room room' n o front same h =
    let jobs : All (IsJob (length ls)) (o ∷ js') = subst (All (IsJob (length ls))) front h.waiting in
    record {
      numbered = h.numbered;
      waiting = (λ k d below. jobs (suc k) d (omega arith));
      held = All-set (FitsLoops (length ls)) hs n (code.Taken o) (jobs 0 o (omega arith)) h.held;
      paired = h.paired;
      few = (let long : length js ≡ length (o ∷ js') = ap length front in let few = h.few in omega arith);
      roomy = rw same h.roomy;
    }
