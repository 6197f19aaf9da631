-- How the steps of the code read as those of a world.
use Rattle.world.proofs.Words.{after_clock, cast_signed, desk_calls, desk_others, entry_told, false, lowest_open, next_order_of, slice_get-get_or, UnlessFailed}
use Rattle.world.proofs.Words.{in_state, is_failed, LogEntry, MAX_JOBS, PostsJob, PostsOrder, Requests, slice_get, slice_set, StepsLoop, with_loop, WorkOrder}
use Rattle.world.proofs.Words.{Answer, eq-eqb, Failed, get_or, handing, length, ne_eqb, next_in, Option, Request, Running, set_same, Status, StepDid, Worker, ℕ}
use Rattle.world.proofs.Words.{ap, Bool, Core, core, Desk, List, None, not, Over, refl, Some, State, sym, true, w32, World, [], ◌++◌, ◌<◌, ◌∙◌, ◌∷◌, ◌≡◌, ◌≢◌}
use Rattle.std.proofs.Common.{ℤ}
use Rattle.limits.specs.declared.TheConstants.{MAX_ASYNCS}
use Rattle.phases.specs.Step.{LoopStep}
use Rattle.phases.specs.Host.{with_requests}
use Rattle.phases.specs.Outside.{CancelsLoop, SendsBeside}
use Rattle.world_log.specs.declared.entry.LogEntry.TheVariants as line
use Rattle.world_log.specs.declared.outcome.PostOutcome.TheVariants as post
use Rattle.world.specs.World.{SendsTo, CancelsRequest, ClocksAt}

pub read : {X : Type 0} (xs : List X) (n : ℕ) (x : X) → n < length xs → ((d : X) → x ≡ get_or xs n d) → slice_get xs n ≡ Some x
read xs n x within is = slice_get-get_or xs n x within ∙ ap Some (sym (is x))

abbrev pub world_of : List (Core Desk) → List WorkOrder → List Worker → List (List Answer) → World
world_of ls js hs rs = record { loops = ls; jobs = js; workers = hs; replies = rs }

module _ (w : World) (ls : List (Core Desk)) (js : List WorkOrder) (hs : List Worker) (rs : List (List Answer)) (is : world_of ls js hs rs ≡ w) (n : ℕ)
    (p : Core Desk) (at : slice_get ls n ≡ Some p) where
  pub here : slice_get w.loops n ≡ Some p
  here = ap (λ x. slice_get x.loops n) (sym is) ∙ at

  pub untouched : world_of (slice_set ls n p) js hs rs ≡ w
  untouched = ap (λ x. world_of x js hs rs) (set_same ls n p at) ∙ is

  pub moved : (q : Core Desk) → q.setting ≡ p.setting → world_of (slice_set ls n q) js hs rs ≡ with_loop w n p.setting q.loop
  moved q e = ap (λ g. world_of (slice_set ls n (core g q.loop)) js hs rs) e ∙ ap (λ x. with_loop x n p.setting q.loop) is

  pub failing : (P : Type 0) → is_failed p.loop.state.status ≡ true → UnlessFailed w n p.loop (line.Failed n) (world_of (slice_set ls n p) js hs rs) P
  failing P f = rw f (refl, untouched)

  pub going_on : (entry : LogEntry) (w' : World) (P : Type 0) → is_failed p.loop.state.status ≡ false → P → UnlessFailed w n p.loop entry w' P
  going_on entry w' P f h = rw f h

  pub clock_failed : (ms : ℕ) → is_failed p.loop.state.status ≡ true → ClocksAt w n ms (line.Failed n) (world_of (slice_set ls n p) js hs rs)
  clock_failed ms f = (p.setting, p.loop, here, failing _ f)

  pub clocked : (ms clock : ℕ) (q : Core Desk) → is_failed p.loop.state.status ≡ false → q.setting ≡ p.setting → q.loop ≡ in_state p.loop (after_clock p.loop.state ms) → clock ≡ q.loop.state.clock
      → ClocksAt w n ms (line.Clock n clock) (world_of (slice_set ls n q) js hs rs)
  clocked ms clock q f e core told =
      (p.setting, p.loop, here, going_on _ _ _ f (ap (λ k. line.Clock n k) (told ∙ ap (λ l. l.state.clock) core), moved q e ∙ ap (with_loop w n p.setting) core))

  pub cancel_failed : (request : ℕ) → is_failed p.loop.state.status ≡ true → CancelsRequest w n request (line.Failed n) (world_of (slice_set ls n p) js hs rs)
  cancel_failed request f = (p.setting, p.loop, p.loop, 0, here, failing _ f)

  pub cancels : (request answer : ℕ) (signed : ℤ) (q : Core Desk) → is_failed p.loop.state.status ≡ false → q.setting ≡ p.setting
      → CancelsLoop desk_calls p.loop request answer q.loop → signed ≡ cast_signed w32 answer
      → CancelsRequest w n request (line.Cancel n request signed) (world_of (slice_set ls n q) js hs rs)
  cancels request answer signed q f e h told = (p.setting, p.loop, q.loop, answer, here, going_on _ _ _ f (h.0, h.1, ap (line.Cancel n request) told, moved q e))

  pub sends : (a : ℕ) (ok : Bool) (q : Core Desk) → a < MAX_ASYNCS → q.setting ≡ p.setting → SendsBeside desk_others p.loop a ok q.loop
      → SendsTo w n a (line.Send n a (not ok)) (world_of (slice_set ls n q) js hs rs)
  sends a ok q few e h = (p.setting, p.loop, q.loop, ok, few, here, h, refl, moved q e)

  pub steps : (did : StepDid) (q : Core Desk) (entry : LogEntry) → q.setting ≡ p.setting → LoopStep desk_calls p.setting p.loop did q.loop
      → entry ≡ entry_told n did q.loop.state.emits → StepsLoop w n entry (world_of (slice_set ls n q) js hs rs)
  steps did q entry e h told = record { setting = p.setting; old = p.loop; new = q.loop; did = did; made = h.0; at = here; steps = h.1; told = told; after = moved q e }

-- where no order is open, nothing is handed out
handed_none : (rs : Requests) (o : Option Request) → (handing rs o).0 ≡ None → (handing rs o).1 ≡ rs
handed_none rs None h = refl
handed_none rs (Some q) h = absurd (cc)

nothing_in : (status : Status) (s : State) → (next_in status s).0 ≡ None → (next_in status s).1 ≡ s
nothing_in Failed s h = refl
nothing_in Running s h = ap (with_requests s) (handed_none s.requests (lowest_open s.requests) h)
nothing_in Over s h = ap (with_requests s) (handed_none s.requests (lowest_open s.requests) h)

module _ (w : World) (ls : List (Core Desk)) (js : List WorkOrder) (hs : List Worker) (rs : List (List Answer)) (is : world_of ls js hs rs ≡ w) (n : ℕ)
    (p : Core Desk) (at : slice_get ls n ≡ Some p) where
  pub posts_failed : is_failed p.loop.state.status ≡ true → PostsJob w n (line.Failed n) (world_of (slice_set ls n p) js hs rs)
  posts_failed f = (p.setting, p.loop, here w ls js hs rs is n p at, failing w ls js hs rs is n p at _ f)

  jobs_are : w.jobs ≡ js
  jobs_are = ap (λ x. x.jobs) (sym is)

  pub posts_full : is_failed p.loop.state.status ≡ false → length js ≡ MAX_JOBS → PostsJob w n (line.Post n post.Full) (world_of (slice_set ls n p) js hs rs)
  posts_full f full = (
    p.setting,
    p.loop,
    here w ls js hs rs is n p at,
    going_on w ls js hs rs is n p at _ _ _ f
        (rw (eq-eqb (length w.jobs) MAX_JOBS (ap length jobs_are ∙ full)) (refl, untouched w ls js hs rs is n p at)),
  )

  none_case : (out : Option WorkOrder × State) (w' : World) → out.0 ≡ None → w' ≡ w → PostsOrder w n p.setting p.loop out (line.Post n post.Nothing) w'
  none_case (None, s) w' e h = (refl, h)
  none_case (Some o, s) w' e h = absurd (cc)

  some_case : (out : Option WorkOrder × State) (o : WorkOrder) (w' : World) → out.0 ≡ Some o → w' ≡ record (with_loop w n p.setting (in_state p.loop out.1)) { jobs = w.jobs ++ o ∷ [] }
      → PostsOrder w n p.setting p.loop out (line.Post n (post.Request o.request)) w'
  some_case (None, s) o w' e h = absurd (cc)
  some_case (Some x, s) o w' e h =
      let same : x ≡ o = cc in
      (ap (λ y. line.Post n (post.Request y.request)) (sym same), h ∙ ap (λ y. record (with_loop w n p.setting (in_state p.loop s)) { jobs = w.jobs ++ y ∷ [] }) (sym same))

  pub posts_nothing : (q : Core Desk) → is_failed p.loop.state.status ≡ false → length js ≢ MAX_JOBS → q.setting ≡ p.setting
      → None ≡ (next_order_of p.loop.state).0 → q.loop ≡ in_state p.loop (next_order_of p.loop.state).1
      → PostsJob w n (line.Post n post.Nothing) (world_of (slice_set ls n q) js hs rs)
  posts_nothing q f few e none core =
      let same : q.loop ≡ p.loop = core ∙ ap (in_state p.loop) (nothing_in p.loop.state.status p.loop.state (sym none)) in (
        p.setting,
        p.loop,
        here w ls js hs rs is n p at,
        going_on w ls js hs rs is n p at _ _ _ f
            (rw (ne_eqb (length w.jobs) MAX_JOBS (λ k. few (ap length (sym jobs_are) ∙ k)))
            (none_case (next_order_of p.loop.state) _ (sym none)
            (moved w ls js hs rs is n p at q e ∙ ap (with_loop w n p.setting) same ∙ ap (λ x. record w { loops = x }) (set_same w.loops n p (here w ls js hs rs is n p at))))),
      )

  pub posts_order : (q : Core Desk) (o : WorkOrder) (js' : List WorkOrder) → is_failed p.loop.state.status ≡ false → length js ≢ MAX_JOBS
      → q.setting ≡ p.setting → Some o ≡ (next_order_of p.loop.state).0 → q.loop ≡ in_state p.loop (next_order_of p.loop.state).1
      → js' ≡ js ++ o ∷ [] → PostsJob w n (line.Post n (post.Request o.request)) (world_of (slice_set ls n q) js' hs rs)
  posts_order q o js' f few e out core pushed = (
    p.setting,
    p.loop,
    here w ls js hs rs is n p at,
    going_on w ls js hs rs is n p at _ _ _ f
        (rw (ne_eqb (length w.jobs) MAX_JOBS (λ k. few (ap length (sym jobs_are) ∙ k)))
        (some_case (next_order_of p.loop.state) o _ (sym out)
        (ap (λ x. world_of (slice_set ls n q) x hs rs) pushed ∙ ap (λ (x : World). record x { jobs = x.jobs ++ o ∷ [] }) (moved w ls js hs rs is n p at q e ∙ ap (with_loop w n p.setting) core)
        ∙ refl))),
  )
