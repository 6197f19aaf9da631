-- What the seats of a run's workers have started of each loop's requests, and what they have left.
use Rattle.schedules.proofs.Words.{ap, arith, Bool, cond, count_by, EndOffered, eq-eqb, eqb-true, Event, false, filter, handed_in, is_request, length, List, Loaded, Loop}
use Rattle.schedules.proofs.Words.{ne_eqb, OrderAsked, Passed, passed_in, refl, same_request, Seats, Served, Serving, Setting, setting_at, slice_get, Some, subst, suc}
use Rattle.schedules.proofs.Words.{sum_by-append, sum_by-cons, sym, thread_calls, ThreadHistory, times, true, zero, ℕ, [], ◌&&◌, ◌++◌, ◌+◌, ◌<◌, ◌==◌, ◌∙◌, ◌∷◌, ◌≡◌}
use Rattle.schedules.proofs.Words.{cases_eq, inl, inr, ◌≢◌, ◌≤◌, ◌⊎◌}
use Rattle.std.proofs.Common.{flat_map, le_refl}
use Rattle.std.specs.Prelude.{sum_by, Contains}
use Rattle.std.proofs.lemmas.List.Sums.{sum_by-le-sum_by}
use Rattle.std.proofs.lemmas.Option.{same_Some, slice_get_within}
use Rattle.tallies.proofs.Lists.{found_by_count}
use Rattle.tallies.proofs.Requests.{is_request_itself}
use Rattle.claims.specs.declared.seats.Ticket.{Ticket}
use Rattle.claims.specs.Views.{WorkerView, is_ticket, ticket_of_request}
use Rattle.claims.proofs.Moves.{ticket_is}
use Rattle.claims.proofs.Numbers.{is_ticket_itself, same_ticket}
use Rattle.order.specs.Work.{WorkOrder, WorkEnd}
use Rattle.board.specs.Jobs.{ticket_of}
use Rattle.pool.specs.Turns.{Turn, Put, Dropped, GivenUp, started_by}
use Rattle.pool.specs.SeatsLaw.{seats_lawful}
use Rattle.world_log.specs.declared.outcome.JobId.{JobId}
use Rattle.world.specs.Laws.{is_of_job}
use Rattle.serve.specs.Histories.{HasEnded}
use Rattle.serve.specs.Joint.{JointRun, ticket_for, asks, is_offered, takes, puts}
use Rattle.serve.proofs.AtDesk.{passes_through}
use Rattle.serve.proofs.Lookups.{is_there}
use Rattle.schedules.specs.Served.{loop_did}
use Rattle.schedules.specs.Together.{LoopDid, AreInThread}
use Rattle.schedules.proofs.Along.{grows_along}
use Rattle.schedules.proofs.Begun.{begun_in, begun_along, EachJob, each_append}
use Rattle.schedules.proofs.OneRun.{AreAnswered, AreLeft, all_begun}
use Rattle.schedules.proofs.ServedReplies.{counted_at, none_asked, opening_numbered}
use Rattle.schedules.proofs.ViewsGrow.{IsWide}

-- how often a request is in what is left of a list
module _ (p : ℕ × ℕ → Bool) (c : ℕ × ℕ) where
  abbrev here : ℕ × ℕ → ℕ
  here x = cond {A = ℕ} (is_request c x) 1 0

  kept : (xs : List (ℕ × ℕ)) → p c ≡ true → times c (filter p xs) ≡ times c xs
  kept [] is = refl
  kept (x ∷ xs) is = by (kept xs is) (p x) refl (is_request c x) refl where
    whole : times c (x ∷ xs) ≡ here x + times c xs
    whole = sum_by-cons here x xs

    by : times c (filter p xs) ≡ times c xs → (b : Bool) → p x ≡ b → (same : Bool) → is_request c x ≡ same → times c (cond b (x ∷ filter p xs) (filter p xs)) ≡ times c (x ∷ xs)
    by rest true e same f = let front = sum_by-cons here x (filter p xs) in omega (arith, whole, rest, front)
    by rest false e true f = absurd (let it = sym e ∙ ap p (sym (same_request c x f)) ∙ is in cc)
    by rest false e false f = let none = ap (λ (b : Bool). cond {A = ℕ} b 1 0) f in omega (arith, whole, rest, none)

  dropped : (xs : List (ℕ × ℕ)) → p c ≡ false → times c (filter p xs) ≡ 0
  dropped [] is = refl
  dropped (x ∷ xs) is = by (dropped xs is) (p x) refl (is_request c x) refl where
    by : times c (filter p xs) ≡ 0 → (b : Bool) → p x ≡ b → (same : Bool) → is_request c x ≡ same → times c (cond b (x ∷ filter p xs) (filter p xs)) ≡ 0
    by rest false e same f = rest
    by rest true e true f = absurd (let it = sym e ∙ ap p (sym (same_request c x f)) ∙ is in cc)
    by rest true e false f =
        let none = ap (λ (b : Bool). cond {A = ℕ} b 1 0) f in
        let front = sum_by-cons here x (filter p xs) in
        omega (arith, rest, none, front)

times_both : (c : ℕ × ℕ) (xs ys : List (ℕ × ℕ)) → times c (xs ++ ys) ≡ times c xs + times c ys
times_both c xs ys = sum_by-append (λ (x : ℕ × ℕ). cond {A = ℕ} (is_request c x) 1 0) xs ys

-- what is put was started, and what is started was taken
put_started : (t : Ticket) (turns : List Turn) → count_by (puts t) turns ≤ count_by (is_ticket t) (started_by turns)
put_started t [] = le_refl 0
put_started t (Dropped ticket ∷ turns) =
    let all = sum_by-cons (λ (x : Turn). cond {A = ℕ} (puts t x) 1 0) (Dropped ticket) turns in
    let rest = put_started t turns in
    omega (arith, all, rest)
put_started t (Put reply ∷ turns) =
    let all = sum_by-cons (λ (x : Turn). cond {A = ℕ} (puts t x) 1 0) (Put reply) turns in
    let more = sum_by-cons (λ (x : Ticket). cond {A = ℕ} (is_ticket t x) 1 0) (ticket_of reply.order) (started_by turns) in
    let rest = put_started t turns in
    omega (arith, all, more, rest)
put_started t (GivenUp reply ∷ turns) =
    let all = sum_by-cons (λ (x : Turn). cond {A = ℕ} (puts t x) 1 0) (GivenUp reply) turns in
    let more = sum_by-cons (λ (x : Ticket). cond {A = ℕ} (is_ticket t x) 1 0) (ticket_of reply.order) (started_by turns) in
    let rest = put_started t turns in
    omega (arith, all, more, rest)

started_taken : (t : Ticket) (turns : List Turn) → count_by (is_ticket t) (started_by turns) ≤ count_by (takes t) turns
started_taken t [] = le_refl 0
started_taken t (Dropped ticket ∷ turns) =
    let all = sum_by-cons (λ (x : Turn). cond {A = ℕ} (takes t x) 1 0) (Dropped ticket) turns in
    let rest = started_taken t turns in
    omega (arith, all, rest)
started_taken t (Put reply ∷ turns) =
    let all = sum_by-cons (λ (x : Turn). cond {A = ℕ} (takes t x) 1 0) (Put reply) turns in
    let more = sum_by-cons (λ (x : Ticket). cond {A = ℕ} (is_ticket t x) 1 0) (ticket_of reply.order) (started_by turns) in
    let rest = started_taken t turns in
    omega (arith, all, more, rest)
started_taken t (GivenUp reply ∷ turns) =
    let all = sum_by-cons (λ (x : Turn). cond {A = ℕ} (takes t x) 1 0) (GivenUp reply) turns in
    let more = sum_by-cons (λ (x : Ticket). cond {A = ℕ} (is_ticket t x) 1 0) (ticket_of reply.order) (started_by turns) in
    let rest = started_taken t turns in
    omega (arith, all, more, rest)

count_flat : (t : Ticket) (workers : List (List Turn)) → count_by (is_ticket t) (flat_map started_by workers) ≡ sum_by (λ (turns : List Turn). count_by (is_ticket t) (started_by turns)) workers
count_flat t [] = refl
count_flat t (turns ∷ workers) =
    let both = sum_by-append (λ (x : Ticket). cond {A = ℕ} (is_ticket t x) 1 0) (started_by turns) (flat_map started_by workers) in
    let all = sum_by-cons (λ (xs : List Turn). count_by (is_ticket t) (started_by xs)) turns workers in
    let rest = count_flat t workers in
    omega (arith, both, all, rest)

-- a sum above 0 has a part above 0
sum_found : {X : Type 0} (f : X → ℕ) (xs : List X) → 0 < sum_by f xs → (j : ℕ) × (x : X) × (slice_get xs j ≡ Some x) × (0 < f x)
sum_found {X} f [] some = absurd (omega (arith, some))
sum_found {X} f (y ∷ xs) some = by (sum_found f xs) (f y) refl where
  by : (0 < sum_by f xs → (j : ℕ) × (x : X) × (slice_get xs j ≡ Some x) × (0 < f x)) → (n : ℕ) → f y ≡ n → (j : ℕ) × (x : X) × (slice_get (y ∷ xs) j ≡ Some x) × (0 < f x)
  by rest (suc n) is = (0, y, refl, omega (arith, is))
  by rest zero is =
      let all = sum_by-cons f y xs in
      let it = rest (omega (arith, some, all, is)) in
      (suc it.0, it.1, it.2, it.3)

pub contained : (t : Ticket) (ts : List Ticket) → 0 < count_by (is_ticket t) ts → Contains ts t
contained t ts some =
    let it = found_by_count (is_ticket t) ts some in
    subst (Contains ts) (sym (ticket_is t it.0 it.2)) it.1

-- what a loop hands out, event by event
abbrev pub asked_along : List (Passed Seats) → List (ℕ × ℕ)
asked_along [] = []
asked_along (p ∷ passed) = handed_in p.event ++ asked_along passed

-- an order that is not left is begun
module _ (t : Ticket) (n : ℕ) (gone : List (ℕ × ℕ)) (same : t.loop_no ≡ n) (none : times (t.slot, t.request) gone ≡ 0) where
  abbrev q : JobId → Bool
  q = is_of_job t.loop_no t.request

  both_true : (a b : Bool) → a ≡ true → b ≡ true → (a && b) ≡ true
  both_true true true e f = refl
  both_true _ _ e f = absurd (cc)

  one_asked : (e : Event) → cond {A = ℕ} (asks t e) 1 0 ≤ count_by q (begun_in n gone e)
  one_asked (OrderAsked (Some o)) = by (is_ticket t (ticket_for o)) refl where
    by : (b : Bool) → is_ticket t (ticket_for o) ≡ b → cond {A = ℕ} b 1 0 ≤ count_by q (begun_in n gone (OrderAsked (Some o)))
    by true is =
        let it = same_ticket t (ticket_for o) is in
        let live : times (o.slot, o.request) gone ≡ 0 = (λ i. times (sym it.1 i, sym it.2 i) gone) ∙ none in
        let job : JobId = record { loop_no = n; request = o.request } in
        let one : count_by q (job ∷ []) ≡ 1 = ap (λ (b : Bool). 0 + cond {A = ℕ} b 1 0) (both_true (n == t.loop_no) (o.request == t.request) (eq-eqb n t.loop_no (sym same)) (eq-eqb o.request t.request (sym it.2))) in
        let begins : count_by q (begun_in n gone (OrderAsked (Some o))) ≡ 1 =
        ap (λ (b : Bool). count_by q (cond b (job ∷ []) [])) (eq-eqb (times (o.slot, o.request) gone) 0 live) ∙ one in
        omega (arith, begins)
    by false is = omega arith
  one_asked _ = omega arith

  pub begun_asked : (g : Setting) (old : Loop Seats) (events : List Event) (now : Loop Seats) (h : ThreadHistory thread_calls g old events now)
      → count_by (asks t) events ≤ count_by q (begun_along n gone (passed_in g old events now h))
  begun_asked g old [] now h = le_refl 0
  begun_asked g old (e ∷ events) now h =
      let all = sum_by-cons (λ (x : Event). cond {A = ℕ} (asks t x) 1 0) e events in
      let both = sum_by-append (λ (x : JobId). cond {A = ℕ} (q x) 1 0) (begun_in n gone e) (begun_along n gone (passed_in g h.0 events now h.2)) in
      let one = one_asked e in
      let rest = begun_asked g h.0 events now h.2 in
      omega (arith, all, both, one, rest)

-- what is begun was handed out, and is not left
module _ (P : JobId → Type 0) (n : ℕ) (gone : List (ℕ × ℕ)) where
  pub each_begun : (passed : List (Passed Seats)) → ((c : ℕ × ℕ) → 0 < times c (asked_along passed) → times c gone ≡ 0 → P (record { loop_no = n; request = c.1 }))
      → EachJob P (begun_along n gone passed)
  each_begun [] known = tt
  each_begun (p ∷ passed) known =
      each_append P (begun_in n gone p.event) (begun_along n gone passed) (first p.event (λ c some none. known c (let both = times_both c (handed_in p.event) (asked_along passed) in omega (arith, both, some)) none))
      (each_begun passed (λ c some none. known c (let both = times_both c (handed_in p.event) (asked_along passed) in omega (arith, both, some)) none))
    where
      first : (e : Event) → ((c : ℕ × ℕ) → 0 < times c (handed_in e) → times c gone ≡ 0 → P (record { loop_no = n; request = c.1 })) → EachJob P (begun_in n gone e)
      first (OrderAsked (Some o)) k = by (times (o.slot, o.request) gone == 0) refl where
        by : (b : Bool) → (times (o.slot, o.request) gone == 0) ≡ b → EachJob P (cond b (record { loop_no = n; request = o.request } ∷ []) [])
        by true is =
            let one : times (o.slot, o.request) (handed_in (OrderAsked (Some o))) ≡ 1 = ap (λ (b : Bool). 0 + cond {A = ℕ} b 1 0) (is_request_itself (o.slot, o.request)) in
            (k (o.slot, o.request) (omega (arith, one)) (eqb-true (times (o.slot, o.request) gone) 0 is), tt)
        by false is = tt
      first _ k = tt

module _ {loaded : Loaded} {serving : Serving} {served : List Served} {crew : WorkerView} (run : JointRun loaded serving served crew) where
  -- how often the crew's seats have started the request of the loop
  abbrev pub started_of : ℕ → ℕ × ℕ → ℕ
  started_of k c = count_by (is_ticket (ticket_of_request k c)) crew.started

  -- what they have left of what a loop has handed out or cancelled
  abbrev pub left_of : Setting → LoopDid Seats → List (ℕ × ℕ)
  left_of g d = filter (λ c. started_of g.loop_no c == 0) (asked_along d.passed ++ (thread_calls.view d.now.shared).cancelled)

  module _ (g : Setting) (d : LoopDid Seats) (c : ℕ × ℕ) where
    abbrev is_unstarted : ℕ × ℕ → Bool
    is_unstarted x = started_of g.loop_no x == 0

    pub none_left : 0 < started_of g.loop_no c → times c (left_of g d) ≡ 0
    none_left some = dropped is_unstarted c (asked_along d.passed ++ (thread_calls.view d.now.shared).cancelled) (ne_eqb (started_of g.loop_no c) 0 (λ none. omega (arith, some, none)))

    is_left : started_of g.loop_no c ≡ 0 → 0 < times c (thread_calls.view d.now.shared).cancelled → 0 < times c (left_of g d)
    is_left none some =
        let same = kept is_unstarted c (asked_along d.passed ++ (thread_calls.view d.now.shared).cancelled) (eq-eqb (started_of g.loop_no c) 0 none) in
        let both = times_both c (asked_along d.passed) (thread_calls.view d.now.shared).cancelled in
        omega (arith, same, both, some)

    pub was_started : times c (left_of g d) ≡ 0 → 0 < times c (asked_along d.passed) → 0 < started_of g.loop_no c
    was_started none some = by (started_of g.loop_no c) refl where
      by : (n : ℕ) → started_of g.loop_no c ≡ n → 0 < started_of g.loop_no c
      by (suc n) is = omega (arith, is)
      by zero is =
          let same = kept is_unstarted c (asked_along d.passed ++ (thread_calls.view d.now.shared).cancelled) (eq-eqb (started_of g.loop_no c) 0 is) in
          let both = times_both c (asked_along d.passed) (thread_calls.view d.now.shared).cancelled in
          absurd (omega (arith, same, both, some, none))

  -- all replies together are to what was started
  offered_started : (k : ℕ) (events : List Event) → slice_get run.loops k ≡ Some events → (i : ℕ) (o : WorkOrder) (end : WorkEnd) → slice_get events i ≡ Some (EndOffered o end true)
      → 0 < count_by (is_ticket (ticket_for o)) crew.started
  offered_started k events told i o end at =
      let t : Ticket = ticket_for o in
      let one = counted_at (is_offered t) events i (EndOffered o end true) at (is_ticket_itself t) in
      let offered = run.offered k events told t in
      let put = sum_by-le-sum_by (λ (xs : List Turn). count_by (puts t) xs) (λ (xs : List Turn). count_by (is_ticket t) (started_by xs)) run.workers (put_started t) in
      let flat = ap (count_by (is_ticket t)) run.started ∙ count_flat t run.workers in
      omega (arith, one, offered, put, flat)

  pub answered_started : (k i : ℕ) (events : List Event) (o : WorkOrder) (end : WorkEnd) → slice_get run.loops k ≡ Some events → slice_get events i ≡ Some (EndOffered o end true)
      → Contains crew.started (ticket_for o)
  answered_started k i events o end told at = contained (ticket_for o) crew.started (offered_started k events told i o end at)

  -- what was started its loop has handed out
  pub asked_somewhere : length served ≡ length run.loops → (t : Ticket) → 0 < count_by (is_ticket t) crew.started
      → (k : ℕ) × (events : List Event) × (slice_get run.loops k ≡ Some events) × (0 < count_by (asks t) events) × (t.loop_no ≡ k)
  asked_somewhere count t some =
      let flat = ap (count_by (is_ticket t)) run.started ∙ count_flat t run.workers in
      let taken = sum_by-le-sum_by (λ (xs : List Turn). count_by (is_ticket t) (started_by xs)) (λ (xs : List Turn). count_by (takes t) xs) run.workers (started_taken t) in
      let asked = run.taken t in
      let it = sum_found (λ (xs : List Event). count_by (asks t) xs) run.loops (omega (arith, some, flat, taken, asked)) in
      (it.0, it.1, it.2, it.3, own it.0 it.1 it.2 it.3 (cases_eq t.loop_no it.0))
    where
      own : (k : ℕ) (events : List Event) → slice_get run.loops k ≡ Some events → 0 < count_by (asks t) events → (t.loop_no ≡ k) ⊎ (t.loop_no ≢ k) → t.loop_no ≡ k
      own k events at asked (inl same) = same
      own k events at asked (inr other) =
          let s = is_there served k (let low = slice_get_within run.loops k events at in omega (arith, low, count)) in
          let each = run.each k s.0 events s.1 at in
          let none =
          ap (count_by (asks t)) (sym each.1)
          ∙ none_asked (setting_at loaded serving k) t each.0.done.start each.0.done.events each.0.now other each.0.done.history (opening_numbered (setting_at loaded serving k) each.0.done.start each.0.done.opens) in
          absurd (omega (arith, asked, none))

  -- so the workers may leave the others
  module _ (k : ℕ) (s : Served) (events : List Event) (at : slice_get served k ≡ Some s) (told : slice_get run.loops k ≡ Some events)
      (in_thread : AreInThread (loop_did (setting_at loaded serving k) (run.each k s events at told).0).passed) where
    abbrev g : Setting
    g = setting_at loaded serving k

    abbrev ended : HasEnded thread_calls g s.ending s.emits.items
    ended = (run.each k s events at told).0

    abbrev d : LoopDid Seats
    d = loop_did g ended

    opening_wide : IsWide (thread_calls.view ended.done.start.shared)
    opening_wide = subst IsWide (sym ended.done.opens.shared) (record { own = refl; taken = refl; untaken = refl })

    numbered : ended.now.shared.loop_seat.loop_no ≡ k
    numbered =
        let grows =
        grows_along thread_calls (seats_lawful (λ s. s.loop_seat) (λ s. s.taker)) g d.passed ended.done.start ended.now in_thread
        (passes_through g ended.done.start ended.done.events ended.now ended.done.history) opening_wide in
        grows.same ∙ ap (λ v. v.loop_no) ended.done.opens.shared

    abbrev of_seat : ℕ × ℕ → ℕ
    of_seat c = started_of ended.now.shared.loop_seat.loop_no c

    same_count : (c : ℕ × ℕ) → of_seat c ≡ started_of k c
    same_count c = ap (λ n. started_of n c) numbered

    answered_along : (old : Loop Seats) (es : List Event) (now : Loop Seats) (h : ThreadHistory thread_calls g old es now) (last : Loop Seats)
        → ((i : ℕ) (o : WorkOrder) (end : WorkEnd) → slice_get es i ≡ Some (EndOffered o end true) → times (o.slot, o.request) (left_of g d) ≡ 0)
        → AreAnswered thread_calls last (left_of g d) (passed_in g old es now h)
    answered_along old [] now h last each = tt
    answered_along old (e ∷ es) now h last each =
        (λ o end is none. each 0 o end (ap (λ (x : Event). Some x) is), answered_along h.0 es now h.2 last (λ i. each (suc i)))

    pub are_left : AreLeft thread_calls d (left_of g d)
    are_left = record {
      cancelled = λ c some.
          let once = (run.own k s events at told).with_crew.settled.once c in
          let same = same_count c in
          is_left g d c (omega (arith, once, same, some)) some;
      found = λ c some.
          let it = (run.own k s events at told).with_crew.found c some in
          let same = same_count c in
          none_left g d c (omega (arith, it, same));
      answered = answered_along ended.done.start ended.done.events ended.now ended.done.history ended.now
          (λ i o end there.
          let here : slice_get events i ≡ Some (EndOffered o end true) = ap (λ (xs : List Event). slice_get xs i) (sym (run.each k s events at told).1) ∙ there in
          let own = (run.same k i events o end true told here).0 in
          let some = offered_started k events told i o end here in
          none_left g d (o.slot, o.request) (subst (λ n. 0 < started_of n (o.slot, o.request)) own some));
    }

  -- all that is begun was started
  abbrev WasStarted : JobId → Type 0
  WasStarted job = (slot : ℕ) × (0 < started_of job.loop_no (slot, job.request))

  pub all_started : (settings : List Setting) (dids : List (LoopDid Seats)) → EachJob WasStarted (all_begun left_of settings dids)
  all_started (h ∷ settings) (x ∷ dids) =
      each_append WasStarted (begun_along h.loop_no (left_of h x) x.passed) (all_begun left_of settings dids)
      (each_begun WasStarted h.loop_no (left_of h x) x.passed (λ c some none. (c.0, was_started h x c none some)))
      (all_started settings dids)
  all_started _ _ = tt

  -- and what is begun of one loop is begun
  pub part_begun : (q : JobId → Bool) (settings : List Setting) (dids : List (LoopDid Seats)) (k : ℕ) (h : Setting) (x : LoopDid Seats) → slice_get settings k ≡ Some h → slice_get dids k ≡ Some x
      → count_by q (begun_along h.loop_no (left_of h x) x.passed) ≤ count_by q (all_begun left_of settings dids)
  part_begun q [] dids k h x at_h at_x = absurd (cc)
  part_begun q (y ∷ settings) [] k h x at_h at_x = absurd (cc)
  part_begun q (y ∷ settings) (z ∷ dids) zero h x at_h at_x =
      let both = sum_by-append (λ (j : JobId). cond {A = ℕ} (q j) 1 0) (begun_along y.loop_no (left_of y z) z.passed) (all_begun left_of settings dids) in
      let setting : y ≡ h = same_Some y h at_h in
      let did : z ≡ x = same_Some z x at_x in
      let same : count_by q (begun_along y.loop_no (left_of y z) z.passed) ≡ count_by q (begun_along h.loop_no (left_of h x) x.passed) =
      λ i. count_by q (begun_along (setting i).loop_no (left_of (setting i) (did i)) (did i).passed) in
      omega (arith, both, same)
  part_begun q (y ∷ settings) (z ∷ dids) (suc k) h x at_h at_x =
      let both = sum_by-append (λ (j : JobId). cond {A = ℕ} (q j) 1 0) (begun_along y.loop_no (left_of y z) z.passed) (all_begun left_of settings dids) in
      let rest = part_begun q settings dids k h x at_h at_x in
      omega (arith, both, rest)
