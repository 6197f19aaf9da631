-- Of one account of all threads: each reply that a loop takes stands behind the hand-out of its order. For it was handed out some
-- time, as the counts say, and once its reply is taken it is not handed out any more.
use Rattle.schedules.proofs.Words.{Answered, answered, ap, append_assoc, arith, Bool, cond, count_by, EndOffered, Event, event_keeps, EventStep, false}
use Rattle.schedules.proofs.Words.{handed_in, has_number, is_open_stage, is_request, IsOpening, JobEnd, length, List, Loaded, Loop, ne_eqb, OrderAsked}
use Rattle.schedules.proofs.Words.{passed_in, refl, Seats, Served, Serving, Setting, setting_at, slice_get, Some, StandBehind, subst, suc, sum_by-append}
use Rattle.schedules.proofs.Words.{sum_by-cons, sym, TakesReplyTo, TellsEnd, thread_calls, ThreadHistory, times, true, WorkEnd, WorkOrder, zero, ℕ, [], ◌&&◌}
use Rattle.schedules.proofs.Words.{◌++◌, ◌+◌, ◌<◌, ◌==◌, ◌∙◌, ◌∷◌, ◌≡◌, ◌≢◌, ◌≤◌}
use Rattle.std.proofs.Common.{get_or, le_refl}
use Rattle.std.specs.Prelude.{sum_by}
use Rattle.std.proofs.lemmas.List.Sums.{sum_by-le-sum_by}
use Rattle.std.proofs.lemmas.Option.{same_Some, slice_get_within, slice_get-get_or}
use Rattle.tallies.proofs.Lists.{counted}
use Rattle.claims.specs.declared.seats.Ticket.{Ticket}
use Rattle.claims.specs.Views.{WorkerView, is_ticket}
use Rattle.claims.proofs.Numbers.{is_ticket_itself}
use Rattle.order.specs.Orders.{end_of}
use Rattle.order.specs.declared.order.Outcome.{Outcome}
use Rattle.order.specs.declared.order.Outcome.TheVariants as outcome
use Rattle.board.specs.Jobs.{ticket_of}
use Rattle.phases.proofs.OrdersHandedOnce.{UpTo, IsHanded, Handed, handed_is, keeps, up_to_staged, none_after, found_up_to, found_open}
use Rattle.pool.specs.Turns.{Turn, Put, Dropped, GivenUp}
use Rattle.world_log.specs.declared.outcome.JobEnd.TheVariants as ending
use Rattle.serve.specs.HandedOut.{FoundBehind}
use Rattle.serve.specs.Joint.{JointRun, ticket_for, asks, is_offered, takes, puts, times_in}
use Rattle.serve.specs.Inner.Posts.{handed_out}
use Rattle.serve.proofs.Lookups.{is_there}
use Rattle.schedules.specs.Served.{loop_did}
use Rattle.schedules.proofs.Numbers.{Numbered, Kept, own_found, keeps_numbered}
use Rattle.schedules.proofs.OwnRequests.{times_of_another}

-- how often in two lists
times_both : (c : ℕ × ℕ) (xs ys : List (ℕ × ℕ)) → times c (xs ++ ys) ≡ times c xs + times c ys
times_both c xs ys = sum_by-append (λ (x : ℕ × ℕ). cond {A = ℕ} (is_request c x) 1 0) xs ys

-- the order was handed out, and what became of its job can be told
abbrev WasHanded : List (ℕ × ℕ) → WorkOrder → WorkEnd → Type 0
WasHanded handed o end = (0 < times (o.slot, o.request) handed) × ((told : JobEnd) × TellsEnd told end)

module _ (g : Setting) where
  -- what is handed out or answered is not handed out again
  none_handed : (slot r : ℕ) (e : Event) (old new : Loop Seats) → EventStep thread_calls g e old new → IsHanded r (Unit {0}) old.state.requests → times (slot, r) (handed_in e) ≡ 0
  none_handed slot r (OrderAsked (Some o)) old new h was =
      let it = handed_is old.state.status old.state o refl h.0 in
      times_of_another (slot, r) (o.slot, o.request) []
      (λ same. found_open r old.state.requests.outstanding it.request it.lowest (was.shut tt).1 (ap (λ (x : WorkOrder). x.request) it.order ∙ sym same))
  none_handed slot r _ old new h was = refl

  never_again : (slot r : ℕ) (events : List Event) (old now : Loop Seats) → ThreadHistory thread_calls g old events now → IsHanded r (Unit {0}) old.state.requests
      → times (slot, r) (handed_out events) ≡ 0
  never_again slot r [] old now h was = refl
  never_again slot r (e ∷ events) old now h was =
      let kept = event_keeps thread_calls g (Handed g r (Unit {0})) (keeps g r (Unit {0})) [] e old h.0 h.1.0 was in
      let one = none_handed slot r e old h.0 h.1.0 was in
      let more = never_again slot r events h.0 now h.2 kept in
      times_both (slot, r) (handed_in e) (handed_out events) ∙ omega (arith, one, more)

  after_reply : (o : WorkOrder) (end : WorkEnd) (old : Loop Seats) → TakesReplyTo o old.state → UpTo old.state.requests.last old.state.requests.outstanding
      → IsHanded o.request (Unit {0}) (answered old.state.requests o end)
  after_reply o end old takes low =
      let rs = old.state.requests in
      let given = found_up_to rs.last (has_number o.request) rs.outstanding takes.one.request takes.one.outstanding low in
      record {
        up_to = up_to_staged rs.last o.request (Answered end) rs.outstanding low;
        shut = λ _. (rw (← takes.one.order) given, none_after o.request (Answered end) rs.outstanding refl);
      }

  taken_behind : (all : List (ℕ × ℕ)) (e : Event) (events : List Event) (old mid now : Loop Seats) (handed : List (ℕ × ℕ)) → EventStep thread_calls g e old mid
      → ThreadHistory thread_calls g mid events now → IsHanded 0 ⊥ old.state.requests → all ≡ handed ++ (handed_in e ++ handed_out events)
      → ((o : WorkOrder) (end : WorkEnd) → e ≡ EndOffered o end true → WasHanded all o end) → (o : WorkOrder) (end : WorkEnd) → e ≡ EndOffered o end true → WasHanded handed o end
  taken_behind all e events old mid now handed step rest low is each o end same =
      let c : ℕ × ℕ = (o.slot, o.request) in
      let it = each o end same in
      let offered = subst (λ (x : Event). EventStep thread_calls g x old mid) same step in
      let shut = subst (λ (l : Loop Seats). IsHanded o.request (Unit {0}) l.state.requests) (sym offered.1.1) (after_reply o end old offered.1.0 low.up_to) in
      let none = never_again o.slot o.request events mid now rest shut in
      let here : times c (handed_in e) ≡ 0 = ap (λ (x : Event). times c (handed_in x)) same in
      let split = ap (times c) is ∙ times_both c handed (handed_in e ++ handed_out events) in
      let behind = times_both c (handed_in e) (handed_out events) in
      let some = it.0 in
      (omega (arith, none, here, split, behind, some), it.1)

  -- Where each reply that is taken was handed out some time, it was so before
  replies_behind : (all : List (ℕ × ℕ)) (events : List Event) (old now : Loop Seats) (handed : List (ℕ × ℕ)) (h : ThreadHistory thread_calls g old events now)
      → IsHanded 0 ⊥ old.state.requests → all ≡ handed ++ handed_out events
      → ((i : ℕ) (o : WorkOrder) (end : WorkEnd) → slice_get events i ≡ Some (EndOffered o end true) → WasHanded all o end)
      → FoundBehind handed (passed_in g old events now h) → StandBehind thread_calls handed (passed_in g old events now h)
  replies_behind all [] old now handed h low is each found = tt
  replies_behind all (e ∷ events) old now handed h low is each found = (
    record {
      found = found.0;
      taken = taken_behind all e events old h.0 now handed h.1.0 h.2 low is (λ o end same. each 0 o end (ap (λ (x : Event). Some x) same));
    },
    replies_behind all events h.0 now (handed ++ handed_in e) h.2 (event_keeps thread_calls g (Handed g 0 ⊥) (keeps g 0 ⊥) [] e old h.0 h.1.0 low)
        (is ∙ sym (append_assoc handed (handed_in e) (handed_out events))) (λ i. each (suc i)) found.1,
  )

-- what a reply brings can be told
told_of : (x : Outcome) → (told : JobEnd) × TellsEnd told (end_of x)
told_of (outcome.Done value bytes) = (ending.Done value, refl)
told_of (outcome.Trap code) = (ending.Trap code, refl)
told_of outcome.Depth = (ending.Depth, refl)
told_of outcome.Spent = (ending.Spent, refl)
told_of (outcome.NoMemory refused) = (ending.NoMemory, refl)

module _ (g : Setting) where
  -- a loop hands out its own orders alone
  not_asked : (t : Ticket) (e : Event) (old new : Loop Seats) → t.loop_no ≢ g.loop_no → EventStep thread_calls g e old new → Numbered g.loop_no 0 old.state.requests → asks t e ≡ false
  not_asked t (OrderAsked (Some o)) old new other h own =
      let rs = old.state.requests in
      let it = handed_is old.state.status old.state o refl h.0 in
      let mine = (own_found g.loop_no rs.last (λ q. is_open_stage q.stage) rs.outstanding it.request it.lowest own.own).0 in
      let is : o.loop_no ≡ g.loop_no = ap (λ (x : WorkOrder). x.loop_no) (sym it.order) ∙ mine in
      ap (λ (b : Bool). b && ((t.slot == o.slot) && (t.request == o.request))) (ne_eqb t.loop_no o.loop_no (λ same. other (same ∙ is)))
  not_asked t _ old new other h own = refl

  pub none_asked : (t : Ticket) (old : Loop Seats) (events : List Event) (now : Loop Seats) → t.loop_no ≢ g.loop_no → ThreadHistory thread_calls g old events now → Numbered g.loop_no 0 old.state.requests
      → count_by (asks t) events ≡ 0
  none_asked t old [] now other h own = refl
  none_asked t old (e ∷ events) now other h own =
      let kept = event_keeps thread_calls g (Kept g 0) (keeps_numbered g 0) [] e old h.0 h.1.0 own in
      let one = ap (λ (b : Bool). cond {A = ℕ} b 1 0) (not_asked t e old h.0 other h.1.0 own) in
      let more = none_asked t h.0 events now other h.2 kept in
      sum_by-cons (λ (x : Event). cond {A = ℕ} (asks t x) 1 0) e events ∙ omega (arith, one, more)

  pub opening_numbered : (l : Loop Seats) → IsOpening thread_calls g l → Numbered g.loop_no 0 l.state.requests
  opening_numbered l opens = rw opens.state (record { risen = omega arith; own = tt })

  opening_handed : (l : Loop Seats) → IsOpening thread_calls g l → IsHanded 0 ⊥ l.state.requests
  opening_handed l opens = rw opens.state (record { up_to = tt; shut = λ never. absurd never })

-- an order that was asked for is among those handed out
asked_handed : (t : Ticket) (events : List Event) → count_by (asks t) events ≤ times (t.slot, t.request) (handed_out events)
asked_handed t [] = le_refl 0
asked_handed t (e ∷ events) =
    let all = sum_by-cons (λ (x : Event). cond {A = ℕ} (asks t x) 1 0) e events in
    let rest = asked_handed t events in
    let both = times_both (t.slot, t.request) (handed_in e) (handed_out events) in
    let first = one e in
    omega (arith, all, rest, both, first)
  where
    within : (a b : Bool) → cond {A = ℕ} (a && b) 1 0 ≤ 0 + cond {A = ℕ} b 1 0
    within true b = omega arith
    within false true = omega arith
    within false false = omega arith

    one : (e : Event) → cond {A = ℕ} (asks t e) 1 0 ≤ times (t.slot, t.request) (handed_in e)
    one (OrderAsked (Some o)) = within (t.loop_no == o.loop_no) ((t.slot == o.slot) && (t.request == o.request))
    one _ = le_refl 0

sum_is_none : {X : Type 0} (f : X → ℕ) (xs : List X) → ((j : ℕ) (y : X) → slice_get xs j ≡ Some y → f y ≡ 0) → sum_by f xs ≡ 0
sum_is_none f [] h = refl
sum_is_none f (y ∷ xs) h =
    let one = h 0 y refl in
    let rest = sum_is_none f xs (λ j z there. h (suc j) z there) in
    sum_by-cons f y xs ∙ omega (arith, one, rest)

-- where all others are nothing, the sum is one of them
sum_is_one : {X : Type 0} (f : X → ℕ) (xs : List X) (k : ℕ) (x : X) → slice_get xs k ≡ Some x → ((j : ℕ) (y : X) → slice_get xs j ≡ Some y → j ≢ k → f y ≡ 0) → sum_by f xs ≤ f x
sum_is_one f [] k x at others = absurd (cc)
sum_is_one f (y ∷ xs) zero x at others =
    let same : y ≡ x = cc in
    let all = sum_by-cons f y xs in
    let none = sum_is_none f xs (λ j z there. others (suc j) z there (λ e. omega (arith, e))) in
    let is = ap f same in
    omega (arith, all, none, is)
sum_is_one f (y ∷ xs) (suc k) x at others =
    let all = sum_by-cons f y xs in
    let none = others 0 y refl (λ e. omega (arith, e)) in
    let rest = sum_is_one f xs k x at (λ j z there other. others (suc j) z there (λ e. other (omega (arith, e)))) in
    omega (arith, all, none, rest)

no_less : (b : Bool) → 0 ≤ cond {A = ℕ} b 1 0
no_less b = omega arith

-- what is put was taken
put_taken : (t : Ticket) (turns : List Turn) → count_by (puts t) turns ≤ count_by (takes t) turns
put_taken t turns = sum_by-le-sum_by (λ (x : Turn). cond {A = ℕ} (puts t x) 1 0) (λ (x : Turn). cond {A = ℕ} (takes t x) 1 0) turns first where
  first : (x : Turn) → cond {A = ℕ} (puts t x) 1 0 ≤ cond {A = ℕ} (takes t x) 1 0
  first (Put reply) = le_refl (cond {A = ℕ} (is_ticket t (ticket_of reply.order)) 1 0)
  first (Dropped ticket) = no_less (is_ticket t ticket)
  first (GivenUp reply) = no_less (is_ticket t (ticket_of reply.order))

all_put_taken : (t : Ticket) (workers : List (List Turn)) → times_in (puts t) workers ≤ times_in (takes t) workers
all_put_taken t workers = sum_by-le-sum_by (λ (xs : List Turn). count_by (puts t) xs) (λ (xs : List Turn). count_by (takes t) xs) workers (put_taken t)

-- what stands in a list is counted
pub counted_at : {X : Type 0} (p : X → Bool) (xs : List X) (i : ℕ) (x : X) → slice_get xs i ≡ Some x → p x ≡ true → 0 < count_by p xs
counted_at p xs i x at is =
    let below = slice_get_within xs i x at in
    counted p xs x is (i, below, same_Some (get_or xs i x) x (sym (slice_get-get_or xs i x below) ∙ at))

module _ {loaded : Loaded} {serving : Serving} {served : List Served} {crew : WorkerView} (run : JointRun loaded serving served crew) (count : length served ≡ length run.loops) where
  -- a reply that a loop takes is to an order that it handed out some time
  handed_some_time : (k : ℕ) (events : List Event) → slice_get run.loops k ≡ Some events → (i : ℕ) (o : WorkOrder) (end : WorkEnd) → slice_get events i ≡ Some (EndOffered o end true)
      → WasHanded (handed_out events) o end
  handed_some_time k events told i o end at =
      let t : Ticket = ticket_for o in
      let same = run.same k i events o end true told at in
      let put = same.1 in
      let one = counted_at (is_offered t) events i (EndOffered o end true) at (is_ticket_itself t) in
      let offered = run.offered k events told t in
      let taken = all_put_taken t run.workers in
      let asked = run.taken t in
      let others = sum_is_one (λ (xs : List Event). count_by (asks t) xs) run.loops k events told
      (λ j xs at_j other.
      let s = is_there served j (let low = slice_get_within run.loops j xs at_j in omega (arith, low, count)) in
      let each = run.each j s.0 xs s.1 at_j in
      ap (count_by (asks t)) (sym each.1)
      ∙ none_asked (setting_at loaded serving j) t each.0.done.start each.0.done.events each.0.now (λ e. other (sym e ∙ same.0)) each.0.done.history
      (opening_numbered (setting_at loaded serving j) each.0.done.start each.0.done.opens)) in
      let mine = asked_handed t events in
      let it = told_of put.3.outcome in (
        omega (arith, one, offered, taken, asked, others, mine),
        (it.0, subst (TellsEnd it.0) put.7 it.1),
      )

  pub stand_behind : (k : ℕ) (s : Served) (events : List Event) (at : slice_get served k ≡ Some s) (told : slice_get run.loops k ≡ Some events)
      → StandBehind thread_calls [] (loop_did (setting_at loaded serving k) (run.each k s events at told).0).passed
  stand_behind k s events at told =
      let g : Setting = setting_at loaded serving k in
      let each = run.each k s events at told in
      let done = each.0.done in
      replies_behind g (handed_out done.events) done.events done.start each.0.now [] done.history (opening_handed g done.start done.opens) refl
      (λ i o end there. rw each.1 (handed_some_time k events told i o end (ap (λ (xs : List Event). slice_get xs i) (sym each.1) ∙ there))) each.2
