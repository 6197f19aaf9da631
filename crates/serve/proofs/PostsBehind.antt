-- What a loop posts, and what it finds started, it handed out before.
use Rattle.serve.proofs.Words.{Anyhow, ap, append-nil, append_assoc, arith, Bool, CancelAnswered, ClaimsView, ClockRaised, cond, EndOffered, Event, EventStep}
use Rattle.serve.proofs.Words.{false, flat_map-append, FoundBehind, GuestCall, handed_out, inl, inr, IsByThread, IsMirrored, List, Loop, LoopRecord, LoopView}
use Rattle.serve.proofs.Words.{MovedBeside, MovesBy, new_loop_view, Order, order_of, OrderAsked, passed_in, PostsAmong, PostsNone, RecordHandsOut, RecordPosts}
use Rattle.serve.proofs.Words.{refl, RequestAnswered, Seats, Setting, Some, step_mirrors, StepDid, Stepped, steps_join, subst, sum_by-append, sym, thread_calls}
use Rattle.serve.proofs.Words.{ThreadHistory, ThreadStep, true, View, WorkOrder, ℕ, [], ◌++◌, ◌+◌, ◌<◌, ◌∙◌, ◌∷◌, ◌≡◌, ◌⊎◌}
use Rattle.tallies.specs.Requests.{times, is_request, is_pending}
use Rattle.tallies.proofs.Requests.{is_request_itself, times_grow, times_hit, pushed}
use Rattle.reduction.proofs.StepByStep.{steps_from}
use Rattle.claims.specs.Views.{OpensSlot, PostsSlot}
use Rattle.phases.specs.Step.{StepsWith}
use Rattle.pool.specs.Share.{TriesToCancel, TriesToPost}
use Rattle.serve.specs.HandedOut.{handed_in, OnlyPosts, PostsHanded}
use Rattle.serve.proofs.OneEventMore.{moves_then}
use Rattle.serve.proofs.SentAlone.{nothing_known}

times_both : (c : ℕ × ℕ) (xs ys : List (ℕ × ℕ)) → times c (xs ++ ys) ≡ times c xs + times c ys
times_both c xs ys = sum_by-append (λ (x : ℕ × ℕ). cond {A = ℕ} (is_request c x) 1 0) xs ys

times_front : (c : ℕ × ℕ) (xs ys : List (ℕ × ℕ)) → 0 < times c xs → 0 < times c (xs ++ ys)
times_front c xs ys h = let both = times_both c xs ys in omega arith

times_last : (c : ℕ × ℕ) (xs : List (ℕ × ℕ)) → 0 < times c (xs ++ c ∷ [])
times_last c xs = let hit = times_hit c c xs (is_request_itself c) in omega arith

pub handed_append : (events more : List Event) → handed_out (events ++ more) ≡ handed_out events ++ handed_out more
handed_append events more = flat_map-append handed_in events more

pub first_none : (e : Event) (events : List Event) → PostsNone (e ∷ events) → PostsNone (e ∷ []) × PostsNone events
first_none MovedBeside events h = absurd h
first_none _ events h = (tt, h)

-- a loop's calls, while these requests are posted
module _ (posted : List (ℕ × ℕ)) where
  -- The seat has posted just these, and found no other started.
  record HasPosted (seat : LoopView) : Type 0 where
    pub posting : seat.is_posting ≡ true
    pub same : seat.posted ≡ posted
    pub found : (c : ℕ × ℕ) → 0 < times c seat.found_started → 0 < times c posted

  opened : (old new : LoopView) (c : ℕ × ℕ) → OpensSlot old new c → HasPosted old → HasPosted new
  opened old new c h was = subst HasPosted (sym h) (record {
    posting = was.posting;
    same = ap (λ b. cond b old.posted (old.posted ++ c ∷ [])) was.posting ∙ was.same;
    found = was.found;
  })

  cancelled : (old new : LoopView) (c : ℕ × ℕ) (answer : Bool) → TriesToCancel old new c answer → HasPosted old → HasPosted new
  cancelled old new c true h was = subst HasPosted (sym h.0) (record { posting = was.posting; same = was.same; found = was.found })
  cancelled old new c false h was = by (is_pending old.opened old.cancelled c) refl
    where
      noted : LoopView
      noted = record old { found_started = old.found_started ++ c ∷ [] }

      found : is_pending old.opened old.cancelled c ≡ true → (d : ℕ × ℕ) → 0 < times d noted.found_started → 0 < times d posted
      found pending d there = elim (pushed d c old.found_started there) [
        | inl before ↦ was.found d before
        | inr is ↦ subst (λ x. 0 < times x posted) (sym is) (subst (λ xs. 0 < times c xs) was.same (h.1 pending))
      ]

      by : (b : Bool) → is_pending old.opened old.cancelled c ≡ b → HasPosted new
      by true pending = subst HasPosted (sym (h.0 ∙ ap (λ b. cond b noted old) pending)) (record { posting = was.posting; same = was.same; found = found pending })
      by false none = subst HasPosted (sym (h.0 ∙ ap (λ b. cond b noted old) none)) was

  abbrev Stays : Seats → Unit {0} → Type 0
  Stays s t = HasPosted s.loop_seat

  kept : IsMirrored thread_calls nothing_known Anyhow Stays
  kept = record {
    opens = λ s s' t slot request was h. (tt, tt, opened s.loop_seat s'.loop_seat (slot, request) h.0 was);
    cancels = λ s s' t slot request won was h. (tt, tt, cancelled s.loop_seat s'.loop_seat (slot, request) won h.0 was);
    sends = λ s s' t a ok was h. (tt, tt, subst HasPosted (sym h.1) was);
    takes = λ s s' t a n there was h. (tt, tt, subst HasPosted (sym h.1) was);
  }

  still : (old new : Loop Seats) → new.shared ≡ old.shared → HasPosted old.shared.loop_seat → HasPosted new.shared.loop_seat
  still old new same = subst (λ (s : Seats). HasPosted s.loop_seat) (sym same)

  module _ (g : Setting) where
    step_posts : (old new : Loop Seats) (did : StepDid) (made : List GuestCall) → StepsWith thread_calls g old did made new
        → HasPosted old.shared.loop_seat → HasPosted new.shared.loop_seat
    step_posts old new did made step was = (step_mirrors thread_calls nothing_known g Anyhow Stays kept old did made new tt (λ a handle is. tt) was step).2

    event_posts : (e : Event) (old new : Loop Seats) → PostsNone (e ∷ []) → EventStep thread_calls g e old new → IsByThread e old.state
        → HasPosted old.shared.loop_seat → HasPosted new.shared.loop_seat
    event_posts (Stepped did emits made) old new none step own was = step_posts old new did made step.0 was
    event_posts (OrderAsked order) old new none step own was = still old new (ap (λ (l : Loop Seats). l.shared) step.1) was
    event_posts (EndOffered o end true) old new none step own was = still old new (ap (λ (l : Loop Seats). l.shared) step.1.1) was
    event_posts (EndOffered o end false) old new none step own was = still old new (ap (λ (l : Loop Seats). l.shared) step.1.1) was
    event_posts (CancelAnswered request answer) old new none step own was = absurd own
    event_posts (RequestAnswered op bytes answer) old new none step own was = absurd own
    event_posts (ClockRaised ms) old new none step own was = still old new (ap (λ (l : Loop Seats). l.shared) step) was
    event_posts MovedBeside old new none step own was = absurd none

    history_posts : (handed : List (ℕ × ℕ)) → ((c : ℕ × ℕ) → 0 < times c posted → 0 < times c handed) → (events : List Event) (old new : Loop Seats) → PostsNone events
        → (h : ThreadHistory thread_calls g old events new) → HasPosted old.shared.loop_seat → HasPosted new.shared.loop_seat × FoundBehind handed (passed_in g old events new h)
    history_posts handed among [] old new none h was = (subst (λ (l : Loop Seats). HasPosted l.shared.loop_seat) (sym h) was, tt)
    history_posts handed among (e ∷ events) old new none h was =
        let none_of = first_none e events none in
        let one = event_posts e old h.0 none_of.0 h.1.0 h.1.1 was in
        let rest = history_posts (handed ++ handed_in e) (λ c there. times_front c handed (handed_in e) (among c there)) events h.0 new none_of.1 h.2 one in
        (rest.0, (λ c there. among c (one.found c there), rest.1))

-- These events lead from what was handed out, posted and found started to such again.
abbrev pub GoesBehind : (old new : LoopRecord) → List Event → Type 0
GoesBehind old new events =
    (handed : List (ℕ × ℕ)) → PostsAmong handed old.core.loop.shared.loop_seat
    → (h : ThreadHistory thread_calls old.core.setting old.core.loop events new.core.loop)
    → PostsAmong (handed ++ handed_out events) new.core.loop.shared.loop_seat
    × FoundBehind handed (passed_in old.core.setting old.core.loop events new.core.loop h)
    × OnlyPosts handed old.core.loop (passed_in old.core.setting old.core.loop events new.core.loop h)

-- nothing happens beside the loop
posts_none : (handed : List (ℕ × ℕ)) (e : Event) (old new : Loop Seats) → PostsNone (e ∷ []) → PostsHanded handed e old new
posts_none handed MovedBeside old new none = absurd none
posts_none handed _ old new none = tt

beside_unposted : (g : Setting) (handed : List (ℕ × ℕ)) (events : List Event) (old new : Loop Seats) → PostsNone events → (h : ThreadHistory thread_calls g old events new) → OnlyPosts handed old (passed_in g old events new h)
beside_unposted g handed [] old new none h = tt
beside_unposted g handed (e ∷ events) old new none h =
    let none_of = first_none e events none in
    (posts_none handed e old h.0 none_of.0, beside_unposted g (handed ++ handed_in e) events h.0 new none_of.1 h.2)

pub goes_unposted : (old new : LoopRecord) (events : List Event) → PostsNone events → GoesBehind old new events
goes_unposted old new events none handed posts h =
    let seat = old.core.loop.shared.loop_seat in
    let was : HasPosted seat.posted seat = record { posting = posts.posting; same = refl; found = posts.found } in
    let it = history_posts seat.posted old.core.setting handed posts.posted events old.core.loop new.core.loop none h was in
    let now = it.0 in (
      record {
        posting = now.posting;
        posted = λ c there. times_front c handed (handed_out events) (posts.posted c (subst (λ xs. 0 < times c xs) now.same there));
        found = λ c there. subst (λ xs. 0 < times c xs) (sym now.same) (now.found c there);
      },
      it.1,
      beside_unposted old.core.setting handed events old.core.loop new.core.loop none h,
    )

-- a try to post a request
pub posted_or_not : (old new : LoopView) (c : ℕ × ℕ) (answer : Bool) → TriesToPost old new c answer → PostsSlot old new c ⊎ (new ≡ old)
posted_or_not old new c true h = inl h.1
posted_or_not old new c false h = inr h.1

-- a request that is handed out is posted
module _ (handed : List (ℕ × ℕ)) (old new : LoopView) (c : ℕ × ℕ) (posts : PostsAmong handed old) where
  posted_one : PostsSlot old new c ⊎ (new ≡ old) → PostsAmong (handed ++ c ∷ []) new
  posted_one (inl h) = subst (PostsAmong (handed ++ c ∷ [])) (sym h) (record {
    posting = posts.posting;
    posted = λ d there. elim (pushed d c old.posted there) [
      | inl before ↦ times_front d handed (c ∷ []) (posts.posted d before)
      | inr is ↦ subst (λ x. 0 < times x (handed ++ c ∷ [])) (sym is) (times_last c handed)
    ];
    found = λ d there. times_grow d c old.posted (posts.found d there);
  })
  posted_one (inr h) = subst (PostsAmong (handed ++ c ∷ [])) (sym h) (record {
    posting = posts.posting;
    posted = λ d there. times_front d handed (c ∷ []) (posts.posted d there);
    found = posts.found;
  })

goes_posted : (old new : LoopRecord) (o : WorkOrder)
    → PostsSlot old.core.loop.shared.loop_seat new.core.loop.shared.loop_seat (o.slot, o.request) ⊎ (new.core.loop.shared.loop_seat ≡ old.core.loop.shared.loop_seat)
    → new.core.loop.shared.taker ≡ old.core.loop.shared.taker
    → GoesBehind old new (OrderAsked (Some o) ∷ MovedBeside ∷ [])
goes_posted old new o one taker handed posts h =
    let asked : h.0.shared ≡ old.core.loop.shared = ap (λ (l : Loop Seats). l.shared) h.1.0.1 in
    let found : (d : ℕ × ℕ) → 0 < times d h.0.shared.loop_seat.found_started → 0 < times d handed =
    λ d there. posts.posted d (posts.found d (subst (λ (s : Seats). 0 < times d s.loop_seat.found_started) asked there)) in
    let same = ap (λ (v : View). v.found_started) h.2.1.0.view in
    let Moved : Seats → Seats → Type 0 = λ s t. (PostsSlot s.loop_seat t.loop_seat (o.slot, o.request) ⊎ (t.loop_seat ≡ s.loop_seat)) × (t.taker ≡ s.taker) in
    let moved : Moved h.0.shared h.2.0.shared =
    subst (λ s. Moved s h.2.0.shared) (sym asked) (subst (Moved old.core.loop.shared) (ap (λ (l : Loop Seats). l.shared) h.2.2) (one, taker)) in (
      posted_one handed old.core.loop.shared.loop_seat new.core.loop.shared.loop_seat (o.slot, o.request) posts one,
      (found, (λ d there. times_front d handed ((o.slot, o.request) ∷ []) (found d (subst (λ xs. 0 < times d xs) same there)), tt)),
      (tt, (((o.slot, o.request), times_last (o.slot, o.request) handed, moved.0, moved.1), tt)),
    )

-- an order is handed out, and then its request is posted
module _ (old mid new : LoopRecord) (order : Order) (handed : RecordHandsOut old (Some order) mid) (posts : RecordPosts mid (order.slot, order.request) new) where
  pub moves_posted : MovesBy old (OrderAsked (Some (order_of order)) ∷ MovedBeside ∷ []) new
  moves_posted = moves_then old mid new (OrderAsked (Some (order_of order)) ∷ []) (MovedBeside ∷ []) handed posts.moves

  pub behind_posted : GoesBehind old new (OrderAsked (Some (order_of order)) ∷ MovedBeside ∷ [])
  behind_posted =
      let h = handed.history in
      let same : mid.core.loop.shared ≡ old.core.loop.shared = ap (λ (l : Loop Seats). l.shared) (h.2 ∙ h.1.0.1) in
      let seat = new.core.loop.shared.loop_seat in
      goes_posted old new (order_of order) (subst (λ (s : Seats). PostsSlot s.loop_seat seat (order.slot, order.request) ⊎ (seat ≡ s.loop_seat)) same posts.posts)
      (posts.taker ∙ ap (λ (s : Seats). s.taker) same)

-- a history, and more events
module _ (g : Setting) where
  found_here : (handed : List (ℕ × ℕ)) (more : List Event) (old mid new : Loop Seats) (same : mid ≡ old) (rest : ThreadHistory thread_calls g mid more new)
      → FoundBehind handed (passed_in g mid more new rest) → FoundBehind handed (passed_in g old more new (steps_from (ThreadStep thread_calls g) more old mid new same rest))
  found_here handed [] old mid new same rest found = tt
  found_here handed (e ∷ more) old mid new same rest found = found

  pub found_then : (handed : List (ℕ × ℕ)) (events more : List Event) (old mid new : Loop Seats) (h : ThreadHistory thread_calls g old events mid) (rest : ThreadHistory thread_calls g mid more new)
      → FoundBehind handed (passed_in g old events mid h) → FoundBehind (handed ++ handed_out events) (passed_in g mid more new rest)
      → FoundBehind handed (passed_in g old (events ++ more) new (steps_join (ThreadStep thread_calls g) events more old mid new h rest))
  found_then handed [] more old mid new h rest was next =
      found_here handed more old mid new h rest (subst (λ xs. FoundBehind xs (passed_in g mid more new rest)) (append-nil handed) next)
  found_then handed (e ∷ events) more old mid new h rest was next = (
    was.0,
    found_then (handed ++ handed_in e) events more h.0 mid new h.2 rest was.1
        (subst (λ xs. FoundBehind xs (passed_in g mid more new rest)) (sym (append_assoc handed (handed_in e) (handed_out events))) next),
  )

  beside_here : (handed : List (ℕ × ℕ)) (more : List Event) (old mid new : Loop Seats) (same : mid ≡ old) (rest : ThreadHistory thread_calls g mid more new)
      → OnlyPosts handed mid (passed_in g mid more new rest) → OnlyPosts handed old (passed_in g old more new (steps_from (ThreadStep thread_calls g) more old mid new same rest))
  beside_here handed [] old mid new same rest only = tt
  beside_here handed (e ∷ more) old mid new same rest only = (subst (λ l. PostsHanded handed e l rest.0) same only.0, only.1)

  pub beside_then : (handed : List (ℕ × ℕ)) (events more : List Event) (old mid new : Loop Seats) (h : ThreadHistory thread_calls g old events mid) (rest : ThreadHistory thread_calls g mid more new)
      → OnlyPosts handed old (passed_in g old events mid h) → OnlyPosts (handed ++ handed_out events) mid (passed_in g mid more new rest)
      → OnlyPosts handed old (passed_in g old (events ++ more) new (steps_join (ThreadStep thread_calls g) events more old mid new h rest))
  beside_then handed [] more old mid new h rest was next =
      beside_here handed more old mid new h rest (subst (λ xs. OnlyPosts xs mid (passed_in g mid more new rest)) (append-nil handed) next)
  beside_then handed (e ∷ events) more old mid new h rest was next = (
    was.0,
    beside_then (handed ++ handed_in e) events more h.0 mid new h.2 rest was.1
        (subst (λ xs. OnlyPosts xs mid (passed_in g mid more new rest)) (sym (append_assoc handed (handed_in e) (handed_out events))) next),
  )

  pub beside_none : (events : List Event) (old new : Loop Seats) (h : ThreadHistory thread_calls g old events new) → events ≡ [] → OnlyPosts [] old (passed_in g old events new h)
  beside_none [] old new h none = tt
  beside_none (e ∷ events) old new h none = absurd (cc)

  -- no events
  pub found_none : (events : List Event) (old new : Loop Seats) (h : ThreadHistory thread_calls g old events new) → events ≡ [] → FoundBehind [] (passed_in g old events new h)
  found_none [] old new h none = tt
  found_none (e ∷ events) old new h none = absurd (cc)

-- a new seat that posts
abbrev pub posting_view : LoopView → LoopView
posting_view v = record v { is_posting = true }

pub new_posts : (claims : ClaimsView) (n : ℕ) (handed : List (ℕ × ℕ)) (seat : LoopView) → seat ≡ posting_view (new_loop_view claims.id n) → PostsAmong handed seat
new_posts claims n handed seat is = subst (PostsAmong handed) (sym is) (record { posting = refl; posted = λ c there. absurd (omega (arith, there)); found = λ c there. there })
