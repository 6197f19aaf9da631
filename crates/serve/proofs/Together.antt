-- What passes and seats say of all loops and all workers, once all were taken in.
use Rattle.serve.proofs.Words.{ap, append-nil, AreHandsOf, AreRepliesWhole, arith, asks, Bool, cond, count_by, count_cons, DidEvents, DidTurns, EachOnce}
use Rattle.serve.proofs.Words.{EachPair, end_of, EndOffered, Event, false, flat_map, FoundBehind, HandView, HasEnded, inl, inr, is_ticket, IsTied, IsWhole, LoopView}
use Rattle.serve.proofs.Words.{JointRun, length, List, Loaded, map, Named, offer_of, offered_in, order_of, passed_of, PassView, Put, put_for, refl, Reply}
use Rattle.serve.proofs.Words.{same_Some, Served, Serving, setting_at, slice_get, Some, started_by, subst, suc, sym, thread_calls, Ticket, true, Turn, WorkEnd}
use Rattle.serve.proofs.Words.{WorkerView, WorkOrder, zero, ℕ, [], ∥∥₁_map₂, ◌++◌, ◌+◌, ◌<◌, ◌==◌, ◌∙◌, ◌∷◌, ◌≡◌, ◌≤◌, ◌⊎◌}
use Rattle.atomic_table.specs.Seated.{TableId}
use Rattle.serve.specs.HandedOut.{OnlyPosts}
use Rattle.serve.specs.Joint.{AreOneClaims, IsSettledWith, IsPut, puts, is_offered, ticket_for, times_in}
use Rattle.serve.proofs.JointCounts.{Pairs, count_map, PostsWithin, TakesThese, PutsNone, PutsThese, taken_within, offered_within}
use Rattle.serve.proofs.Lookups.{not_there, is_within, front_at, split_at, by_index, to_index, map_at, map_back}

-- pairs of lists, where of each pair something is known
module _ {A B : Type 0} (R : ℕ → A → B → Type 0) where
  pub out : (n : ℕ) (xs : List A) (ys : List B) → EachPair (λ k x y. ∥ R k x y ∥₁) n xs ys → ∥ EachPair R n xs ys ∥₁
  out n [] [] h = ∣ tt ∣₁
  out n [] (y ∷ ys) h = absurd h
  out n (x ∷ xs) [] h = absurd h
  out n (x ∷ xs) (y ∷ ys) h = ∥∥₁_map₂ h.0 (out (suc n) xs ys h.1) (λ one rest. (one, rest))

  -- what is picked of each
  module _ {C : Type 0} (pick : (k : ℕ) (x : A) (y : B) → R k x y → C) where
    abbrev pub picked : (n : ℕ) (xs : List A) (ys : List B) → EachPair R n xs ys → List C
    picked n (x ∷ xs) (y ∷ ys) h = pick n x y h.0 ∷ picked (suc n) xs ys h.1
    picked n _ _ h = []

    pub as_many : (n : ℕ) (xs : List A) (ys : List B) (h : EachPair R n xs ys) → length (picked n xs ys h) ≡ length xs
    as_many n [] [] h = refl
    as_many n [] (y ∷ ys) h = absurd h
    as_many n (x ∷ xs) [] h = absurd h
    as_many n (x ∷ xs) (y ∷ ys) h = ap suc (as_many (suc n) xs ys h.1)

    pub record Found (k : ℕ) (xs : List A) (ys : List B) (c : C) : Type 0 where
      pub x : A
      pub y : B
      pub first : slice_get xs k ≡ Some x
      pub second : slice_get ys k ≡ Some y
      pub place : ℕ
      pub known : R place x y
      pub is : pick place x y known ≡ c

    pub found : (n k : ℕ) (xs : List A) (ys : List B) (h : EachPair R n xs ys) (c : C) → slice_get (picked n xs ys h) k ≡ Some c → (f : Found k xs ys c) × (f.place ≡ n + k)
    found n k [] [] h c e = not_there c e
    found n k [] (y ∷ ys) h c e = absurd h
    found n k (x ∷ xs) [] h c e = absurd h
    found n zero (x ∷ xs) (y ∷ ys) h c e =
        (record { x = x; y = y; first = refl; second = refl; place = n; known = h.0; is = same_Some (pick n x y h.0) c e }, omega arith)
    found n (suc k) (x ∷ xs) (y ∷ ys) h c e =
        let f = found (suc n) k xs ys h.1 c e in
        (record { x = f.0.x; y = f.0.y; first = f.0.first; second = f.0.second; place = f.0.place; known = f.0.known; is = f.0.is }, (let p = f.1 in omega arith))

    pub with_firsts : (Q : A → C → Type 0) → ((k : ℕ) (x : A) (y : B) (r : R k x y) → Q x (pick k x y r)) → (n : ℕ) (xs : List A) (ys : List B) (h : EachPair R n xs ys) → Pairs Q xs (picked n xs ys h)
    with_firsts Q f n [] [] h = tt
    with_firsts Q f n [] (y ∷ ys) h = absurd h
    with_firsts Q f n (x ∷ xs) [] h = absurd h
    with_firsts Q f n (x ∷ xs) (y ∷ ys) h = (f n x y h.0, with_firsts Q f (suc n) xs ys h.1)

    pub with_seconds : (Q : B → C → Type 0) → ((k : ℕ) (x : A) (y : B) (r : R k x y) → Q y (pick k x y r)) → (n : ℕ) (xs : List A) (ys : List B) (h : EachPair R n xs ys) → Pairs Q ys (picked n xs ys h)
    with_seconds Q f n [] [] h = tt
    with_seconds Q f n [] (y ∷ ys) h = absurd h
    with_seconds Q f n (x ∷ xs) [] h = absurd h
    with_seconds Q f n (x ∷ xs) (y ∷ ys) h = (f n x y h.0, with_seconds Q f (suc n) xs ys h.1)

-- how often a reply of the ticket is offered
offers_count : (t : Ticket) (events : List Event) → count_by (is_offered t) events ≡ count_by (λ (o : WorkOrder × WorkEnd). is_ticket t (ticket_for o.0)) (offered_in events)
offers_count t [] = refl
offers_count t (EndOffered o end taken ∷ events) =
    let a = count_cons (is_offered t) (EndOffered o end taken) events in
    let b = count_cons (λ (x : WorkOrder × WorkEnd). is_ticket t (ticket_for x.0)) (o, end) (offered_in events) in
    let c = offers_count t events in
    omega arith
offers_count t (e ∷ events) = let a = count_cons (is_offered t) e events in let c = offers_count t events in omega arith

-- the place of an offer among the offers
offer_place : (events : List Event) (i : ℕ) (o : WorkOrder) (end : WorkEnd) (taken : Bool) → slice_get events i ≡ Some (EndOffered o end taken) → (j : ℕ) × (slice_get (offered_in events) j ≡ Some (o, end))
offer_place [] i o end taken e = not_there _ e
offer_place (x ∷ events) zero o end taken e = (0, ap (λ l. slice_get l 0) (ap (λ y. offered_in (y ∷ events)) (same_Some x (EndOffered o end taken) e)))
offer_place (EndOffered p last was ∷ events) (suc i) o end taken e = let r = offer_place events i o end taken e in (suc r.0, r.1)
offer_place (_ ∷ events) (suc i) o end taken e = offer_place events i o end taken e

put_test : (b : Bool) (k : ℕ) (x : Reply) (turns : List Turn) (reply : Reply) → ((i : ℕ) (r : Reply) → slice_get (put_for k turns) i ≡ Some r → (j : ℕ) × (slice_get turns j ≡ Some (Put r)))
    → (i : ℕ) → slice_get (cond b (x ∷ put_for k turns) (put_for k turns)) i ≡ Some reply → (j : ℕ) × (slice_get (Put x ∷ turns) j ≡ Some (Put reply))
put_test true k x turns reply f zero e = (0, ap (λ r. Some (Put r)) (same_Some x reply e))
put_test true k x turns reply f (suc i) e = let r = f i reply e in (suc r.0, r.1)
put_test false k x turns reply f i e = let r = f i reply e in (suc r.0, r.1)

-- the place of a put reply among the turns
put_place : (k : ℕ) (turns : List Turn) (i : ℕ) (reply : Reply) → slice_get (put_for k turns) i ≡ Some reply → (j : ℕ) × (slice_get turns j ≡ Some (Put reply))
put_place k [] i reply e = not_there reply e
put_place k (Put x ∷ turns) i reply e = put_test (x.order.loop_no == k) k x turns reply (put_place k turns) i e
put_place k (_ ∷ turns) i reply e = let r = put_place k turns i reply e in (suc r.0, r.1)

-- pairs by their place
pair_at : {A B : Type 0} (R : A → B → Type 0) (xs : List A) (ys : List B) → Pairs R xs ys → (k : ℕ) (x : A) → slice_get xs k ≡ Some x → (y : B) × (slice_get ys k ≡ Some y) × R x y
pair_at R [] [] h k x e = not_there x e
pair_at R [] (y ∷ ys) h k x e = absurd h
pair_at R (z ∷ xs) [] h k x e = absurd h
pair_at R (z ∷ xs) (y ∷ ys) h zero x e = (y, refl, rw (same_Some z x e) at h.0)
pair_at R (z ∷ xs) (y ∷ ys) h (suc k) x e = pair_at R xs ys h.1 k x e

-- the hand of a pass, and the pass of a hand, on a loop's line
module _ {J : Type 0} (passes : List (PassView J)) (k : ℕ) (hands : List (HandView Reply)) (are : AreHandsOf passes k hands) where
  hand_at : (i : ℕ) (p : PassView J) → slice_get passes i ≡ Some p → (h : HandView Reply) × (slice_get hands i ≡ Some h) × (slice_get p.replies k ≡ Some h)
  hand_at i p at =
      let there : slice_get (map (λ h. Some h) hands) i ≡ Some (slice_get p.replies k) = rw are at (map_at (λ (q : PassView J). slice_get q.replies k) passes i p at) in
      let back = map_back (λ (h : HandView Reply). Some h) hands i (slice_get p.replies k) there in
      (back.0, back.1, sym back.2)

  pass_at : (i : ℕ) (h : HandView Reply) → slice_get hands i ≡ Some h → (p : PassView J) × (slice_get passes i ≡ Some p) × (slice_get p.replies k ≡ Some h)
  pass_at i h at =
      let there : slice_get (map (λ (q : PassView J). slice_get q.replies k) passes) i ≡ Some (Some h) = rw are (map_at (λ (x : HandView Reply). Some x) hands i h at) in
      let back = map_back (λ (q : PassView J). slice_get q.replies k) passes i (Some h) there in
      (back.0, back.1, back.2)

module _ {J : Type 0} (ticket : J → Ticket) (loaded : Loaded) (serving : Serving) (claims : TableId) where
  -- what a loop of this number did, with a seat of these claims, which is settled with what workers have started
  abbrev pub EndedWith : (started : List Ticket) → ℕ → Served → PassView J → Type 0
  EndedWith started k s p =
      (seat : LoopView) × DidEvents ticket (setting_at loaded serving k) s.ending s.emits.items p seat × (seat.claims ≡ claims) × IsSettledWith started seat

  abbrev DidWorker : ℕ → PassView J → WorkerView → Type 0
  DidWorker w p seat = DidTurns ticket p seat

  module _ (served : List Served) (lp wp : List (PassView J)) (seats : List WorkerView) (crew : WorkerView)
      (own_crew : crew.claims ≡ claims) (few : length served ≡ serving.loops) (crew_size : length wp ≡ serving.workers)
      (started : crew.started ≡ flat_map (λ s. s.started) seats) (once : EachOnce crew.started)
      (jobs : IsWhole (map (λ p. p.jobs) (lp ++ wp))) (replies : AreRepliesWhole serving.loops (lp ++ wp))
      (ls : EachPair (EndedWith crew.started) 0 served lp) (ws : EachPair DidWorker 0 wp seats) where
    abbrev DidLoop : ℕ → Served → PassView J → Type 0
    DidLoop = EndedWith crew.started

    abbrev events_of : (k : ℕ) (s : Served) (p : PassView J) → DidLoop k s p → List Event
    events_of k s p d = d.1.ended.done.events

    abbrev turns_of : (w : ℕ) (p : PassView J) (s : WorkerView) → DidWorker w p s → List Turn
    turns_of w p s d = d.turns

    abbrev loops : List (List Event)
    loops = picked DidLoop events_of 0 served lp ls

    abbrev workers : List (List Turn)
    workers = picked DidWorker turns_of 0 wp seats ws

    seats_started : (n : ℕ) (ps : List (PassView J)) (ss : List WorkerView) (h : EachPair DidWorker n ps ss) → flat_map (λ (s : WorkerView). s.started) ss ≡ flat_map started_by (picked DidWorker turns_of n ps ss h)
    seats_started n [] [] h = refl
    seats_started n [] (s ∷ ss) h = absurd h
    seats_started n (p ∷ ps) [] h = absurd h
    seats_started n (p ∷ ps) (s ∷ ss) h = (λ i. h.0.started i ++ seats_started (suc n) ps ss h.1 i)

    posted_alone : (t : Ticket) (p : PassView J) (events : List Event) → count_by (λ j. is_ticket t (ticket j)) (p.jobs.given ++ []) ≤ count_by (asks t) events → PostsWithin ticket t p events
    posted_alone t p events h = rw (append-nil p.jobs.given) at h

    none_put : Pairs PutsNone lp loops
    none_put = with_seconds DidLoop events_of PutsNone (λ k s p d. d.1.tied.put) 0 served lp ls

    these_put : Pairs PutsThese wp workers
    these_put = with_firsts DidWorker turns_of PutsThese (λ w p s d. d.put) 0 wp seats ws

    -- a loop, with its pass and what it did
    pub record LoopAt (k : ℕ) (events : List Event) : Type 0 where
      pub pass : PassView J
      pub at : slice_get lp k ≡ Some pass
      pub tied : IsTied ticket k pass [] events
      pub below : k < serving.loops

    loop_at : (k : ℕ) (events : List Event) → slice_get loops k ≡ Some events → LoopAt k events
    loop_at k events e =
        let f = found DidLoop events_of 0 k served lp ls events e in
        let below = is_within served k f.0.x f.0.first in
        let place : f.0.place ≡ k = (let p = f.1 in omega arith) in
        record {
          pass = f.0.y;
          at = f.0.second;
          tied = subst (IsTied ticket k f.0.y []) f.0.is (rw place at f.0.known.1.tied);
          below = omega arith;
        }

    -- what a loop of this number did, which has ended so, with a seat of the crew's claims
    abbrev DoesAt : (k : ℕ) (s : Served) (events : List Event) → Type 0
    DoesAt k s events =
        (ended : HasEnded thread_calls (setting_at loaded serving k) s.ending s.emits.items) × (ended.done.events ≡ events)
        × FoundBehind [] (passed_of (setting_at loaded serving k) ended.done) × AreOneClaims ended.now.shared.loop_seat crew
        × OnlyPosts [] ended.done.start (passed_of (setting_at loaded serving k) ended.done)

    one_table : (q seat : LoopView) → seat ≡ q → q.claims ≡ claims → IsSettledWith crew.started q → AreOneClaims seat crew
    one_table q seat is of settled = subst (λ x. AreOneClaims x crew) (sym is) (record { claims = of ∙ sym own_crew; with_crew = settled })

    does_at : (k : ℕ) (s : Served) (events : List Event) → slice_get served k ≡ Some s → slice_get loops k ≡ Some events → DoesAt k s events
    does_at k s events at e =
        let f = found DidLoop events_of 0 k served lp ls events e in
        let same : f.0.x ≡ s = same_Some f.0.x s (sym f.0.first ∙ at) in
        subst (λ n. DoesAt n s events) (let p = f.1 in omega arith)
        (subst (λ x. DoesAt f.0.place x events) same (f.0.known.1.ended, f.0.is, f.0.known.1.found, one_table f.0.known.0 f.0.known.1.ended.now.shared.loop_seat f.0.known.1.with_seat f.0.known.2 f.0.known.3, f.0.known.1.beside))

    offered : (k : ℕ) (events : List Event) → slice_get loops k ≡ Some events → (t : Ticket) → count_by (is_offered t) events ≤ times_in (puts t) workers
    offered k events e t =
        let l = loop_at k events e in
        let whole = replies k l.below in
        let hand = hand_at (lp ++ wp) k whole.0 whole.1 k l.pass (front_at lp wp k l.pass l.at) in
        let most = offered_within lp wp loops workers none_put these_put k whole.0 whole.1 whole.2 k l.pass hand.0 (front_at lp wp k l.pass l.at) hand.2 t in
        let count = offers_count t events in
        let same = ap (count_by (λ (o : WorkOrder × WorkEnd). is_ticket t (ticket_for o.0))) (l.tied.offered hand.0 hand.2) in
        let mapped = count_map (λ (o : WorkOrder × WorkEnd). is_ticket t (ticket_for o.0)) (λ (n : Named Reply). offer_of n.item) hand.0.taken in
        omega arith

    -- the put that a collected reply is of
    same : (k i : ℕ) (events : List Event) (o : WorkOrder) (end : WorkEnd) (is_taken : Bool) → slice_get loops k ≡ Some events
        → slice_get events i ≡ Some (EndOffered o end is_taken)
        → (o.loop_no ≡ k) × IsPut workers o end
    same k i events o end is_taken e at =
        let l = loop_at k events e in
        let whole = replies k l.below in
        let hand = hand_at (lp ++ wp) k whole.0 whole.1 k l.pass (front_at lp wp k l.pass l.at) in
        let place = offer_place events i o end is_taken at in
        let name = map_back (λ (n : Named Reply). offer_of n.item) hand.0.taken place.0 (o, end) (rw (l.tied.offered hand.0 hand.2) at place.1) in
        let gift = whole.2.given k place.0 hand.0 name.0 (to_index whole.0 k hand.0 hand.1) (to_index hand.0.taken place.0 name.0 name.1) in
        let giver = gift.0 in
        let by = pass_at (lp ++ wp) k whole.0 whole.1 gift.1 giver (by_index whole.0 gift.1 giver gift.3) in
        let gave : slice_get giver.given name.0.ordinal ≡ Some name.0.item = by_index giver.given name.0.ordinal name.0.item gift.4 in
        (l.tied.own place.0 (o, end) place.1, from_pass gift.1 by.0 giver name.0.ordinal name.0.item by.2 gave (ap (λ (x : WorkOrder × WorkEnd). x.0) name.2) (ap (λ (x : WorkOrder × WorkEnd). x.1) name.2) (split_at lp wp gift.1 by.0 by.1))
      where
        from_pass : (at : ℕ) (p : PassView J) (giver : HandView Reply) (n : ℕ) (reply : Reply) → slice_get p.replies k ≡ Some giver → slice_get giver.given n ≡ Some reply
            → order_of reply.order ≡ o → end_of reply.outcome ≡ end → ((slice_get lp at ≡ Some p) ⊎ ((w : ℕ) × (at ≡ length lp + w) × (slice_get wp w ≡ Some p)))
            → IsPut workers o end
        from_pass place p giver n reply own gave of_order of_end (inl at) =
            let loop = pair_at PutsNone lp loops none_put place p at in
            not_there reply (rw (loop.2 k giver own) at gave)
        from_pass place p giver n reply own gave of_order of_end (inr at) =
            let worker = pair_at PutsThese wp workers these_put at.0 p at.2 in
            let put = put_place k worker.0 n reply (rw (worker.2 k giver own) at gave) in
            (at.0, put.0, worker.0, reply, worker.1, put.1, of_order, of_end)

    pub together : JointRun loaded serving served crew
    together = record {
      loops = loops;
      workers = workers;
      loop_count = as_many DidLoop events_of 0 served lp ls ∙ few;
      worker_count = as_many DidWorker turns_of 0 wp seats ws ∙ crew_size;
      each = λ k s events at e. let it = does_at k s events at e in (it.0, it.1, it.2);
      own = λ k s events at e. (does_at k s events at e).3;
      beside = λ k s events at e. (does_at k s events at e).4;
      started = started ∙ seats_started 0 wp seats ws;
      once = once;
      taken = λ t. taken_within ticket t lp wp loops workers
          (with_seconds DidLoop events_of (PostsWithin ticket t) (λ k s p d. posted_alone t p d.1.ended.done.events (d.1.tied.posted t)) 0 served lp ls)
          (with_firsts DidWorker turns_of (TakesThese ticket t) (λ w p s d. (d.taken, d.posted)) 0 wp seats ws) jobs;
      offered = offered;
      same = same;
    }
