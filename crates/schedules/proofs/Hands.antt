-- Workers that take one job after another, and workers that take one job each.
use Rattle.schedules.proofs.Words.{ap, append_assoc, arith, Bool, cases_eq, cond, eq-eqb, false, Idle, inl, inr, length, length-set, length_push, List, ne_eqb}
use Rattle.schedules.proofs.Words.{None, Option, refl, replicate, set_apart, set_here, slice_get, slice_set, Some, suc, sym, Taken, true, Worker, WorkOrder}
use Rattle.schedules.proofs.Words.{zero, ℕ, [], ◌++◌, ◌+◌, ◌<◌, ◌==◌, ◌∙◌, ◌∷◌, ◌≡◌, ◌≢◌, ◌≤◌, ◌⊎◌}

-- a place of a list after one was set
pub set_cases : {X : Type 0} (xs : List X) (n k : ℕ) (v y x : X) → slice_get xs n ≡ Some y → slice_get (slice_set xs n v) k ≡ Some x → ((k ≡ n) × (x ≡ v)) ⊎ ((k ≢ n) × (slice_get xs k ≡ Some x))
set_cases {X} xs n k v y x here at = by (cases_eq k n) where
  by : (k ≡ n) ⊎ (k ≢ n) → ((k ≡ n) × (x ≡ v)) ⊎ ((k ≢ n) × (slice_get xs k ≡ Some x))
  by (inl same) = let now = sym (set_here xs n v y here) ∙ ap (slice_get (slice_set xs n v)) (sym same) ∙ at in inl (same, (let it : v ≡ x = cc in sym it))
  by (inr other) = inr (other, sym (set_apart xs n k v (λ e. other (sym e))) ∙ at)

abbrev pub is_busy : Worker → Bool
is_busy Idle = false
is_busy _ = true

abbrev pub handed : (ℕ → ℕ) → (worker place : ℕ) → ℕ → ℕ
handed hand worker place k = cond (k == worker) place (hand k)

-- one more at the end of a list
get_front : {X : Type 0} (xs : List X) (y x : X) (n : ℕ) → slice_get xs n ≡ Some x → (slice_get (xs ++ y ∷ []) n ≡ Some x) × (n < length xs)
get_front [] y x n at = absurd (cc)
get_front (z ∷ xs) y x zero at = (at, omega arith)
get_front (z ∷ xs) y x (suc n) at = let it = get_front xs y x n at in let below = it.1 in (it.0, omega (arith, below))

get_push : {X : Type 0} (xs : List X) (y x : X) (n : ℕ) → slice_get (xs ++ y ∷ []) n ≡ Some x → ((n ≡ length xs) × (y ≡ x)) ⊎ (slice_get xs n ≡ Some x)
get_push [] y x zero at = inl (refl, cc)
get_push [] y x (suc n) at = absurd (cc)
get_push (z ∷ xs) y x zero at = inr at
get_push (z ∷ xs) y x (suc n) at = by (get_push xs y x n at) where
  by : ((n ≡ length xs) × (y ≡ x)) ⊎ (slice_get xs n ≡ Some x) → ((suc n ≡ length (z ∷ xs)) × (y ≡ x)) ⊎ (slice_get (z ∷ xs) (suc n) ≡ Some x)
  by (inl it) = inl (ap suc it.0, it.1)
  by (inr it) = inr it

-- The jobs that were posted, each until it is taken, and those that are on their way.
abbrev pub waiting : List (Option WorkOrder) → List WorkOrder
waiting [] = []
waiting (None ∷ bag) = waiting bag
waiting (Some o ∷ bag) = o ∷ waiting bag

pub waiting_push : (bag : List (Option WorkOrder)) (o : WorkOrder) → waiting (bag ++ Some o ∷ []) ≡ waiting bag ++ o ∷ []
waiting_push [] o = refl
waiting_push (None ∷ bag) o = waiting_push bag o
waiting_push (Some x ∷ bag) o = ap (λ os. x ∷ os) (waiting_push bag o)

-- a job that is on its way has a place
pub record IsAt (bag : List (Option WorkOrder)) (before : List WorkOrder) (o : WorkOrder) (behind : List WorkOrder) : Type 0 where
  pub place : ℕ
  pub there : slice_get bag place ≡ Some (Some o)
  pub rest : waiting (slice_set bag place None) ≡ before ++ behind

one_further : (b : Option WorkOrder) (bag : List (Option WorkOrder)) (front before behind : List WorkOrder) (o : WorkOrder)
    → ((xs : List (Option WorkOrder)) → waiting (b ∷ xs) ≡ front ++ waiting xs) → IsAt bag before o behind → IsAt (b ∷ bag) (front ++ before) o behind
one_further b bag front before behind o is h = record {
  place = suc h.place;
  there = h.there;
  rest = is (slice_set bag h.place None) ∙ ap (λ xs. front ++ xs) h.rest ∙ sym (append_assoc front before behind);
}

pub is_at : (bag : List (Option WorkOrder)) (before behind : List WorkOrder) (o : WorkOrder) → waiting bag ≡ before ++ o ∷ behind → IsAt bag before o behind
is_at [] [] behind o h = absurd (cc)
is_at [] (x ∷ before) behind o h = absurd (cc)
is_at (None ∷ bag) before behind o h = one_further None bag [] before behind o (λ xs. refl) (is_at bag before behind o h)
is_at (Some x ∷ bag) [] behind o h = let same : x ≡ o = cc in let rest : waiting bag ≡ behind = cc in record { place = 0; there = ap (λ y. Some (Some y)) same; rest = rest }
is_at (Some x ∷ bag) (y ∷ before) behind o h =
    let same : x ≡ y = cc in
    let rest : waiting bag ≡ before ++ o ∷ behind = cc in
    one_further (Some x) bag (y ∷ []) before behind o (λ xs. ap (λ z. z ∷ waiting xs) same) (is_at bag before behind o rest)

-- The i-th job is the i-th worker's that stands in for others: while it is on its way, that worker has taken it; once a
-- worker has, that worker is at what this one is at, and at no other's job. The others are idle.
pub record AreHeld (all : ℕ) (bag : List (Option WorkOrder)) (hand : ℕ → ℕ) (rs ws : List Worker) : Type 0 where
  pub held : (k : ℕ) (x : Worker) → slice_get rs k ≡ Some x → is_busy x ≡ true → (slice_get bag (hand k) ≡ Some None) × (slice_get ws (hand k) ≡ Some x)
  pub apart : (j k : ℕ) (x y : Worker) → slice_get rs j ≡ Some x → slice_get rs k ≡ Some y → is_busy x ≡ true → is_busy y ≡ true → hand j ≡ hand k → j ≡ k
  pub on_way : (i : ℕ) (o : WorkOrder) → slice_get bag i ≡ Some (Some o) → slice_get ws i ≡ Some (Taken o)
  pub fresh : (k : ℕ) → length bag ≤ k → k < all → slice_get ws k ≡ Some Idle

module _ (all : ℕ) (bag : List (Option WorkOrder)) (hand : ℕ → ℕ) (rs ws : List Worker) (h : AreHeld all bag hand rs ws) where
  -- a job is posted, and a new worker takes it at once
  module _ (o : WorkOrder) (room : length bag < all) where
    abbrev More : List (Option WorkOrder)
    More = bag ++ Some o ∷ []

    abbrev With : List Worker
    With = slice_set ws (length bag) (Taken o)

    posted_way : (i : ℕ) (x : WorkOrder) → slice_get More i ≡ Some (Some x) → slice_get With i ≡ Some (Taken x)
    posted_way i x at = by (get_push bag (Some o) (Some x) i at) where
      by : ((i ≡ length bag) × (◌≡◌ {A = Option WorkOrder} (Some o) (Some x))) ⊎ (slice_get bag i ≡ Some (Some x)) → slice_get With i ≡ Some (Taken x)
      by (inl it) =
          let same : o ≡ x = cc in
          ap (slice_get With) it.0 ∙ set_here ws (length bag) (Taken o) Idle (h.fresh (length bag) (omega arith) room) ∙ ap (λ y. Some (Taken y)) same
      by (inr it) = let below = (get_front bag (Some o) (Some x) i it).1 in set_apart ws (length bag) i (Taken o) (λ same. omega (arith, below, same)) ∙ h.on_way i x it

    pub hand_posts : AreHeld all More hand rs With
    hand_posts = record {
      held = λ k x at busy.
          let it = h.held k x at busy in
          let front = get_front bag (Some o) None (hand k) it.0 in
          let below = front.1 in
          (front.0, set_apart ws (length bag) (hand k) (Taken o) (λ same. omega (arith, below, same)) ∙ it.1);
      apart = h.apart;
      on_way = posted_way;
      fresh = λ k low below. (
          let long : length More ≡ length bag + 1 = length_push bag (Some o) in
          set_apart ws (length bag) k (Taken o) (λ same. omega (arith, low, long, same)) ∙ h.fresh k (omega (arith, low, long)) below
          );
    }

  -- an idle worker takes the job of a place
  module _ (n i : ℕ) (o : WorkOrder) (idle : slice_get rs n ≡ Some Idle) (there : slice_get bag i ≡ Some (Some o)) where
    abbrev Rs : List Worker
    Rs = slice_set rs n (Taken o)

    abbrev Less : List (Option WorkOrder)
    Less = slice_set bag i None

    here : (k : ℕ) → k ≡ n → handed hand n i k ≡ i
    here k same = rw (eq-eqb k n same) refl

    elsewhere : (k : ℕ) → k ≢ n → handed hand n i k ≡ hand k
    elsewhere k other = rw (ne_eqb k n other) refl

    -- no other's
    other_place : (k : ℕ) (x : Worker) → slice_get rs k ≡ Some x → is_busy x ≡ true → i ≢ hand k
    other_place k x at busy same = (let it = (h.held k x at busy).0 in let both : slice_get bag i ≡ Some None = ap (slice_get bag) same ∙ it in cc)

    taking_held : (k : ℕ) (x : Worker) → slice_get Rs k ≡ Some x → is_busy x ≡ true → (slice_get Less (handed hand n i k) ≡ Some None) × (slice_get ws (handed hand n i k) ≡ Some x)
    taking_held k x at busy = by (set_cases rs n k (Taken o) Idle x idle at) where
      by : ((k ≡ n) × (x ≡ Taken o)) ⊎ ((k ≢ n) × (slice_get rs k ≡ Some x)) → (slice_get Less (handed hand n i k) ≡ Some None) × (slice_get ws (handed hand n i k) ≡ Some x)
      by (inl it) =
          let e = here k it.0 in
          (ap (slice_get Less) e ∙ set_here bag i None (Some o) there, ap (slice_get ws) e ∙ h.on_way i o there ∙ ap Some (sym it.1))
      by (inr it) =
          let e = elsewhere k it.0 in
          let was = h.held k x it.1 busy in
          (ap (slice_get Less) e ∙ set_apart bag i (hand k) None (other_place k x it.1 busy) ∙ was.0, ap (slice_get ws) e ∙ was.1)

    taking_apart : (j k : ℕ) (x y : Worker) → slice_get Rs j ≡ Some x → slice_get Rs k ≡ Some y → is_busy x ≡ true → is_busy y ≡ true → handed hand n i j ≡ handed hand n i k → j ≡ k
    taking_apart j k x y at at' busy busy' same = by (set_cases rs n j (Taken o) Idle x idle at) (set_cases rs n k (Taken o) Idle y idle at') where
      by : ((j ≡ n) × (x ≡ Taken o)) ⊎ ((j ≢ n) × (slice_get rs j ≡ Some x)) → ((k ≡ n) × (y ≡ Taken o)) ⊎ ((k ≢ n) × (slice_get rs k ≡ Some y)) → j ≡ k
      by (inl a) (inl b) = a.0 ∙ sym b.0
      by (inl a) (inr b) = absurd (other_place k y b.1 busy' (sym (here j a.0) ∙ same ∙ elsewhere k b.0))
      by (inr a) (inl b) = absurd (other_place j x a.1 busy (sym (here k b.0) ∙ sym same ∙ elsewhere j a.0))
      by (inr a) (inr b) = h.apart j k x y a.1 b.1 busy busy' (sym (elsewhere j a.0) ∙ same ∙ elsewhere k b.0)

    taking_way : (j : ℕ) (x : WorkOrder) → slice_get Less j ≡ Some (Some x) → slice_get ws j ≡ Some (Taken x)
    taking_way j x at = by (set_cases bag i j None (Some o) (Some x) there at) where
      by : ((j ≡ i) × (◌≡◌ {A = Option WorkOrder} (Some x) None)) ⊎ ((j ≢ i) × (slice_get bag j ≡ Some (Some x))) → slice_get ws j ≡ Some (Taken x)
      by (inl it) = absurd (let never = it.1 in cc)
      by (inr it) = h.on_way j x it.1

    pub hand_takes : AreHeld all Less (handed hand n i) Rs ws
    hand_takes = record {
      held = taking_held;
      apart = taking_apart;
      on_way = taking_way;
      fresh = λ k low below. h.fresh k (let long = length-set bag i None in omega (arith, low, long)) below;
    }

  -- a worker that is not idle goes on, and so does the one that stands for it
  module _ (n : ℕ) (was now : Worker) (at_n : slice_get rs n ≡ Some was) (busy_n : is_busy was ≡ true) where
    abbrev After : List Worker
    After = slice_set rs n now

    abbrev Others : List Worker
    Others = slice_set ws (hand n) now

    before : (slice_get bag (hand n) ≡ Some None) × (slice_get ws (hand n) ≡ Some was)
    before = h.held n was at_n busy_n

    going_held : (k : ℕ) (x : Worker) → slice_get After k ≡ Some x → is_busy x ≡ true → (slice_get bag (hand k) ≡ Some None) × (slice_get Others (hand k) ≡ Some x)
    going_held k x at busy = by (set_cases rs n k now was x at_n at) where
      by : ((k ≡ n) × (x ≡ now)) ⊎ ((k ≢ n) × (slice_get rs k ≡ Some x)) → (slice_get bag (hand k) ≡ Some None) × (slice_get Others (hand k) ≡ Some x)
      by (inl it) =
          let e : hand k ≡ hand n = ap hand it.0 in
          (ap (slice_get bag) e ∙ before.0, ap (slice_get Others) e ∙ set_here ws (hand n) now was before.1 ∙ ap Some (sym it.1))
      by (inr it) =
          let old = h.held k x it.1 busy in
          (old.0, set_apart ws (hand n) (hand k) now (λ same. it.0 (h.apart k n x was it.1 at_n busy busy_n (sym same))) ∙ old.1)

    going_apart : (j k : ℕ) (x y : Worker) → slice_get After j ≡ Some x → slice_get After k ≡ Some y → is_busy x ≡ true → is_busy y ≡ true → hand j ≡ hand k → j ≡ k
    going_apart j k x y at at' busy busy' same = by (set_cases rs n j now was x at_n at) (set_cases rs n k now was y at_n at') where
      by : ((j ≡ n) × (x ≡ now)) ⊎ ((j ≢ n) × (slice_get rs j ≡ Some x)) → ((k ≡ n) × (y ≡ now)) ⊎ ((k ≢ n) × (slice_get rs k ≡ Some y)) → j ≡ k
      by (inl a) (inl b) = a.0 ∙ sym b.0
      by (inl a) (inr b) = a.0 ∙ h.apart n k was y at_n b.1 busy_n busy' (ap hand (sym a.0) ∙ same)
      by (inr a) (inl b) = h.apart j n x was a.1 at_n busy busy_n (same ∙ ap hand b.0) ∙ sym b.0
      by (inr a) (inr b) = h.apart j k x y a.1 b.1 busy busy' same

    pub hand_goes : AreHeld all bag hand After Others
    hand_goes = record {
      held = going_held;
      apart = going_apart;
      on_way = λ i o at. set_apart ws (hand n) i now (λ same. (let both : slice_get bag (hand n) ≡ Some (Some o) = ap (slice_get bag) same ∙ at in let none = before.0 in cc)) ∙ h.on_way i o at;
      fresh = λ k low below. (
          let under = (get_front bag None None (hand n) before.0).1 in
          set_apart ws (hand n) k now (λ same. omega (arith, low, under, same)) ∙ h.fresh k low below
          );
    }

  -- a worker drops its job, and the one that stands for it keeps it for ever
  module _ (n : ℕ) (was : Worker) (at_n : slice_get rs n ≡ Some was) where
    busy_before : (k : ℕ) (x : Worker) → slice_get (slice_set rs n Idle) k ≡ Some x → is_busy x ≡ true → slice_get rs k ≡ Some x
    busy_before k x at busy = by (set_cases rs n k Idle was x at_n at) where
      by : ((k ≡ n) × (x ≡ Idle)) ⊎ ((k ≢ n) × (slice_get rs k ≡ Some x)) → slice_get rs k ≡ Some x
      by (inl it) = absurd (let never : is_busy Idle ≡ true = ap is_busy (sym it.1) ∙ busy in cc)
      by (inr it) = it.1

    pub hand_drops : AreHeld all bag hand (slice_set rs n Idle) ws
    hand_drops = record {
      held = λ k x at busy. h.held k x (busy_before k x at busy) busy;
      apart = λ j k x y at at' busy busy' same. h.apart j k x y (busy_before j x at busy) (busy_before k y at' busy') busy busy' same;
      on_way = h.on_way;
      fresh = h.fresh;
    }

-- as they begin
all_idle : (n k : ℕ) (x : Worker) → slice_get (replicate n Idle) k ≡ Some x → x ≡ Idle
all_idle zero k x at = absurd (cc)
all_idle (suc n) zero x at = (let same : Idle ≡ x = cc in sym same)
all_idle (suc n) (suc k) x at = all_idle n k x at

idle_at : (n k : ℕ) → k < n → slice_get (replicate n Idle) k ≡ Some Idle
idle_at zero k below = absurd (omega (arith, below))
idle_at (suc n) zero below = refl
idle_at (suc n) (suc k) below = idle_at n k (omega (arith, below))

pub hands_open : (workers all : ℕ) → AreHeld all [] (λ k. k) (replicate workers Idle) (replicate all Idle)
hands_open workers all = record {
  held = λ k x at busy. absurd (never k x at busy);
  apart = λ j k x y at at' busy busy' same. same;
  on_way = λ i o at. absurd (cc);
  fresh = λ k low below. idle_at all k below;
} where
  never : (k : ℕ) (x : Worker) → slice_get (replicate workers Idle) k ≡ Some x → is_busy x ≡ true → ⊥
  never k x at busy = (let it : is_busy Idle ≡ true = ap is_busy (sym (all_idle workers k x at)) ∙ busy in cc)
