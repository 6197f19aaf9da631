-- Requests that rise by their numbers, and what changes one of them.
use Rattle.phases.proofs.Words.{All, Answered, ap, AreKept, AreRising, arith, Bool, cancellation, Cancelled, Completion, completion_of, cond, end_completion}
use Rattle.phases.proofs.Words.{eq-eqb, eqb-suc-zero, eqb-true, false, filter, find, get_or, get_or_from_slice_get, has_number, in_stage, inl, inr, is_empty}
use Rattle.phases.proofs.Words.{IsEndOf, length, List, list_any, map, MAX_BYTES, MAX_REQUEST_NUMBER, MAX_REQUESTS, ne_eqb, not, Open, refl, Request, set}
use Rattle.phases.proofs.Words.{slice_get, slice_get_within, Some, Stage, subst, suc, sym, true, WorkEnd, WorkOrder, zero, ℕ, [], ◌++◌, ◌+◌, ◌<◌, ◌==◌, ◌||◌}
use Rattle.phases.proofs.Words.{◌∙◌, ◌∷◌, ◌≡◌, ◌≤◌, ◌⊎◌}
use Rattle.std.proofs.Common.{length-append, length-set}
use Rattle.std.specs.List.{remove}
use Rattle.std.proofs.lemmas.List.Elements.{All-filter, All-push, All-set}
use Rattle.order.specs.Work.{Done, IsShortEnd}
use Rattle.phases.specs.Fitting.{IsRight, IsTrueTo}

abbrev pub number_of : Request → ℕ
number_of r = r.order.request

abbrev pub staged : Request → Stage → Request
staged r stage = record r { stage = stage }

pub found_passes : {X : Type 0} (p : X → Bool) (xs : List X) (x : X) → find p xs ≡ Some x → p x ≡ true
found_passes p [] x h = absurd (cc)
found_passes {X} p (y ∷ ys) x h =
    elim (p y) as (λ b. p y ≡ b → cond b (Some y) (find p ys) ≡ Some x → p x ≡ true) [
      | true ↦ λ e k. (let same : y ≡ x = cc in rw (← same) e)
      | false ↦ λ e k. found_passes p ys x k
    ] refl h

-- a list with fewer than so many requests leaves one of so many slots free
fewer_or_same : {X : Type 0} (p : X → Bool) (xs : List X) → length (filter p xs) ≤ length xs
fewer_or_same p [] = omega arith
fewer_or_same p (x ∷ xs) =
    let rest = fewer_or_same p xs in
    elim (p x) as (λ b. length (cond b (x ∷ filter p xs) (filter p xs)) ≤ suc (length xs)) [ true ↦ omega arith | false ↦ omega arith ]

fewer : {X : Type 0} (p : X → Bool) (xs : List X) → list_any p xs ≡ true → length (filter (λ x. not (p x)) xs) < length xs
fewer p [] h = absurd (cc)
fewer p (x ∷ xs) h =
    let same = fewer_or_same (λ y. not (p y)) xs in
    elim (p x) as (λ b. (b || list_any p xs) ≡ true → length (cond (not b) (x ∷ filter (λ y. not (p y)) xs) (filter (λ y. not (p y)) xs)) < suc (length xs)) [
      | true ↦ λ k. omega arith
      | false ↦ λ k. (let rest = fewer p xs k in omega arith)
    ] h

still_any : {X : Type 0} (p q : X → Bool) → ((x : X) → p x ≡ true → q x ≡ true) → (xs : List X) → list_any p xs ≡ true → list_any p (filter q xs) ≡ true
still_any p q both [] h = absurd (cc)
still_any p q both (x ∷ xs) h =
    elim (cases_bool (p x)) [
      | inl holds ↦ rw (both x holds) (rw holds refl)
      | inr fails ↦ kept (q x) (still_any p q both xs (sym (ap (λ b. b || list_any p xs) fails) ∙ h))
    ] where
      cases_bool : (b : Bool) → (b ≡ true) ⊎ (b ≡ false)
      cases_bool true = inl refl
      cases_bool false = inr refl

      kept : (b : Bool) → list_any p (filter q xs) ≡ true → list_any p (cond b (x ∷ filter q xs) (filter q xs)) ≡ true
      kept true k = elim (p x) as (λ b. (b || list_any p (filter q xs)) ≡ true) [ true ↦ refl | false ↦ k ]
      kept false k = k

pub enough : (n : ℕ) (xs : List Request) → ((slot : ℕ) → slot < n → list_any (λ r. r.order.slot == slot) xs ≡ true) → n ≤ length xs
enough zero xs all = omega arith
enough (suc n) xs all =
    let uses : ℕ → Request → Bool = λ slot r. r.order.slot == slot in
    let less : length (filter (λ r. not (uses n r)) xs) < length xs = fewer (uses n) xs (all n (omega arith)) in
    let rest : n ≤ length (filter (λ r. not (uses n r)) xs) =
    enough n (filter (λ r. not (uses n r)) xs)
    (λ slot below. still_any (uses slot) (λ r. not (uses n r))
    (λ r holds. ap not (ne_eqb r.order.slot n (λ same. omega (arith, eqb-true r.order.slot slot holds))))
    xs (all slot (omega arith))) in
    omega arith

-- numbers that rise
pub within : (low high : ℕ) (xs : List Request) (at : ℕ) (r : Request) → AreRising low (map number_of xs) high → slice_get xs at ≡ Some r → low < number_of r
within low high [] at r rising h = absurd (cc)
within low high (x ∷ xs) zero r rising h = let same : x ≡ r = cc in rw (← same) (rising.0)
within low high (x ∷ xs) (suc at) r rising h = let rest = within (number_of x) high xs at r rising.1 h in let first = rising.0 in omega arith

module _ (stage : Stage) where
  untouched : (n low high : ℕ) (xs : List Request) → n ≤ low → AreRising low (map number_of xs) high → map (in_stage n stage) xs ≡ xs
  untouched n low high [] le rising = refl
  untouched n low high (x ∷ xs) le rising =
      let above = rising.0 in
      let rest = untouched n (number_of x) high xs (omega arith) rising.1 in
      rw (ne_eqb (number_of x) n (λ same. omega arith)) (ap (λ ys. x ∷ ys) rest)

  pub set_stage : (low high : ℕ) (xs : List Request) (at : ℕ) (r : Request) → AreRising low (map number_of xs) high → slice_get xs at ≡ Some r
      → set xs at (staged r stage) ≡ map (in_stage (number_of r) stage) xs
  set_stage low high [] at r rising h = absurd (cc)
  set_stage low high (x ∷ xs) zero r rising h =
      let same : x ≡ r = cc in
      rw same (rw (eq-eqb (number_of r) (number_of r) refl) (ap (λ ys. staged r stage ∷ ys) (sym (untouched (number_of r) (number_of x) high xs (rw same (omega arith)) rising.1))))
  set_stage low high (x ∷ xs) (suc at) r rising h =
      let above = within (number_of x) high xs at r rising.1 h in
      rw (ne_eqb (number_of x) (number_of r) (λ same. omega arith)) (ap (λ ys. x ∷ ys) (set_stage (number_of x) high xs at r rising.1 h))

all_kept : (n low high : ℕ) (xs : List Request) → n ≤ low → AreRising low (map number_of xs) high → filter (λ r. not (has_number n r)) xs ≡ xs
all_kept n low high [] le rising = refl
all_kept n low high (x ∷ xs) le rising =
    let above = rising.0 in
    let rest = all_kept n (number_of x) high xs (omega arith) rising.1 in
    rw (ne_eqb (number_of x) n (λ same. omega arith)) (ap (λ ys. x ∷ ys) rest)

pub remove_is : (low high : ℕ) (xs : List Request) (at : ℕ) (r : Request) → AreRising low (map number_of xs) high → slice_get xs at ≡ Some r
    → remove xs at ≡ filter (λ s. not (has_number (number_of r) s)) xs
remove_is low high [] at r rising h = absurd (cc)
remove_is low high (x ∷ xs) zero r rising h =
    let same : x ≡ r = cc in
    rw same (rw (eq-eqb (number_of r) (number_of r) refl) (sym (all_kept (number_of r) (number_of x) high xs (rw same (omega arith)) rising.1)))
remove_is low high (x ∷ xs) (suc at) r rising h =
    let above = within (number_of x) high xs at r rising.1 h in
    rw (ne_eqb (number_of x) (number_of r) (λ same. omega arith)) (ap (λ ys. x ∷ ys) (remove_is (number_of x) high xs at r rising.1 h))

rising_on : (low high n : ℕ) (ns : List ℕ) → AreRising low ns high → high < n → AreRising low (ns ++ n ∷ []) n
rising_on low high n [] rising less = let le : low ≤ high = rising in (omega arith, omega arith)
rising_on low high n (m ∷ ns) rising less = (rising.0, rising_on m high n ns rising.1 less)

rising_lower : (low lower high : ℕ) (ns : List ℕ) → lower ≤ low → AreRising low ns high → AreRising lower ns high
rising_lower low lower high [] le rising = let more : low ≤ high = rising in omega arith
rising_lower low lower high (m ∷ ns) le rising = (let first = rising.0 in omega arith, rising.1)

pub rising_filter : (p : Request → Bool) (low high : ℕ) (xs : List Request) → AreRising low (map number_of xs) high → AreRising low (map number_of (filter p xs)) high
rising_filter p low high [] rising = rising
rising_filter p low high (x ∷ xs) rising =
    let rest = rising_filter p (number_of x) high xs rising.1 in
    elim (p x) as (λ b. AreRising low (map number_of (cond b (x ∷ filter p xs) (filter p xs))) high) [
      | true ↦ (rising.0, rest)
      | false ↦ rising_lower (number_of x) low high (map number_of (filter p xs)) (let first = rising.0 in omega arith) rest
    ]

-- what a changed list keeps
map_same : {Y : Type 0} (f : Request → Y) (xs : List Request) (at : ℕ) (r y : Request) → slice_get xs at ≡ Some r → f y ≡ f r → map f (set xs at y) ≡ map f xs
map_same f [] at r y h same = refl
map_same f (x ∷ xs) zero r y h same = let is : x ≡ r = cc in ap (λ z. z ∷ map f xs) (same ∙ ap f (sym is))
map_same f (x ∷ xs) (suc at) r y h same = ap (λ zs. f x ∷ zs) (map_same f xs at r y h same)

pub at_all : {X : Type 0} (P : X → Type 0) (xs : List X) (at : ℕ) (x : X) → All P xs → slice_get xs at ≡ Some x → P x
at_all P xs at x all h = subst P (get_or_from_slice_get xs at x x h) (all at x (slice_get_within xs at x h))

map_push : {Y : Type 0} (f : Request → Y) (xs : List Request) (r : Request) → map f (xs ++ r ∷ []) ≡ map f xs ++ f r ∷ []
map_push f [] r = refl
map_push f (x ∷ xs) r = ap (λ ys. f x ∷ ys) (map_push f xs r)

module _ (xs : List Request) (last : ℕ) (kept : AreKept (record { outstanding = xs; last = last })) where
  pub kept_stage : (at : ℕ) (r : Request) (stage : Stage) → slice_get xs at ≡ Some r → IsTrueTo r.order stage
      → AreKept (record { outstanding = set xs at (staged r stage); last = last })
  kept_stage at r stage h right = record {
    few = rw (length-set xs at (staged r stage)) kept.few;
    slots = All-set (λ r. r.order.slot < MAX_REQUESTS) xs at (staged r stage) (at_all (λ r. r.order.slot < MAX_REQUESTS) xs at r kept.slots h) kept.slots;
    rising = rw (map_same number_of xs at r (staged r stage) h refl) kept.rising;
    numbers = kept.numbers;
    right = All-set IsRight xs at (staged r stage) right kept.right;
  }

  pub kept_open : (o : WorkOrder) → length xs < MAX_REQUESTS → o.request ≡ last + 1 → o.slot < MAX_REQUESTS → last + 1 ≤ MAX_REQUEST_NUMBER
      → AreKept (record { outstanding = xs ++ record { order = o; stage = Open } ∷ []; last = o.request })
  kept_open o room number slot small = record {
    few = rw (length-append xs (record { order = o; stage = Open } ∷ [])) (omega arith);
    slots = All-push (λ r. r.order.slot < MAX_REQUESTS) xs (record { order = o; stage = Open }) kept.slots slot;
    rising = rw (map_push number_of xs (record { order = o; stage = Open })) (rising_on 0 last o.request (map number_of xs) kept.rising (omega arith));
    numbers = rw number small;
    right = All-push IsRight xs (record { order = o; stage = Open }) kept.right tt;
  }

  pub kept_filter : (p : Request → Bool) → AreKept (record { outstanding = filter p xs; last = last })
  kept_filter p = record {
    few = (let le = fewer_or_same p xs in let few = kept.few in omega arith);
    slots = All-filter p (λ r. r.order.slot < MAX_REQUESTS) xs kept.slots;
    rising = rising_filter p 0 last xs kept.rising;
    numbers = kept.numbers;
    right = All-filter p IsRight xs kept.right;
  }

-- The request that a search found, in another stage.
pub record Staged (xs : List Request) (last : ℕ) (p : Request → Bool) (at : ℕ) (item new : Request) (stage : Stage) : Type 0 where
  pub there : find p xs ≡ Some item
  pub passes : p item ≡ true
  pub place : slice_get xs at ≡ Some item
  pub kept : AreKept (record { outstanding = set xs at new; last = last })
  pub changed : set xs at new ≡ map (in_stage (number_of item) stage) xs

abbrev pub IsAt : (Request → Bool) → List Request → ℕ → Type 0
IsAt p bs at = (r : Request) × (slice_get bs at ≡ Some r) × (find p bs ≡ Some r)

pub same_item : (p : Request → Bool) (xs bs : List Request) (at : ℕ) (item : Request) → bs ≡ xs → IsAt p bs at → item ≡ get_or xs at item
    → (slice_get xs at ≡ Some item) × (find p xs ≡ Some item)
same_item p xs bs at item same h is =
    let got : slice_get xs at ≡ Some h.0 = ap (λ ys. slice_get ys at) (sym same) ∙ h.1 in
    let it : h.0 ≡ item = sym (get_or_from_slice_get xs at h.0 item got) ∙ sym is in
    (got ∙ ap Some it, ap (find p) (sym same) ∙ h.2 ∙ ap Some it)

pub staged_there : (xs : List Request) (last : ℕ) → AreKept (record { outstanding = xs; last = last }) → (p : Request → Bool) (bs : List Request) (at : ℕ) (item new : Request) (stage : Stage)
    → bs ≡ xs → IsAt p bs at → item ≡ get_or xs at item → new ≡ staged item stage → IsTrueTo item.order stage → Staged xs last p at item new stage
staged_there xs last kept p bs at item new stage same h is changed right =
    let place = same_item p xs bs at item same h is in
    record {
      there = place.1;
      passes = found_passes p xs item place.1;
      place = place.0;
      kept = rw changed (kept_stage xs last kept at item stage place.0 right);
      changed = rw changed (set_stage stage 0 last xs at item kept.rising place.0);
    }

pub record Removed (xs : List Request) (last : ℕ) (p : Request → Bool) (at : ℕ) (item : Request) : Type 0 where
  pub there : find p xs ≡ Some item
  pub passes : p item ≡ true
  pub removed : remove xs at ≡ filter (λ r. not (has_number (number_of item) r)) xs
  pub kept : AreKept (record { outstanding = remove xs at; last = last })
  pub right : IsRight item

pub removed_there : (xs : List Request) (last : ℕ) → AreKept (record { outstanding = xs; last = last }) → (p : Request → Bool) (bs : List Request) (at : ℕ) (item : Request)
    → bs ≡ xs → IsAt p bs at → item ≡ get_or xs at item → Removed xs last p at item
removed_there xs last kept p bs at item same h is =
    let place = same_item p xs bs at item same h is in
    let is_filter = remove_is 0 last xs at item kept.rising place.0 in
    record {
      there = place.1;
      passes = found_passes p xs item place.1;
      removed = is_filter;
      kept = rw is_filter (kept_filter xs last kept (λ r. not (has_number (number_of item) r)));
      right = at_all IsRight xs at item kept.right place.0;
    }

-- what a callback may read of a request is as short as a reply
short_end : (end : WorkEnd) → IsShortEnd end → length (end_completion end).bytes ≤ MAX_BYTES
short_end (Done value bytes) h = h
short_end _ h = omega arith

pub short_completion : ((o : WorkOrder) (end : WorkEnd) → ∥ IsEndOf o end ∥₁ → IsShortEnd end) → (o : WorkOrder) (stage : Stage) (t : Completion)
    → IsTrueTo o stage → completion_of stage ≡ Some t → length t.bytes ≤ MAX_BYTES
short_completion short o (Answered end) t right h = let is : end_completion end ≡ t = cc in rw is at (short_end end (short o end right))
short_completion short o Cancelled t right h = let is : cancellation ≡ t = cc in rw (sym is) (omega arith)
short_completion short o _ t right h = absurd (cc)

-- a filter leaves something exactly where something passes
pub any_filtered : {X : Type 0} (p : X → Bool) (xs : List X) → not (is_empty (filter p xs)) ≡ list_any p xs
any_filtered p [] = refl
any_filtered p (x ∷ xs) =
    elim (p x) as (λ b. not (is_empty (cond b (x ∷ filter p xs) (filter p xs))) ≡ (b || list_any p xs)) [
      | true ↦ ap not (eqb-suc-zero (length (filter p xs)))
      | false ↦ any_filtered p xs
    ]
