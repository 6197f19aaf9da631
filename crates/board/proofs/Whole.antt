-- What the pass to which all others were joined learns.
use Rattle.board.proofs.Words.{AllGiven, ap, arith, Bool, count_by, get_elem?, get_or_here, given_by, given_count, HandView, IsGiven, IsInOrder, IsLive}
use Rattle.board.proofs.Words.{IsWhole, length, length-map, LineIsKept, LineKnowledge, List, maker_of, MakerView, map, Named, nat_lt, nat_tests, pass_of}
use Rattle.board.proofs.Words.{PassKnowledge, refl, some, some-injective, some-ne-none, subst, suc, sym, taken_count, taken_times, times_named, unit_if, zero}
use Rattle.board.proofs.Words.{ℕ, [], ◌+◌, ◌<◌, ◌∙◌, ◌∷◌, ◌≡◌, ◌≤◌}
use Rattle.std.proofs.Common.{sum_by, slice_index_or}
use Rattle.std.proofs.lemmas.List.Sums.{sum_by-cons}
use Rattle.atomic_table.specs.Seated.{TableId}
use Rattle.crossbeam_queue.specs.Fifo.{Learns}
use Rattle.board.specs.Views.{HasAll, hand_with, Counts}
use Rattle.board.proofs.Moves.{place, done}

same_list : {A : Type 0} (l m : List A) → length l ≡ length m → ((i : ℕ) (a : A) → get_elem? m i ≡ some a → get_elem? l i ≡ some a) → l ≡ m
same_list [] [] s h = refl
same_list [] (y ∷ m) s h = absurd (omega arith)
same_list (x ∷ l) [] s h = absurd (omega arith)
same_list (x ∷ l) (y ∷ m) s h = ap (λ a. a ∷ l) (some-injective x y (h 0 y refl)) ∙ ap (λ r. y ∷ r) (same_list l m (omega arith) (λ n a e. h (suc n) a e))

map_at : {A B : Type 0} (f : A → B) (l : List A) (i : ℕ) (b : B) → get_elem? (map f l) i ≡ some b → (a : A) × (get_elem? l i ≡ some a) × (f a ≡ b)
map_at f [] i b e = absurd (some-ne-none b (sym e))
map_at f (x ∷ l) zero b e = (x, refl, some-injective (f x) b e)
map_at f (x ∷ l) (suc i) b e = map_at f l i b e

at_map : {A B : Type 0} (f : A → B) (l : List A) (i : ℕ) (a : A) → get_elem? l i ≡ some a → get_elem? (map f l) i ≡ some (f a)
at_map f [] i a e = absurd (some-ne-none a (sym e))
at_map f (x ∷ l) zero a e = ap (λ y. some (f y)) (some-injective x a e)
at_map f (x ∷ l) (suc i) a e = at_map f l i a e

sum_map : {A B : Type 0} (F : B → ℕ) (f : A → B) (l : List A) → sum_by F (map f l) ≡ sum_by (λ x. F (f x)) l
sum_map F f [] = refl
sum_map F f (x ∷ l) =
    let a : sum_by F (f x ∷ map f l) ≡ F (f x) + sum_by F (map f l) = sum_by-cons F (f x) (map f l) in
    let b : sum_by (λ y. F (f y)) (x ∷ l) ≡ F (f x) + sum_by (λ y. F (f y)) l = sum_by-cons (λ y. F (f y)) x l in
    let c = sum_map F f l in
    omega arith

one_at_most : (o n : ℕ) → unit_if (nat_lt o n) ≤ 1
one_at_most o n = grind (arith, nat_tests)

module _ {T : Type 0} where
  one_given : (views : List (PassKnowledge T)) (xs : List (Named T)) (k : ℕ) (n : Named T) → AllGiven views xs → get_elem? xs k ≡ some n → IsGiven views n
  one_given views [] k n g e = absurd (some-ne-none n (sym e))
  one_given views (x ∷ xs) zero n g e = subst (IsGiven views) (some-injective x n e) g.0
  one_given views (x ∷ xs) (suc k) n g e = one_given views xs k n g.1 e

  there : (us : List (PassKnowledge T)) (p o : ℕ) (x : T) → get_elem? (slice_index_or us p (pass_of 0)).given o ≡ some x
      → (g : PassKnowledge T) × (get_elem? us p ≡ some g) × (get_elem? g.given o ≡ some x)
  there [] p o x e = absurd (some-ne-none x (sym e))
  there (u ∷ us) zero o x e = (u, refl, e)
  there (u ∷ us) (suc p) o x e = there us p o x e

  giver : (m : PassKnowledge T) (us : List (PassKnowledge T)) → m.given ≡ [] → (p o : ℕ) (x : T) → get_elem? (given_by (m ∷ us) p) o ≡ some x
      → (g : PassKnowledge T) × (j : ℕ) × (p ≡ j + 1) × (get_elem? us j ≡ some g) × (get_elem? g.given o ≡ some x)
  giver m us none zero o x e = absurd (some-ne-none x (sym (rw none at e)))
  giver m us none (suc p) o x e = let t = there us p o x e in (t.0, p, omega arith, t.1, t.2)

  -- of all passes but the maker
  whole : (queued : List (Named T)) (items : List T) (m : PassKnowledge T) (us : List (PassKnowledge T)) → m.given ≡ [] → m.taken ≡ [] → IsInOrder queued (m ∷ us)
      → ((f : T → Bool) → taken_count f (m ∷ us) + count_by f items ≡ given_count f (m ∷ us)) → (line : TableId) → IsWhole (map (hand_with line) us)
  whole queued items m us nothing none K balanced line =
      record {
        given =
            λ k i h n at taken.
            let u = map_at (hand_with line) us k h at in
            let mine : get_elem? u.0.taken i ≡ some n = rw (sym u.2) at taken in
            let is = one_given (m ∷ us) u.0.taken i n (K.taken_given (suc k) u.0 u.1) mine in
            let g = giver m us nothing n.pass n.ordinal n.item is in
            (hand_with line g.0, g.1, g.2, at_map (hand_with line) us g.1 g.0 g.3, g.4);
        once =
            λ p o.
            let F : PassKnowledge T → ℕ = λ v. times_named p o v.taken in
            let all : sum_by (λ (h : HandView T). times_named p o h.taken) (map (hand_with line) us) ≡ sum_by F us = sum_map (λ (h : HandView T). times_named p o h.taken) (hand_with line) us in
            let front : taken_times (m ∷ us) p o ≡ F m + sum_by F us = sum_by-cons F m us in
            let known : times_named p o queued + taken_times (m ∷ us) p o ≡ unit_if (nat_lt o (length (given_by (m ∷ us) p))) = K.once p o in
            let most = one_at_most o (length (given_by (m ∷ us) p)) in
            omega arith;
        no_more =
            λ f.
            let F : PassKnowledge T → ℕ = λ v. count_by f v.given in
            let G : PassKnowledge T → ℕ = λ v. count_by (λ n. f n.item) v.taken in
            let gave : sum_by (λ (h : HandView T). count_by f h.given) (map (hand_with line) us) ≡ sum_by F us = sum_map (λ (h : HandView T). count_by f h.given) (hand_with line) us in
            let took : sum_by (λ (h : HandView T). count_by (λ n. f n.item) h.taken) (map (hand_with line) us) ≡ sum_by G us =
            sum_map (λ (h : HandView T). count_by (λ n. f n.item) h.taken) (hand_with line) us in
            let a : given_count f (m ∷ us) ≡ F m + sum_by F us = sum_by-cons F m us in
            let b : taken_count f (m ∷ us) ≡ G m + sum_by G us = sum_by-cons G m us in
            let zero_given : F m ≡ 0 = ap (count_by f) nothing in
            let known = balanced f in
            omega arith;
      }

-- as contracts see it
pub all_counted : {T : Type 0} (line : TableId) (key next : ℕ) (us : List (PassKnowledge T)) (g : MakerView T) → record { line = line; key = key; next = next; hands = map (hand_with line) us } ≡ g → HasAll g
    → (next ≡ length us + 1) × ((i : ℕ) (u : PassKnowledge T) → get_elem? us i ≡ some u → u.number ≡ i + 1)
all_counted line key next us g is all =
    let same : next ≡ g.next = ap (λ (x : MakerView _). x.next) is in
    let hands : map (hand_with line) us ≡ g.hands = ap (λ (x : MakerView _). x.hands) is in
    let size : length us ≡ length g.hands = sym (length-map us (hand_with line)) ∙ ap length hands in
    let count = all.count in (
      omega arith,
      λ i u e. all.numbered i (hand_with line u) (rw hands at (at_map (hand_with line) us i u e)),
    )

-- the pass that made all others and took them in
module _ {T : Type 0} (fits : ℕ → T → Type 0) where
  pub counts : (id : ℕ) (v : LineKnowledge T) → v.own ≡ record (maker_of v.own.made) { key = v.own.key } → 0 < v.own.made → v.own.made ≡ length v.joined + 1
      → ((i : ℕ) (u : PassKnowledge T) → get_elem? v.joined i ≡ some u → u.number ≡ i + 1) → Learns (LineIsKept fits) id v (Counts v)
  counts id v is some_made count numbered items views K at line =
      let live : IsLive v = omega arith in
      let here = place fits items views K id v at live in
      let own = done fits items views K id v at live in
      let first : here.0 ≡ 0 = sym (K.in_order.numbered here.0 v.own own) ∙ ap (λ (u : PassKnowledge T). u.number) is in
      let maker : get_elem? K.passes 0 ≡ some v.own = rw first at own in
      let made : v.own.made ≡ length K.passes = ap (λ (u : PassKnowledge T). u.made) (sym (get_or_here K.passes 0 v.own (pass_of 0) maker)) ∙ K.in_order.made in
      let each : (i : ℕ) (u : PassKnowledge T) → get_elem? (v.own ∷ v.joined) i ≡ some u → get_elem? K.passes i ≡ some u =
      each_of K.passes v.own v.joined maker
      (λ i u e. subst (λ n. get_elem? K.passes n ≡ some u) (let n = numbered i u e in omega arith) (K.is_known.joined here.0 v here.1 i u e).done) in
      let all : K.passes ≡ v.own ∷ v.joined = same_list K.passes (v.own ∷ v.joined) (omega arith) each in
      whole K.queued items v.own v.joined (ap (λ (u : PassKnowledge T). u.given) is) (ap (λ (u : PassKnowledge T). u.taken) is) (subst (IsInOrder K.queued) all K.in_order)
      (λ f. rw all at (K.balanced f)) line
    where
      each_of : (passes : List (PassKnowledge T)) (m : PassKnowledge T) (us : List (PassKnowledge T)) → get_elem? passes 0 ≡ some m
          → ((i : ℕ) (u : PassKnowledge T) → get_elem? us i ≡ some u → get_elem? passes (suc i) ≡ some u) → (i : ℕ) (u : PassKnowledge T) → get_elem? (m ∷ us) i ≡ some u
          → get_elem? passes i ≡ some u
      each_of passes m us at rest zero u e = at ∙ e
      each_of passes m us at rest (suc i) u e = rest i u e
