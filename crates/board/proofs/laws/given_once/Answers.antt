use Rattle.board.proofs.Words.{AllGiven, ap, arith, get_elem?, given_by, is_name, IsBelow, IsGiven, length, List, Named, NamesRise, nat_lt, nat_tests}
use Rattle.board.proofs.Words.{PassKnowledge, some, some-injective, some-ne-none, subst, suc, sym, times_named, unit_if, zero, ℕ, [], ◌&&◌, ◌++◌, ◌<◌, ◌==◌}
use Rattle.board.proofs.Words.{◌∙◌, ◌∷◌, ◌≡◌, ◌≤◌}
use Rattle.std.proofs.Common.{true}
use Rattle.tallies.proofs.Lists.{part_found, count_cons}
use Rattle.tallies.proofs.Requests.{by_test}
use Rattle.board.specs.Laws.{AlwaysInOrder, GivenOnce, NoOther, SameItem, InTurn, TakesRise}
use Rattle.board.proofs.Names.{rises_front}
use Rattle.board.proofs.laws.given_once.Goals as goal

one_below : (o n : ℕ) → o < n → unit_if (nat_lt o n) ≡ 1
one_below o n h = grind (arith, nat_tests)

none_above : (o n : ℕ) → n ≤ o → unit_if (nat_lt o n) ≡ 0
none_above o n h = grind (arith, nat_tests)

is_of : (a b p o : ℕ) → ((a == p) && (b == o)) ≡ true → (a ≡ p) × (b ≡ o)
is_of a b p o e = (grind (arith, nat_tests), grind (arith, nat_tests))

module _ {T : Type 0} where
  one_given : (views : List (PassKnowledge T)) (xs : List (Named T)) (k : ℕ) (n : Named T) → AllGiven views xs → get_elem? xs k ≡ some n → IsGiven views n
  one_given views [] k n g e = absurd (some-ne-none n (sym e))
  one_given views (x ∷ xs) zero n g e = subst (IsGiven views) (some-injective x n e) g.0
  one_given views (x ∷ xs) (suc k) n g e = one_given views xs k n g.1 e

  below_there : (m : Named T) (p q : ℕ) (ys : List (Named T)) → IsBelow m ys → m.pass ≡ p → 0 < times_named p q ys → m.ordinal < q
  below_there m p q [] b e h = absurd (omega arith)
  below_there m p q (y ∷ ys) b e h =
      let front = count_cons (is_name p q) y ys in
      by_test (is_name p q y)
      (λ is. let same = is_of y.pass y.ordinal p q is in let lower = b.0 (same.0 ∙ sym e) in let here = same.1 in omega arith)
      (λ isnt. let none : unit_if (is_name p q y) ≡ 0 = ap unit_if isnt in below_there m p q ys b.1 e (omega arith))

  below_apart : (m : Named T) (p q : ℕ) (xs ys : List (Named T)) → IsBelow m (xs ++ ys) → m.pass ≡ p → 0 < times_named p q ys → m.ordinal < q
  below_apart m p q [] ys b e h = below_there m p q ys b e h
  below_apart m p q (x ∷ xs) ys b e h = below_apart m p q xs ys b.1 e h

  rises_apart : (p o q : ℕ) (xs ys : List (Named T)) → NamesRise (xs ++ ys) → 0 < times_named p o xs → 0 < times_named p q ys → o < q
  rises_apart p o q [] ys r h k = absurd (omega arith)
  rises_apart p o q (x ∷ xs) ys r h k =
      let front = count_cons (is_name p o) x xs in
      by_test (is_name p o x)
      (λ is. let same = is_of x.pass x.ordinal p o is in let lower = below_apart x p q xs ys r.0 same.0 k in let here = same.1 in omega arith)
      (λ isnt. let none : unit_if (is_name p o x) ≡ 0 = ap unit_if isnt in rises_apart p o q xs ys r.1 (omega arith) k)

once : (T : Type 0) → AlwaysInOrder (GivenOnce T)
once T queued views K p o h = K.once p o ∙ one_below o (length (given_by views p)) h

no_other : (T : Type 0) → AlwaysInOrder (NoOther T)
no_other T queued views K p o h = K.once p o ∙ none_above o (length (given_by views p)) h

item : (T : Type 0) → AlwaysInOrder (SameItem T)
item T queued views K =
    record {
      in_line = λ k n e. one_given views queued k n K.queued_given e;
      taken = λ pass k v n at e. one_given views v.taken k n (K.taken_given pass v at) e;
    }

in_turn : (T : Type 0) → AlwaysInOrder (InTurn T)
in_turn T queued views K p o later taken waits =
    let by = part_found (λ (v : PassKnowledge T). times_named p o v.taken) views taken in
    rises_apart p o later by.1.taken queued (K.taken_rises by.0 by.1 by.2) by.3 waits

rise : (T : Type 0) → AlwaysInOrder (TakesRise T)
rise T queued views K = record { in_line = K.queue_rises; taken = λ pass v at. rises_front v.taken queued (K.taken_rises pass v at) }

pub returns : goal.returns
returns g c = record { once = once _; no_other = no_other _; item = item _; in_turn = in_turn _; rise = rise _ }
