-- Where a search that looks at the last first has ended.
use Rattle.handles.proofs.Words.{ap, arith, Equal, get_or, Greater, is_lt, IsNonDecreasingBy, IsPartitionPoint, length, Less, List, Ordering, ordering_index}
use Rattle.handles.proofs.Words.{refl, true, ℕ, ◌+◌, ◌<◌, ◌≡◌, ◌≤◌}
use Rattle.std.specs.List.{HoldsAt}

least : (r : Ordering) → ordering_index r ≤ 0 → r ≡ Less
least Less h = refl
least Equal h = absurd (omega (arith, h))
least Greater h = absurd (omega (arith, h))

pub is_less : (r : Ordering) → is_lt r ≡ true → r ≡ Less
is_less Less h = refl
is_less Equal h = absurd (cc)
is_less Greater h = absurd (cc)

module _ {X : Type 0} (ord : X → Ordering) (xs : List X) (last : ℕ) (is : last + 1 ≡ length xs) (less : HoldsAt (λ y. ord y ≡ Less) xs last)
    (rises : IsNonDecreasingBy (λ y. ordering_index (ord y)) xs) where
  below : (k : ℕ) (d : X) → k < last + 1 → ordering_index (ord (get_or xs k d)) ≤ 0
  below k d high = let r = rises k last d (omega (arith, high)) (omega (arith, is)) in let l = ap ordering_index (less d) in omega (arith, r, l)

  -- what is past the last is past all
  pub past_all : IsPartitionPoint (λ y. ord y ≡ Less) (λ y. ord y ≡ Greater) xs (last + 1)
  past_all = (λ k d low high. least _ (below k d high), λ k d low high. absurd (omega (arith, is, low, high)))
