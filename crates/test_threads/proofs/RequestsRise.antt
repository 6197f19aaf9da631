-- A loop's requests, which rise.
use Rattle.std.proofs.Common.{ℕ, zero, suc, ◌+◌, ◌<◌, List, [], ◌∷◌, ◌++◌, All, arith}
use Rattle.std.proofs.lemmas.List.Elements.{All-append}

only_last : (slot r : ℕ) → All (λ (c : ℕ × ℕ). c.1 < r + 1) ((slot, r) ∷ [])
only_last slot r zero d below = omega arith
only_last slot r (suc k) d below = absurd (omega arith)

-- once a request is opened that is above all before it, all are below the next number
pub below_next : (slot r : ℕ) (cs : List (ℕ × ℕ)) → All (λ (c : ℕ × ℕ). c.1 < r) cs → All (λ (c : ℕ × ℕ). c.1 < r + 1) (cs ++ (slot, r) ∷ [])
below_next slot r cs a =
    All-append (λ (c : ℕ × ℕ). c.1 < r + 1) cs ((slot, r) ∷ []) (λ k d below. let h = a k d below in omega arith) (only_last slot r)
