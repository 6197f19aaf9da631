-- The lowest open request, in order of numbers that rise.
use Rattle.phases.proofs.Words.{ap, AreKept, AreRising, arith, Bool, cond, false, find, get_or, handing, IfSome, is_open_stage, List, lowest_open, map, next_of}
use Rattle.phases.proofs.Words.{None, Option, option_map, Order, order_of, refl, Request, Requests, slice_get, slice_get-get_or, Some, suc, sym, true, zero, ℕ}
use Rattle.phases.proofs.Words.{[], ◌<◌, ◌∙◌, ◌∷◌, ◌≡◌, ◌≤◌}
use Rattle.phases.specs.Requests.{IsLowestOpen}
use Rattle.phases.proofs.RequestsRise.{number_of, within}

module _ (p : Request → Bool) where
  -- the first is the lowest
  first_is_lowest : (low high : ℕ) (xs : List Request) (q : Request) (at : ℕ) (r : Request) → AreRising low (map number_of xs) high → find p xs ≡ Some q → slice_get xs at ≡ Some r → p r ≡ true
      → number_of q ≤ number_of r
  first_is_lowest low high [] q at r rising found here holds = absurd (cc)
  first_is_lowest low high (x ∷ xs) q zero r rising found here holds =
      let same : x ≡ r = cc in
      let passes : p x ≡ true = ap p same ∙ holds in
      let first : Some x ≡ Some q = rw passes at found in
      let is : q ≡ r = cc in
      rw (sym is) (omega arith)
  first_is_lowest low high (x ∷ xs) q (suc at) r rising found here holds =
      elim (p x) as (λ b. cond b (Some x) (find p xs) ≡ Some q → number_of q ≤ number_of r) [
        | true ↦ λ k. (
            let same : x ≡ q = cc in
            let above : number_of x < number_of r = within (number_of x) high xs at r rising.1 here in
            rw (sym same) (omega arith)
            )
        | false ↦ λ k. first_is_lowest (number_of x) high xs q at r rising.1 k here holds
      ] found

is_lowest : (rs : Requests) → AreKept rs → (q : Request) → lowest_open rs ≡ Some q → IsLowestOpen q.order.request rs
is_lowest rs kept q found k d below opens =
    first_is_lowest (λ r. is_open_stage r.stage) 0 rs.last rs.outstanding q k (get_or rs.outstanding k d) kept.rising found (slice_get-get_or rs.outstanding k d below) opens

-- what holds of that number holds of the order that is handed out
of_next : (rs : Requests) (P : ℕ → Type 0) → ((q : Request) → lowest_open rs ≡ Some q → P q.order.request) → (o : Option Order)
    → option_map order_of o ≡ (next_of rs).0 → IfSome o (λ x. P x.request)
of_next rs P f o is = by (lowest_open rs) refl o is where
  by : (found : Option Request) → lowest_open rs ≡ found → (o : Option Order) → option_map order_of o ≡ (handing rs found).0 → IfSome o (λ x. P x.request)
  by found e None is = tt
  by None e (Some x) is = absurd (cc)
  by (Some q) e (Some x) is =
      let same : order_of x ≡ q.order = cc in
      rw (ap (λ w. w.request) (sym same)) at (f q e)

pub lowest_next : (rs : Requests) → AreKept rs → (o : Option Order) → option_map order_of o ≡ (next_of rs).0 → IfSome o (λ x. IsLowestOpen x.request rs)
lowest_next rs kept = of_next rs (λ n. IsLowestOpen n rs) (is_lowest rs kept)

-- and it is numbered from 1
found_above : (p : Request → Bool) (low high : ℕ) (xs : List Request) (q : Request) → AreRising low (map number_of xs) high → find p xs ≡ Some q → low < number_of q
found_above p low high [] q rising found = absurd (cc)
found_above p low high (x ∷ xs) q rising found =
    let first = rising.0 in
    elim (p x) as (λ b. cond b (Some x) (find p xs) ≡ Some q → low < number_of q) [
      | true ↦ λ k. (let same : x ≡ q = cc in rw same at first)
      | false ↦ λ k. (let rest = found_above p (number_of x) high xs q rising.1 k in omega arith)
    ] found

pub number_next : (rs : Requests) → AreKept rs → (o : Option Order) → option_map order_of o ≡ (next_of rs).0 → IfSome o (λ x. 0 < x.request)
number_next rs kept = of_next rs (λ n. 0 < n) (λ q e. found_above (λ r. is_open_stage r.stage) 0 rs.last rs.outstanding q kept.rising e)
