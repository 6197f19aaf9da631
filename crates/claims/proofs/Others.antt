-- Each step keeps the rule: loops that aren't there open nothing.
use Rattle.std.proofs.Common.{◌≡◌, Bool, cond, ℕ, ◌+◌, ◌*◌, ◌<◌, ◌≤◌, List, [], ◌∷◌, ◌++◌, set, get_or, All, replicate, refl, sym, ap, ◌∙◌, arith}
use Rattle.std.proofs.Math.Nat.{lt_of_not-le}
use mathlib.Core.Option.{some}
use lib.ListN.{get_elem?}
use Rattle.limits.specs.declared.TheConstants.{MAX_REQUESTS, MAX_LOOPS}
use Rattle.tallies.specs.Requests.{last_in}
use Rattle.tallies.proofs.Lists.{part_set, part_push, set_apart}
use Rattle.claims.specs.declared.rule.SeatView.{SeatView}
use Rattle.claims.specs.Rule.{IsWorker, IsCrew, with_worker, with_crew, without_crew, without_workers, crew_of, workers_of, spent_view, seat_of, making_seat, place, of_loop, WordsAreKept, IsClaimed}
use Rattle.claims.specs.Inner.Steps.{with_opened}
use Rattle.claims.proofs.Moves.{begins, hit, no_list, own, opens, makes_seat, joins_worker, joins_crew, gives_back, gives_up}

no_last : (views : List SeatView) (l slot : ℕ) → (of_loop views l).opened ≡ [] → last_in slot (of_loop views l).opened ≡ 0
no_last views l slot none = ap (λ cs. last_in slot cs) none

-- a loop whose request can be started is there
pub hit_there : {loops : ℕ} {words : List ℕ} {views : List SeatView} → IsClaimed loops words views → (l slot r : ℕ) → l < MAX_LOOPS → slot < MAX_REQUESTS
    → get_or words (place l slot) 0 ≡ 4 * r + 1 → l < loops
hit_there {loops} {words} {views} claimed l slot r real low found =
    let facts = hit claimed.kept l slot r 1 real low (omega arith) (omega arith) found in
    let last = facts.last in
    let above = facts.above in
    lt_of_not-le (λ (far : loops ≤ l). let none = no_last views l slot (claimed.others l far) in omega arith)

module _ {loops : ℕ} {words : List ℕ} {views : List SeatView} (claimed : IsClaimed loops words views) (id : ℕ) (v : SeatView) (at : get_elem? views id ≡ some v) where
  -- a step after which the seat has opened no more
  pub still_claimed : {ws : List ℕ} (w : SeatView) → w.opened ≡ v.opened → WordsAreKept MAX_LOOPS ws (set views id w) → IsClaimed loops ws (set views id w)
  still_claimed w same kept = record { kept = kept; others = λ l far. part_set (λ u. u.opened) views id (l + 1) v w (seat_of 0) at same ∙ claimed.others l far }

  pub opens_claimed : (l slot r : ℕ) (is_posting : Bool) → v.number ≡ l + 1 → l < loops → l < MAX_LOOPS → slot < MAX_REQUESTS → 0 < r → All (λ c. c.1 < r) v.opened
      → IsClaimed loops (set words (place l slot) (4 * r + cond is_posting 0 1)) (set views id (with_opened is_posting v (slot, r)))
  opens_claimed l slot r is_posting number there real low above rising =
      record {
        kept = opens claimed.kept id v at l slot r is_posting number real low above rising;
        others =
            λ m far.
            let here = own claimed.kept id v at l number in
            ap (λ (u : SeatView). u.opened) (set_apart views id (m + 1) (with_opened is_posting v (slot, r)) (seat_of 0) (λ e. omega arith)) ∙ claimed.others m far;
      }

  pub makes_claimed : (share hired : ℕ) → 0 < v.made → hired ≡ v.hired + share
      → IsClaimed loops words (set views id (record v { made = v.made + 1; hired = hired }) ++ record (seat_of v.made) { share = share } ∷ [])
  makes_claimed share hired some_made counts =
      let maker : SeatView = record v { made = v.made + 1; hired = hired } in
      record {
        kept = makes_seat claimed.kept id v at share hired some_made counts;
        others =
            λ l far.
            part_push (λ u. u.opened) (set views id maker) (record (seat_of v.made) { share = share }) (seat_of 0) (l + 1) refl
            ∙ part_set (λ u. u.opened) views id (l + 1) v maker (seat_of 0) at refl ∙ claimed.others l far;
      }

  pub joins_claimed : (other : ℕ) (o : SeatView) → ¬ (other ≡ id) → get_elem? (set views id (with_worker v o)) other ≡ some o → IsWorker o
      → IsClaimed loops words (set (set views id (with_worker v o)) other spent_view)
  joins_claimed other o apart there idle =
      record {
        kept = joins_worker claimed.kept id v at other o apart there idle;
        others =
            λ l far.
            part_set (λ u. u.opened) (set views id (with_worker v o)) other (l + 1) o spent_view (seat_of 0) there (sym idle.opened)
            ∙ part_set (λ u. u.opened) views id (l + 1) v (with_worker v o) (seat_of 0) at refl ∙ claimed.others l far;
      }

  pub joins_all_claimed : (other : ℕ) (o : SeatView) → ¬ (other ≡ id) → get_elem? (set views id (with_crew v o)) other ≡ some o → IsCrew o
      → IsClaimed loops words (set (set views id (with_crew v o)) other spent_view)
  joins_all_claimed other o apart there idle =
      record {
        kept = joins_crew claimed.kept id v at other o apart there idle;
        others =
            λ l far.
            part_set (λ u. u.opened) (set views id (with_crew v o)) other (l + 1) o spent_view (seat_of 0) there (sym idle.opened)
            ∙ part_set (λ u. u.opened) views id (l + 1) v (with_crew v o) (seat_of 0) at refl ∙ claimed.others l far;
      }

  pub gives_back_claimed : 0 < v.made → IsClaimed loops words (set views id (without_crew v) ++ crew_of v ∷ [])
  gives_back_claimed some_made =
      record {
        kept = gives_back claimed.kept id v at some_made;
        others =
            λ l far.
            part_push (λ u. u.opened) (set views id (without_crew v)) (crew_of v) (seat_of 0) (l + 1) refl
            ∙ part_set (λ u. u.opened) views id (l + 1) v (without_crew v) (seat_of 0) at refl ∙ claimed.others l far;
      }

  pub gives_up_claimed : 0 < v.made → IsClaimed loops words (set views id (without_workers v) ++ workers_of v ∷ [])
  gives_up_claimed some_made =
      record {
        kept = gives_up claimed.kept id v at some_made;
        others =
            λ l far.
            part_push (λ u. u.opened) (set views id (without_workers v)) (workers_of v) (seat_of 0) (l + 1) refl
            ∙ part_set (λ u. u.opened) views id (l + 1) v (without_workers v) (seat_of 0) at refl ∙ claimed.others l far;
      }

-- the words at first
pub begins_claimed : (loops : ℕ) → IsClaimed loops (replicate (MAX_LOOPS * MAX_REQUESTS) 0) (making_seat 1 1 ∷ [])
begins_claimed loops = record { kept = begins MAX_LOOPS; others = λ l far. no_list (λ u. u.opened) refl l }
