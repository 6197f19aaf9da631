-- No call of a loop's owner takes away what the loop has listed.
use Rattle.phases.proofs.Words.{Answered, answered, ap, AreKept, begun, Calls, CancelIn, Cancelled, cases_eq, cond, Ended, eqb-true, Failed, false, find}
use Rattle.phases.proofs.Words.{finished, Grows, HandedOut, handing, has_number, in_stage, inl, inr, is_open_stage, is_settled, List, lowest_open, map, next_in}
use Rattle.phases.proofs.Words.{next_of, next_order_of, None, Open, Option, Over, refl, Request, Requests, Running, Some, Stage, State, Status, subst, sym}
use Rattle.phases.proofs.Words.{true, with_requests, WorkEnd, WorkOrder, ℕ, [], ◌∙◌, ◌∷◌, ◌≡◌, ◌≢◌}
use Rattle.std.proofs.lemmas.List.Folds.{find_at}
use Rattle.std.specs.List.{position_or_len}
use Rattle.phases.specs.Outside.{after_clock}
use Rattle.phases.proofs.RequestsRise.{number_of, found_passes, at_all}
use Rattle.phases.proofs.PhaseListsAreReady.{found_by_number, IsFoundIn}
use Rattle.phases.proofs.CancelFates.{CancelMoves, wins, leaves, moves_of}
use Rattle.phases.proofs.GuestCallsKeepListed.{IsSettledOne, Settles, picked, settles_stage, settles_same, grows_same, grows_refl, grows_requests}

pub grows_clock : (s : State) (ms : ℕ) → Grows s (after_clock s ms)
grows_clock s ms = grows_same s (after_clock s ms) refl refl refl refl

pub grows_begun : (s : State) (reply : Option (List ℕ)) → Grows s (begun s reply)
grows_begun s reply = grows_same s (begun s reply) refl refl refl refl

pub grows_finished : (s : State) (ended : Ended) → Grows s (finished s ended)
grows_finished s ended = grows_same s (finished s ended) refl refl refl refl

-- a reply is taken
pub grows_answered : (s : State) (o : WorkOrder) (end : WorkEnd) → Grows s (with_requests s (answered s.requests o end))
grows_answered s o end = grows_requests s (answered s.requests o end) (settles_stage s.requests o.request (Answered end) refl)

-- an order is handed out
module _ (number : ℕ) (stage : Stage) (n : ℕ) (apart : number ≢ n) where
  found_other : (xs : List Request) → IsSettledOne (find (has_number n) xs) → IsSettledOne (find (has_number n) (map (in_stage number stage) xs))
  found_other [] h = h
  found_other (x ∷ xs) h =
      let staged : Request = record x { stage = stage } in
      let rest = find (has_number n) (map (in_stage number stage) xs) in
      elim (has_number number x) as (λ b. has_number number x ≡ b → IsSettledOne (find (has_number n) (cond b staged x ∷ map (in_stage number stage) xs))) [
        | true ↦ λ e. picked (has_number n x) x staged (find (has_number n) xs) rest
            (λ same _. absurd (apart (sym (eqb-true x.order.request number e) ∙ eqb-true x.order.request n same))) (found_other xs) h
        | false ↦ λ _. picked (has_number n x) x x (find (has_number n) xs) rest (λ _ e. e) (found_other xs) h
      ] refl

open_unsettled : (stage : Stage) → is_open_stage stage ≡ true → is_settled stage ≡ true → ⊥
open_unsettled Open h k = absurd (cc)
open_unsettled _ h k = absurd (cc)

module _ (rs : Requests) (kept : AreKept rs) where
  found_here : (r : Request) → lowest_open rs ≡ Some r → IsFoundIn rs.outstanding r
  found_here r is =
      at_all (IsFoundIn rs.outstanding) rs.outstanding (position_or_len (λ x. is_open_stage x.stage) rs.outstanding) r
      (found_by_number 0 rs.last rs.outstanding kept.rising)
      (sym (find_at (λ x. is_open_stage x.stage) rs.outstanding) ∙ is)

  settles_handing : (o : Option Request) → lowest_open rs ≡ o → Settles rs (handing rs o).1
  settles_handing None is n h = h
  settles_handing (Some r) is n h = elim (cases_eq (number_of r) n) [
    | inl here ↦
        let it : IsSettledOne (Some r) = subst IsSettledOne (ap (λ k. find (has_number k) rs.outstanding) (sym here) ∙ found_here r is) h in
        absurd (open_unsettled r.stage (found_passes (λ x. is_open_stage x.stage) rs.outstanding r is) it)
    | inr apart ↦ found_other (number_of r) HandedOut n apart rs.outstanding h
  ]

next_grows : (status : Status) (s : State) → AreKept s.requests → Grows s (next_in status s).1
next_grows Failed s kept = grows_refl s
next_grows Running s kept = grows_requests s (next_of s.requests).1 (settles_handing s.requests kept (lowest_open s.requests) refl)
next_grows Over s kept = grows_requests s (next_of s.requests).1 (settles_handing s.requests kept (lowest_open s.requests) refl)

pub grows_next : (s : State) → AreKept s.requests → Grows s (next_order_of s).1
grows_next s kept = next_grows s.status s kept

-- a request is cancelled
module _ {S : Type 0} (calls : Calls S) where
  settles_cancel : (old : Requests × S) (number answer : ℕ) (new : Requests × S) → CancelMoves calls old number answer new → Settles old.0 new.0
  settles_cancel old number answer new (wins q found won e at) = subst (Settles old.0) (sym e) (settles_stage old.0 number Cancelled refl)
  settles_cancel old number answer new (leaves refused e beside) = settles_same old.0 new.0 e

  cancelled : (old : State × S) (number answer : ℕ) (new : State × S) → CancelIn calls Running old number answer new → Grows old.0 new.0
  cancelled old number answer new h =
      let moves = moves_of calls (old.0.requests, old.1) number answer (h.0, new.1) h.1 in
      subst (Grows old.0) (sym h.2) (grows_requests old.0 h.0 (settles_cancel (old.0.requests, old.1) number answer (h.0, new.1) moves))

  pub grows_cancel : (status : Status) (old : State × S) (number answer : ℕ) (new : State × S) → CancelIn calls status old number answer new → Grows old.0 new.0
  grows_cancel Failed old number answer new h = subst (Grows old.0) (sym (ap (λ p. p.0) h.1)) (grows_refl old.0)
  grows_cancel Running old number answer new h = cancelled old number answer new h
  grows_cancel Over old number answer new h = cancelled old number answer new h
