-- How a cancel of a request goes, a guest's or the owner's.
use Rattle.phases.proofs.Words.{ap, Bool, BUSY, Calls, CancelIn, Cancelled, CancelState, cond, Failed, false, INVALID, None, NOT_HERE, Option, Over, Pending}
use Rattle.phases.proofs.Words.{refl, Request, request_of, Requests, Running, Some, State, Status, sym, true, Unknown, with_stage, ℕ, ◌==◌, ◌∙◌, ◌≡◌, ◌≢◌}
use Rattle.std.proofs.Common.{ℤ, negsuc}
use Rattle.std.specs.Prelude.{pos}
use Rattle.std.specs.Int.{w32, cast_signed}
use Rattle.phases.specs.declared.stage.CancelState.TheVariants as cancel_state
use Rattle.phases.specs.Host.{Cancels, CancelsFrom, cancel_state_of, request_cancel_state}
use Rattle.phases.proofs.FoundCancels.{in_slot}

-- an answer other than 0, read as unsigned and as signed
pub record IsRefusal (answer : ℕ) : Type 0 where
  pub unsigned : answer ≢ 0
  pub signed : cast_signed w32 answer ≢ pos 0

abbrev is_zero : ℤ → Bool
is_zero (pos n) = n == 0
is_zero (negsuc n) = false

refusal : (answer code : ℕ) → answer ≡ code → (code == 0) ≡ false → is_zero (cast_signed w32 code) ≡ false → IsRefusal answer
refusal answer code e unsigned signed = record {
  unsigned = λ z. (let it : (code == 0) ≡ true = ap (λ n. n == 0) (sym e ∙ z) in cc);
  signed = λ z. (let it : is_zero (cast_signed w32 code) ≡ true = ap (λ n. is_zero (cast_signed w32 n)) (sym e) ∙ ap is_zero z in cc);
}

-- how a cancel of a request went
pub data CancelFate (rs : Requests) (n answer : ℕ) (rs' : Requests) : Type 0 where
  cancelled : (q : Request) → request_of rs n ≡ Some q → answer ≡ 0 → rs' ≡ with_stage rs n Cancelled → CancelFate rs n answer rs'
  stayed : IsRefusal answer → rs' ≡ rs → CancelFate rs n answer rs'

-- what a loop may do to the shared object, or others to what it shares, that opens no request and cancels none
pub data IsBeside {S : Type 0} (calls : Calls S) (s s' : S) : Type 0 where
  unmoved : s' ≡ s → IsBeside calls s s'
  tried : (slot n : ℕ) → calls.cancels s slot n false s' → IsBeside calls s s'
  sent : (async_no : ℕ) (ok : Bool) → calls.sends s async_no ok s' → IsBeside calls s s'
  took : (async_no count : ℕ) → calls.takes s async_no count s' → IsBeside calls s s'

-- how a cancel of a request went at the shared object too
pub data CancelMoves {S : Type 0} (calls : Calls S) (old : Requests × S) (n answer : ℕ) (new : Requests × S) : Type 0 where
  wins : (q : Request) → request_of old.0 n ≡ Some q → answer ≡ 0 → new.0 ≡ with_stage old.0 n Cancelled → calls.cancels old.1 q.order.slot n true new.1 → CancelMoves calls old n answer new
  leaves : IsRefusal answer → new.0 ≡ old.0 → IsBeside calls old.1 new.1 → CancelMoves calls old n answer new

module _ {S : Type 0} (calls : Calls S) where
  pub fate : (old : Requests × S) (n answer : ℕ) (new : Requests × S) → CancelMoves calls old n answer new → CancelFate old.0 n answer new.0
  fate old n answer new (wins q found zeroed is at) = cancelled q found zeroed is
  fate old n answer new (leaves refused is beside) = stayed refused is

  moves_at : (st : CancelState) (old : Requests × S) (n answer : ℕ) (new : Requests × S) → cancel_state_of old.0 n ≡ st
      → CancelsFrom calls st old n answer new → CancelMoves calls old n answer new
  moves_at Unknown old n answer new is h = leaves (refusal answer INVALID h.0 refl refl) (ap (λ p. p.0) h.1) (unmoved (ap (λ p. p.1) h.1))
  moves_at cancel_state.Answered old n answer new is h = leaves (refusal answer BUSY h.0 refl refl) (ap (λ p. p.0) h.1) (unmoved (ap (λ p. p.1) h.1))
  moves_at (Pending slot) old n answer new is h = won h.0 h.1 h.2 h.3 where
    there : (o : Option Request) → request_of old.0 n ≡ o → (q : Request) × (request_of old.0 n ≡ Some q) × (slot ≡ q.order.slot)
    there None e = absurd (let it : request_cancel_state (request_of old.0 n) ≡ Unknown = ap request_cancel_state e in cc)
    there (Some q) e = (q, e, in_slot q slot q.stage (sym (ap request_cancel_state e) ∙ is))

    won : (b : Bool) → calls.cancels old.1 slot n b new.1 → answer ≡ cond b 0 BUSY → new.0 ≡ cond b (with_stage old.0 n Cancelled) old.0 → CancelMoves calls old n answer new
    won true at a e = let it = there (request_of old.0 n) refl in wins it.0 it.1 a e (rw it.2 at at)
    won false at a e = leaves (refusal answer BUSY a refl refl) e (tried slot n at)

  pub moves_of : (old : Requests × S) (n answer : ℕ) (new : Requests × S) → Cancels calls old n answer new → CancelMoves calls old n answer new
  moves_of old n answer new h = moves_at (cancel_state_of old.0 n) old n answer new refl h

  -- of requests by another name
  renamed : (old : Requests × S) (n answer : ℕ) (requests requests' : Requests) (s : S) → requests' ≡ requests
      → CancelMoves calls old n answer (requests, s) → CancelMoves calls old n answer (requests', s)
  renamed old n answer requests requests' s e h = rw e h

  -- the owner's
  pub moves_in : (status : Status) (old : State × S) (n answer : ℕ) (new : State × S) → CancelIn calls status old n answer new
      → CancelMoves calls (old.0.requests, old.1) n answer (new.0.requests, new.1)
  moves_in Failed old n answer new h = leaves (refusal answer NOT_HERE h.0 refl refl) (ap (λ p. p.0.requests) h.1) (unmoved (ap (λ p. p.1) h.1))
  moves_in Running old n answer new h =
      renamed (old.0.requests, old.1) n answer h.0 new.0.requests new.1 (ap (λ s. s.requests) h.2) (moves_of (old.0.requests, old.1) n answer (h.0, new.1) h.1)
  moves_in Over old n answer new h =
      renamed (old.0.requests, old.1) n answer h.0 new.0.requests new.1 (ap (λ s. s.requests) h.2) (moves_of (old.0.requests, old.1) n answer (h.0, new.1) h.1)

  pub fate_in : (status : Status) (old : State × S) (n answer : ℕ) (new : State × S) → CancelIn calls status old n answer new → CancelFate old.0.requests n answer new.0.requests
  fate_in status old n answer new h = fate (old.0.requests, old.1) n answer (new.0.requests, new.1) (moves_in status old n answer new h)
