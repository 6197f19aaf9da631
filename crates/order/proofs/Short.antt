-- The bytes of a reply are as many as may be set at most.
use Rattle.order.proofs.Words.{arith, Call, Computes, EndsAs, HostCall, I32, InCopy, InLen, Lawful, List, None, Option, OutSet, refl, Returned, RunEnd, Some}
use Rattle.order.proofs.Words.{StartRun, Store, Value, WorkEnd, WorkOrder, ℕ, [], ◌+◌, ◌∷◌, ◌≡◌}
use Rattle.std.proofs.Common.{◌≤◌, true, false, cond, length, drop}
use Rattle.std.specs.Prelude.{nat_lt}
use Rattle.std.specs.Coded.{le_prop}
use Rattle.std.proofs.Math.Logic.{∥∥₁_elim}
use Rattle.std.proofs.lemmas.Bool.{ltb-false}
use Rattle.std.proofs.lemmas.List.{length-take}
use Rattle.limits.specs.declared.TheConstants.{MAX_BYTES}
use Rattle.reduction.proofs.StepByStep.{steps_keep}
use Rattle.order.specs.declared.uv.answers.TheConstants.{INVALID, OUTSIDE_MEMORY}
use Rattle.order.specs.Uv.Bytes.{set_out, taken_out}
use Rattle.order.specs.Work.{Done, WorkAnswers, WorkCall, stops, works, IsEndOf, IsShortEnd}

abbrev IsShort : List ℕ → Type 0
IsShort bytes = length bytes ≤ MAX_BYTES

abbrev IsSet : ℕ × List ℕ → Type 0
IsSet set = IsShort set.1

taken_short : (place count : ℕ) (memory : List ℕ) → count ≤ MAX_BYTES → IsShort (taken_out place count memory)
taken_short place count memory few = let is = length-take count (drop place memory) in omega arith

set_short : (place count : ℕ) (memory reply : List ℕ) → IsShort reply → IsShort (set_out place count memory reply).1
set_short place count memory reply short =
    elim (nat_lt MAX_BYTES count) as (λ b. nat_lt MAX_BYTES count ≡ b
    → IsSet (cond b (INVALID, reply) (cond (nat_lt (length memory) (place + count)) (OUTSIDE_MEMORY, reply) (0, taken_out place count memory)))) [
      | true ↦ λ e. short
      | false ↦ λ e. elim (nat_lt (length memory) (place + count)) as (λ b. IsSet (cond b (OUTSIDE_MEMORY, reply) (0, taken_out place count memory))) [
        | true ↦ short
        | false ↦ taken_short place count memory (ltb-false MAX_BYTES count e)
      ]
    ] refl

call_short : (bytes reply : List ℕ) (call : HostCall) (reply' : List ℕ) (f : Call) (args : List Value) → WorkAnswers bytes reply call reply' f args → IsShort reply → IsShort reply'
call_short bytes reply call reply' InLen [] h short = rw h.2 short
call_short bytes reply call reply' InCopy (I32 to ∷ I32 from ∷ I32 count ∷ []) h short = rw h.2 short
call_short bytes reply call reply' OutSet (I32 place ∷ I32 count ∷ []) h short = rw h.2 (set_short place count call.before reply short)
call_short bytes reply call reply' _ args h short = rw h.2 short

trace_short : (o : WorkOrder) (trace : List HostCall) (reply reply' : List ℕ) → Lawful (WorkCall o) trace reply reply' → IsShort reply → IsShort reply'
trace_short o = steps_keep (WorkCall o) (λ trace. IsShort) (λ call trace reply reply' h. call_short o.bytes reply call reply' h.0 call.args h.2) []

start_short : (o : WorkOrder) (start : Option ℕ) (s t : Store) (outcome : RunEnd) (used : ℕ) (reply : List ℕ) → StartRun o start s outcome used t reply → IsShort reply
start_short o None s t outcome used reply h = rw h.3 (omega arith)
start_short o (Some function) s t outcome used reply h = trace_short o h.trace [] reply h.answers (omega arith)

end_short : (outcome : RunEnd) (reply : List ℕ) (e : WorkEnd) → EndsAs outcome reply e → IsShort reply → IsShortEnd e
end_short (Returned (I32 value ∷ [])) reply e h short = rw h short
end_short (Returned _) reply e h short = absurd h
end_short _ reply e h short = rw h tt

computes_short : (o : WorkOrder) (e : WorkEnd) (u : ℕ) → Computes o e u → IsShortEnd e
computes_short o e u (stops s t outcome reply fresh run not as_end) = end_short outcome reply e as_end (start_short o o.loaded.contents.start s t outcome u reply run)
computes_short o e u (works s t v results outcome first second reply reply' function fresh started exported run used as_end) =
    end_short outcome reply' e as_end (trace_short o run.trace reply reply' run.answers (start_short o o.loaded.contents.start s t (Returned results) first reply started))

pub short : (o : WorkOrder) (e : WorkEnd) → ∥ IsEndOf o e ∥₁ → IsShortEnd e
short o (Done value bytes) h = ∥∥₁_elim h le_prop (λ it. computes_short o (Done value bytes) it.computed.0 it.computed.1)
short o _ h = tt
