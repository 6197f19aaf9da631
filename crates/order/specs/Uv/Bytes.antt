-- The calls by which a guest reads its input and sets its reply.
use Rattle.std.specs.Prelude.{ℕ, ◌+◌, nat_lt, List, [], ◌∷◌, length, take, drop, Option, Some, None, if◌then◌else◌}
use Rattle.limits.specs.declared.TheConstants.{MAX_BYTES}
use Rattle.syntax.specs.declared.types.Value.{Value}
use Rattle.syntax.specs.declared.types.Value.TheVariants.{I32}
use Rattle.imports.specs.declared.call.Call.{Call}
use Rattle.imports.specs.declared.call.Call.TheVariants.{InCopy, OutSet, QueueWork}
use Rattle.instance.specs.Fresh.{overwritten}
use Rattle.order.specs.declared.uv.answers.TheConstants.{NOT_HERE, INVALID, OUTSIDE_MEMORY}

-- what `in_len` answers, of the input where there is one
abbrev pub input_length : Option (List ℕ) → ℕ
input_length None = NOT_HERE
input_length (Some input) = length input

-- what `in_copy` answers, and the memory after it
abbrev pub copied_in : Option (List ℕ) → (to from count : ℕ) → (memory : List ℕ) → ℕ × List ℕ
copied_in None to from count memory = (NOT_HERE, memory)
copied_in (Some input) to from count memory =
    if nat_lt (length input) (from + count) then (INVALID, memory)
    else (if nat_lt (length memory) (to + count) then (OUTSIDE_MEMORY, memory)
    else (0, overwritten to (take count (drop from input)) memory))

-- the bytes of a memory at a place
abbrev pub taken_out : (place count : ℕ) → (memory : List ℕ) → List ℕ
taken_out place count memory = take count (drop place memory)

-- what `out_set` answers, and the bytes of the reply after it
abbrev pub set_out : (place count : ℕ) → (memory reply : List ℕ) → ℕ × List ℕ
set_out place count memory reply =
    if nat_lt MAX_BYTES count then (INVALID, reply)
    else (if nat_lt (length memory) (place + count) then (OUTSIDE_MEMORY, reply)
    else (0, taken_out place count memory))

-- how many bytes a call names that copies bytes
abbrev pub bytes_named : Call → List Value → ℕ
bytes_named InCopy (to ∷ from ∷ I32 count ∷ []) = count
bytes_named OutSet (place ∷ I32 count ∷ []) = count
bytes_named QueueWork (op ∷ place ∷ I32 count ∷ []) = count
bytes_named _ args = 0
