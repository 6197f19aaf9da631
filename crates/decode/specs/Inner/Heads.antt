-- What opcodes stand for.
use Rattle.std.specs.Prelude.{◌≡◌, ℕ, List, [], None, Result, Ok, Err}
use Rattle.std.specs.Borrow.{Bor}
use Rattle.syntax.specs.declared.types.Value.TheVariants as value
use Rattle.syntax.specs.declared.instruction.Instr.{Instr}
use Rattle.syntax.specs.declared.instruction.Instr.TheVariants as instr
use Rattle.syntax.specs.declared.instruction.Token.{Token}
use Rattle.syntax.specs.declared.instruction.Token.TheVariants as operation
use Rattle.syntax.specs.Operations.{operation_of, accessing, long_index}
use Rattle.syntax.specs.Language.{Language, Leaves, byte, nothing, only_if}
use Rattle.syntax.specs.Instructions.{opcode, immediates}
use Rattle.syntax.specs.Inner.Payloads.{payload, Empty, Reserved, Access, Exists, no_access}
use Rattle.decode.specs.declared.head.Indexed.{Indexed}
use Rattle.decode.specs.declared.head.Indexed.TheVariants as index
use Rattle.decode.specs.declared.head.Head.{Head}
use Rattle.decode.specs.declared.head.Head.TheVariants as head
use Rattle.decode.specs.declared.stop.ReadingStop.{ReadingStop}
use Rattle.decode.specs.declared.fault.DecodeFault.TheVariants as faults
use Rattle.decode.specs.Inner.Reading.{Refuses, NoneLeaves}

-- the instruction with an index
abbrev pub indexed : Indexed → ℕ → Instr
indexed index.Br n = instr.Br n
indexed index.BrIf n = instr.BrIf n
indexed index.Call n = instr.Call n
indexed index.LocalGet n = instr.LocalGet n
indexed index.LocalSet n = instr.LocalSet n
indexed index.LocalTee n = instr.LocalTee n
indexed index.GlobalGet n = instr.GlobalGet n
indexed index.GlobalSet n = instr.GlobalSet n

-- no instruction has this opcode
abbrev pub HasNone : ℕ → Type 0
HasNone op = (i : Instr) → Exists (payload i) → opcode i ≡ op → ⊥

-- the operation is such an instruction
abbrev pub IsSuch : (Instr → Type 0) → Token → Type 0
IsSuch P (operation.Plain i) = P i
IsSuch P _ = ⊥

abbrev pub StandsFor : ℕ → Head → Type 0
StandsFor op (head.Whole o) = (long_index o ≡ None) × IsSuch (λ i. (opcode i ≡ op) × (payload i ≡ Empty)) (operation_of o)
StandsFor op (head.Reserved o) = (long_index o ≡ None) × IsSuch (λ i. (opcode i ≡ op) × (payload i ≡ Reserved)) (operation_of o)
StandsFor op (head.WithIndex o) = opcode (indexed o 0) ≡ op
StandsFor op (head.WithAccess a) = (opcode (accessing a no_access) ≡ op) × (payload (accessing a no_access) ≡ Access no_access)
StandsFor op head.BrTable = opcode (instr.BrTable [] 0) ≡ op
StandsFor op head.CallIndirect = opcode (instr.CallIndirect 0) ≡ op
StandsFor op head.I32Const = opcode (instr.Const (value.I32 0)) ≡ op
StandsFor op head.I64Const = opcode (instr.Const (value.I64 0)) ≡ op
StandsFor op head.Float = HasNone op
StandsFor op head.Unknown = HasNone op

-- the instructions of an opcode, by what follows it
abbrev pub behind_opcode : ℕ → Token → Language
behind_opcode op (operation.Plain i) = only_if (opcode i ≡ op) (immediates i)
behind_opcode op _ = nothing

-- behind the opcode stands nothing that should
abbrev pub NoneBehind : ℕ → List ℕ → Type 0
NoneBehind op text = (rest : List ℕ) × Leaves (byte op) text rest × NoneLeaves (behind_opcode op) rest

-- A reader of what stands behind an opcode, which may be the byte at fault.
abbrev pub ReadsBehind : ℕ → List ℕ → Result (Token × Bor (List ℕ)) ReadingStop → Type 0
ReadsBehind op bytes (Ok r) = Leaves (behind_opcode op r.0) bytes r.1.now
ReadsBehind op bytes (Err e) = ¬ (e.fault ≡ faults.Memory) → (text : List ℕ) → Leaves (byte op) text bytes → Refuses (NoneBehind op) text e
