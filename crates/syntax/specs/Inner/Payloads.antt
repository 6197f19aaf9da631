-- What follows an opcode (WebAssembly Core 1.0, 5.4).
use Rattle.std.specs.Prelude.{ℕ, List}
use Rattle.syntax.specs.declared.types.ValType.TheVariants.{I32}
use Rattle.syntax.specs.declared.types.Value.TheVariants as value
use Rattle.syntax.specs.declared.operator.IntUnary.TheVariants as unary
use Rattle.syntax.specs.declared.operator.Width.TheVariants.{Four}
use Rattle.syntax.specs.declared.operator.MemArg.{MemArg}
use Rattle.syntax.specs.declared.instruction.Instr.{Instr}
use Rattle.syntax.specs.declared.instruction.Instr.TheVariants as instr

-- what follows an opcode
pub data Payload : Type 0 where
  Empty : Payload
  Reserved : Payload
  Index : (n : ℕ) → Payload
  Indirect : (type : ℕ) → Payload
  Table : (labels : List ℕ) (default : ℕ) → Payload
  Access : (arg : MemArg) → Payload
  Number : (bits n : ℕ) → Payload
  Never : Payload

-- an instruction of the profile that has no opcode has `Never`
abbrev pub payload : Instr → Payload
payload (instr.Br l) = Index l
payload (instr.BrIf l) = Index l
payload (instr.BrTable ls l) = Table ls l
payload (instr.Call f) = Index f
payload (instr.CallIndirect t) = Indirect t
payload (instr.LocalGet x) = Index x
payload (instr.LocalSet x) = Index x
payload (instr.LocalTee x) = Index x
payload (instr.GlobalGet x) = Index x
payload (instr.GlobalSet x) = Index x
payload (instr.Load t m) = Access m
payload (instr.LoadNarrow I32 Four e m) = Never
payload (instr.LoadNarrow t w e m) = Access m
payload (instr.Store t m) = Access m
payload (instr.StoreNarrow I32 Four m) = Never
payload (instr.StoreNarrow t w m) = Access m
payload (instr.MemorySize) = Reserved
payload (instr.MemoryGrow) = Reserved
payload (instr.Const (value.I32 n)) = Number 32 n
payload (instr.Const (value.I64 n)) = Number 64 n
payload (instr.Unary I32 unary.Extend32S) = Never
payload _ = Empty

-- some text stands after the opcode
abbrev pub Exists : Payload → Type 0
Exists Never = ⊥
Exists _ = Unit {0}

abbrev pub no_access : MemArg
no_access = record { align = 0; offset = 0 }
