-- No part of what a run means.
-- The instructions that neither branch nor call.
use Rattle.syntax.specs.declared.instruction.Instr.{Instr}
use Rattle.syntax.specs.declared.instruction.Instr.TheVariants.{Br, BrIf, BrTable, Return, Call, CallIndirect}

-- the instruction neither branches nor calls
abbrev pub StaysInBlock : Instr → Type 0
StaysInBlock (Br label) = ⊥
StaysInBlock (BrIf label) = ⊥
StaysInBlock (BrTable labels default) = ⊥
StaysInBlock Return = ⊥
StaysInBlock (Call f) = ⊥
StaysInBlock (CallIndirect t) = ⊥
StaysInBlock _ = Unit {0}
