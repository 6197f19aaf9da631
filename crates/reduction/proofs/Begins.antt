-- What an operation at a place tells of the contexts that stand there.
use Rattle.reduction.proofs.Words.{arith, AsBlock, AsLoop, BlockType, Body, ClosesTo, Code, Contents, Context, Done, Frame, If, Instr, IsPlaced, Label, List}
use Rattle.reduction.proofs.Words.{None, Option, Place, Plain, slice_get, slice_get_past, Some, Structured, Token, Value, ℕ, [], ◌∷◌, ◌≡◌}
use Rattle.syntax.specs.declared.instruction.Token.TheVariants as op

-- contexts at this operation, or behind the last one
pub data Begins : Option Token → List Context → Type 0 where
  a_plain : {i : Instr} {arity : ℕ} {back rest : Code} {values : List Value} {below : List Context}
      → Begins (Some (op.Plain i)) (Label arity back values (Plain i rest) ∷ below)
  a_block : {type : BlockType} {arity : ℕ} {back inside rest : Code} {values : List Value} {below : List Context}
      → Begins (Some (op.Block type)) (Label arity back values (Structured AsBlock type inside rest) ∷ below)
  a_loop : {type : BlockType} {arity : ℕ} {back inside rest : Code} {values : List Value} {below : List Context}
      → Begins (Some (op.Loop type)) (Label arity back values (Structured AsLoop type inside rest) ∷ below)
  an_if : {type : BlockType} {arity : ℕ} {back first second rest : Code} {values : List Value} {below : List Context}
      → Begins (Some (op.If type)) (Label arity back values (If type first second rest) ∷ below)
  an_else : {arity : ℕ} {back : Code} {values : List Value} {below : List Context} → Begins (Some op.Else) (Label arity back values Done ∷ below)
  an_end : {arity : ℕ} {back : Code} {values : List Value} {below : List Context} → Begins (Some op.End) (Label arity back values Done ∷ below)
  behind : {arity : ℕ} {code : Code} {locals values : List Value} {below : List Context} → Begins None (Frame locals arity values code ∷ below)

module _ (m : Contents) (body : ℕ → Body) (place : Place) (callers : List Place) where
  begins : (more : ℕ) (contexts : List Context) → IsPlaced m body place callers contexts more → Begins (slice_get (body place.function).operations place.pc) contexts
  begins more [] w = absurd w.over
  begins more (Frame locals arity values code ∷ below) w = rw (slice_get_past (body place.function).operations place.pc (omega (arith, w.code.1))) behind
  begins more (Label arity back values (Plain i rest) ∷ below) w = rw w.code.0 a_plain
  begins more (Label arity back values (Structured AsBlock type inside rest) ∷ below) w = rw w.code.0 a_block
  begins more (Label arity back values (Structured AsLoop type inside rest) ∷ below) w = rw w.code.0 a_loop
  begins more (Label arity back values (If type first second rest) ∷ below) w = rw w.code.0 an_if
  begins more (Label arity back values Done ∷ below) w = closing _ _ _ _ (slice_get (body place.function).operations place.pc) w.code.0 where
    closing : (base after at end : ℕ) (o : Option Token) → ClosesTo (body place.function) base after at end o → Begins o (Label arity back values Done ∷ below)
    closing base after at end None c = absurd c
    closing base after at end (Some op.End) c = an_end
    closing base after at end (Some op.Else) c = an_else
    closing base after at end (Some o) c = absurd c

  pub begins_with : {contexts : List Context} {more : ℕ} (o : Option Token) → IsPlaced m body place callers contexts more
      → slice_get (body place.function).operations place.pc ≡ o → Begins o contexts
  begins_with {contexts} {more} o w e = rw e at (begins more contexts w)

-- behind its last operation a call stands in its frame
abbrev pub IsFrame : List Context → Type 0
IsFrame (Frame locals arity values code ∷ below) = Unit {0}
IsFrame _ = ⊥

pub in_frame : {contexts : List Context} → Begins None contexts → IsFrame contexts
in_frame behind = tt
