-- What typing keeps: types beneath both stacks, and one sequence behind another.
use Rattle.validate.proofs.Words.{ap, Br, BrIf, BrTable, Call, Code, Const, Context, Done, GlobalGet, GlobalSet, I32, I64, If, Instr, InstrTyped, List, Load}
use Rattle.validate.proofs.Words.{LoadNarrow, LocalGet, LocalSet, LocalTee, MemoryGrow, MemorySize, Plain, pushed, refl, Store, StoreNarrow, Structured, sym}
use Rattle.validate.proofs.Words.{type_of, Typed, ValType, [], ◌++◌, ◌∙◌, ◌∷◌, ◌≡◌}
use Rattle.syntax.specs.declared.operator.Conversion.{Conversion}
use Rattle.syntax.specs.declared.operator.Conversion.TheVariants.{I32WrapI64, I64ExtendI32S, I64ExtendI32U}
use Rattle.syntax.specs.declared.instruction.Instr.TheVariants.{Unreachable, Nop, Return, CallIndirect, Drop, Select, Eqz, Unary, Binary, Compare, Convert}
use Rattle.valid.specs.Typing.{TakesLeaves, ConversionTurns}
use Rattle.validate.specs.Sequences.{joined}

pushed-over : (xs stack more : List ValType) → pushed xs (stack ++ more) ≡ pushed xs stack ++ more
pushed-over [] stack more = refl
pushed-over (x ∷ xs) stack more = pushed-over xs (x ∷ stack) more

over : (taken rest before more : List ValType) → before ≡ pushed taken rest → before ++ more ≡ pushed taken (rest ++ more)
over taken rest before more e = ap (λ (ts : List ValType). ts ++ more) e ∙ sym (pushed-over taken rest more)

turns : (taken left before after more : List ValType) → TakesLeaves taken left before after → TakesLeaves taken left (before ++ more) (after ++ more)
turns taken left before after more k = (k.0 ++ more, over taken k.0 before more k.1, over left k.0 after more k.2)

conversion : (op : Conversion) (before after more : List ValType) → ConversionTurns op before after → ConversionTurns op (before ++ more) (after ++ more)
conversion I32WrapI64 before after more k = turns (I64 ∷ []) (I32 ∷ []) before after more k
conversion I64ExtendI32S before after more k = turns (I32 ∷ []) (I64 ∷ []) before after more k
conversion I64ExtendI32U before after more k = turns (I32 ∷ []) (I64 ∷ []) before after more k

pub instruction : (c : Context) (i : Instr) (before after more : List ValType) → InstrTyped c i before after → InstrTyped c i (before ++ more) (after ++ more)
instruction c Unreachable before after more k = tt
instruction c Nop before after more k = turns [] [] before after more k
instruction c (Br label) before after more k = (k.0, (k.1.0, k.1.1 ++ more, over k.0 k.1.1 before more k.1.2))
instruction c (BrIf label) before after more k = (k.0, k.1, turns (k.0 ++ I32 ∷ []) k.0 before after more k.2)
instruction c (BrTable labels default) before after more k = (k.0, k.1, k.2, k.3 ++ more, over (k.0 ++ I32 ∷ []) k.3 before more k.4)
instruction c Return before after more k = (k.0 ++ more, over c.results k.0 before more k.1)
instruction c (Call f) before after more k = (k.0, k.1, turns k.0.params k.0.results before after more k.2)
instruction c (CallIndirect t) before after more k = (k.0, k.1, k.2, turns (k.1.params ++ I32 ∷ []) k.1.results before after more k.3)
instruction c Drop before after more k = (k.0, turns (k.0 ∷ []) [] before after more k.1)
instruction c Select before after more k = (k.0, turns (k.0 ∷ k.0 ∷ I32 ∷ []) (k.0 ∷ []) before after more k.1)
instruction c (LocalGet x) before after more k = (k.0, k.1, turns [] (k.0 ∷ []) before after more k.2)
instruction c (LocalSet x) before after more k = (k.0, k.1, turns (k.0 ∷ []) [] before after more k.2)
instruction c (LocalTee x) before after more k = (k.0, k.1, turns (k.0 ∷ []) (k.0 ∷ []) before after more k.2)
instruction c (GlobalGet x) before after more k = (k.0, k.1, turns [] (k.0.value_type ∷ []) before after more k.2)
instruction c (GlobalSet x) before after more k = (k.0, k.1, k.2, turns (k.0.value_type ∷ []) [] before after more k.3)
instruction c (Load t at) before after more k = (k.0, turns (I32 ∷ []) (t ∷ []) before after more k.1)
instruction c (LoadNarrow t width extension at) before after more k = (k.0, turns (I32 ∷ []) (t ∷ []) before after more k.1)
instruction c (Store t at) before after more k = (k.0, turns (I32 ∷ t ∷ []) [] before after more k.1)
instruction c (StoreNarrow t width at) before after more k = (k.0, turns (I32 ∷ t ∷ []) [] before after more k.1)
instruction c MemorySize before after more k = (k.0, turns [] (I32 ∷ []) before after more k.1)
instruction c MemoryGrow before after more k = (k.0, turns (I32 ∷ []) (I32 ∷ []) before after more k.1)
instruction c (Const v) before after more k = turns [] (type_of v ∷ []) before after more k
instruction c (Eqz t) before after more k = turns (t ∷ []) (I32 ∷ []) before after more k
instruction c (Unary t op) before after more k = turns (t ∷ []) (t ∷ []) before after more k
instruction c (Binary t op) before after more k = turns (t ∷ t ∷ []) (t ∷ []) before after more k
instruction c (Compare t op) before after more k = turns (t ∷ t ∷ []) (I32 ∷ []) before after more k
instruction c (Convert op) before after more k = conversion op before after more k

-- what follows a block, whose results lie over what was beneath its parameters
behind : (c : Context) (rest : Code) (results below after more : List ValType) → Typed c rest (pushed results below ++ more) (after ++ more)
    → Typed c rest (pushed results (below ++ more)) (after ++ more)
behind c rest results below after more k = rw (pushed-over results below more) k

pub sequence : (c : Context) (code : Code) (before after more : List ValType) → Typed c code before after → Typed c code (before ++ more) (after ++ more)
sequence c Done before after more e = ap (λ (ts : List ValType). ts ++ more) e
sequence c (Plain i rest) before after more k = (k.0 ++ more, instruction c i before k.0 more k.1, sequence c rest k.0 after more k.2)
sequence c (Structured kind type body rest) before after more k =
    (k.0, k.1, k.2 ++ more, over k.0.params k.2 before more k.3, k.4, behind c rest k.0.results k.2 after more (sequence c rest (pushed k.0.results k.2) after more k.5))
sequence c (If type first second rest) before after more k = (
  k.0,
  k.1,
  k.2 ++ more,
  ap (λ (ts : List ValType). ts ++ more) k.3 ∙ ap (λ (ts : List ValType). I32 ∷ ts) (sym (pushed-over k.0.params k.2 more)),
  k.4,
  k.5,
  behind c rest k.0.results k.2 after more (sequence c rest (pushed k.0.results k.2) after more k.6),
)

pub joins : (c : Context) (first last : Code) (from topmost to beneath : List ValType) → Typed c first from (topmost ++ beneath) → Typed c last topmost to
    → Typed c (joined first last) from (to ++ beneath)
joins c Done last from topmost to beneath e k = rw e (sequence c last topmost to beneath k)
joins c (Plain i rest) last from topmost to beneath h k = (h.0, h.1, joins c rest last h.0 topmost to beneath h.2 k)
joins c (Structured kind type body rest) last from topmost to beneath h k = (h.0, h.1, h.2, h.3, h.4, joins c rest last (pushed h.0.results h.2) topmost to beneath h.5 k)
joins c (If type one other rest) last from topmost to beneath h k = (h.0, h.1, h.2, h.3, h.4, h.5, joins c rest last (pushed h.0.results h.2) topmost to beneath h.6 k)

pub parts : (c : Context) (first last : Code) (from to : List ValType) → Typed c (joined first last) from to → (mid : List ValType) × Typed c first from mid × Typed c last mid to
parts c Done last from to h = (from, refl, h)
parts c (Plain i rest) last from to h = let p = parts c rest last h.0 to h.2 in (p.0, (h.0, h.1, p.1), p.2)
parts c (Structured kind type body rest) last from to h = let p = parts c rest last (pushed h.0.results h.2) to h.5 in (p.0, (h.0, h.1, h.2, h.3, h.4, p.1), p.2)
parts c (If type one other rest) last from to h = let p = parts c rest last (pushed h.0.results h.2) to h.6 in (p.0, (h.0, h.1, h.2, h.3, h.4, h.5, p.1), p.2)
