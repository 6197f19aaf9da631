-- Why an instruction that finds too few operands is refused, or others than it takes.
use Rattle.validate.proofs.Words.{ap, BodyFault, Bool, Checker, context_at, drop, drop_more, false, FitsList, get_or, Held, I32, inl, inr, Instr, length, List}
use Rattle.validate.proofs.Words.{Operand, pushed, refl, Rejects, slice_get, Some, sym, take, take-append-drop, Takes, true, ValType, ℕ, [], ◌++◌, ◌+◌, ◌<◌}
use Rattle.validate.proofs.Words.{◌∙◌, ◌∷◌, ◌≡◌, ◌⊎◌}
use Rattle.syntax.specs.declared.instruction.Instr.TheVariants as instr
use Rattle.syntax.specs.declared.instruction.Token.TheVariants as op
use Rattle.validate.specs.declared.fault.BodyFault.TheVariants as fault
use Rattle.validate.specs.Inner.Operands.{Lacks}
use Rattle.valid.proofs.Items.{same_some}
use Rattle.validate.proofs.OperandTypes.{pushed-push, pushed-append, takes_none}
use Rattle.validate.proofs.Checks.{IsTurn}

-- what lies behind the operand that isn't there was taken
pub lacks_one : (front behind : List ValType) (t : ValType) (h k : Held) → Takes behind h k → Lacks (t ∷ []) k → Lacks (front ++ t ∷ behind) h
lacks_one front behind t h k a n =
    λ rest f. n (pushed front rest) ((a.fits (t ∷ pushed front rest)).0 (rw (pushed-append front (t ∷ behind) rest) at f))

-- the operand of this index isn't there, and those behind it were taken
pub lacks_at : (wanted : List ValType) (i next : ℕ) (h k : Held) → next ≡ i + 1 → i < length wanted
    → Takes (drop next wanted) h k → Lacks (get_or wanted i I32 ∷ []) k → Lacks wanted h
lacks_at wanted i next h k e lt a n =
    let t = get_or wanted i I32 in
    let behind : t ∷ drop next wanted ≡ drop i wanted =
    ap (λ (j : ℕ). t ∷ drop j wanted) e ∙ sym (drop_more wanted i I32 lt) in
    let parts : take i wanted ++ t ∷ drop next wanted ≡ wanted =
    ap (λ (ts : List ValType). take i wanted ++ ts) behind ∙ take-append-drop i wanted in
    rw parts at (lacks_one (take i wanted) (drop next wanted) t h k a n)

-- the last operand isn't there
pub lacks_top : (front : List ValType) (t : ValType) (h : Held) → Lacks (t ∷ []) h → Lacks (front ++ t ∷ []) h
lacks_top front t h n = lacks_one front [] t h h (takes_none h) n

-- the last operand was taken, but those before it aren't there
pub lacks_more : (front : List ValType) (t : ValType) (h k : Held) → Takes (t ∷ []) h k → Lacks front k → Lacks (front ++ t ∷ []) h
lacks_more front t h k a n =
    λ rest f. n rest ((a.fits (pushed front rest)).0 (rw (pushed-push front t rest) at f))

-- there are no operands where they stand for the empty stack
pub none_stand : (u : Bool) (own : List Operand) → FitsList u own [] → own ≡ []
none_stand true [] f = refl
none_stand false [] f = refl
none_stand true (o ∷ own) f = absurd f
none_stand false (o ∷ own) f = absurd f

-- an instruction takes operands that aren't there
rejects_lacking : (c : Checker) (i : Instr) (taken left : List ValType) (e : BodyFault) → IsTurn (context_at c) i taken left
    → e ≡ fault.BadType → Lacks taken c.operands → Rejects (op.Plain i) c e
rejects_lacking c i taken left e rule b n =
    rw b (λ from f m. let r = rule.turns from m.0 m.1 in n r.0 (rw r.1 at f))

-- an instruction takes an i32 that isn't there
pub rejects_top : (c : Checker) (i : Instr) (taken left : List ValType) (e : BodyFault) → IsTurn (context_at c) i (taken ++ I32 ∷ []) left
    → e ≡ fault.BadType → Lacks (I32 ∷ []) c.operands → Rejects (op.Plain i) c e
rejects_top c i taken left e rule b n =
    rejects_lacking c i (taken ++ I32 ∷ []) left e rule b (lacks_top taken I32 c.operands n)

-- an instruction takes an i32, and then operands that aren't there
pub rejects_over : (c : Checker) (i : Instr) (taken left : List ValType) (k : Held) (e : BodyFault) → IsTurn (context_at c) i (taken ++ I32 ∷ []) left
    → Takes (I32 ∷ []) c.operands k → ((e ≡ fault.BadType) × Lacks taken k) ⊎ (e ≡ fault.Memory) → Rejects (op.Plain i) c e
rejects_over c i taken left k e rule a (inl n) =
    rejects_lacking c i (taken ++ I32 ∷ []) left e rule n.0 (lacks_more taken I32 c.operands k a n.1)
rejects_over c i taken left k e rule a (inr m) = rw m tt

-- no list of types that all labels take is there under an i32
pub rejects_br_table : (c : Checker) (labels : List ℕ) (default : ℕ) (types : List ValType) (e : BodyFault)
    → slice_get (context_at c).labels default ≡ Some types
    → e ≡ fault.BadType → Lacks (types ++ I32 ∷ []) c.operands → Rejects (op.Plain (instr.BrTable labels default)) c e
rejects_br_table c labels default types e known b n =
    rw b (λ from f m.
    let i = m.1 in
    let same : i.0 ≡ types = same_some i.0 types (slice_get (context_at c).labels default) i.2 known in
    n i.3 (rw (i.4 ∙ ap (λ (ts : List ValType). pushed (ts ++ I32 ∷ []) i.3) same) at f))
