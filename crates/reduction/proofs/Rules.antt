-- The rules of a step by their shape: the one walk over what comes next.
use Rattle.reduction.proofs.Words.{and_parts, AsBlock, at_code, BlockKind, BlockType, Bool, Br, branched, BrIf, BrTable, Call, CallIndirect, Calls, chosen}
use Rattle.reduction.proofs.Words.{Code, code_left, Contents, Context, continuing, Done, drop, Ends, Fails, false, Frame, FuncType, Goes, going_on, I32, If}
use Rattle.reduction.proofs.Words.{if◌then◌else◌, Instr, is_some, Label, label_for, label_types, Lacks, Leaves, led_by, length, List, locals_of, Move, nat_le}
use Rattle.reduction.proofs.Words.{next, None, on_contexts, operands_of, Option, Plain, plain, plain_step, PlainStep, receiving, refl, Return, returned}
use Rattle.reduction.proofs.Words.{reverse, same_type, same_valtypes, slice_get, Some, StaysInBlock, Store, Structured, Stuck, suc, take, Traps, true, turned}
use Rattle.reduction.proofs.Words.{type_of_function, types_of, Value, with_locals, zero, ℕ, [], ◌&&◌, ◌==◌, ◌∙◌, ◌∷◌, ◌≡◌, ◌≤◌}
use Rattle.valid.specs.Typing.{type_of_block}
use Rattle.valid.proofs.SameTypes.{same_valtypes-is}
use Rattle.reduction.specs.Step.{takes_topmost, call_typed, call_element, entering, structured}
use Rattle.reduction.proofs.Lists.{at_least}
use Rattle.reduction.proofs.PlainStepView.{StoreLeft, same_store, PlainStepLeaves, PlainStepFails, PlainStepView, plain_step_view}

-- ---- the parts of the rules

-- a branch to this label goes there: the label has this arity, the run goes on with `next`, and these contexts lie beneath it
pub data Reaches : (label : ℕ) → List Context → (arity : ℕ) → (next : Code) → (below : List Context) → Type 0 where
  here : {arity : ℕ} {next code : Code} {own : List Value} {below : List Context} → Reaches zero (Label arity next own code ∷ below) arity next below
  further : {label arity far : ℕ} {next back code : Code} {own : List Value} {above below : List Context}
      → Reaches label above arity next below → Reaches (suc label) (Label far back own code ∷ above) arity next below

-- the innermost call has these locals and so many results, and these contexts lie beneath it
pub data InCall : List Context → (locals : List Value) → (arity : ℕ) → (below : List Context) → Type 0 where
  here : {locals own : List Value} {arity : ℕ} {code : Code} {below : List Context} → InCall (Frame locals arity own code ∷ below) locals arity below
  further : {locals own : List Value} {arity far : ℕ} {back code : Code} {above below : List Context}
      → InCall above locals arity below → InCall (Label far back own code ∷ above) locals arity below

-- the instruction branches to this label, with the operands that are left where one is tested
pub data Jumps : Instr → (values : List Value) → (label : ℕ) → (left : List Value) → Type 0 where
  br : {label : ℕ} {values : List Value} → Jumps (Br label) values label values
  br_if : {label n : ℕ} {values : List Value} → Jumps (BrIf label) (I32 (suc n) ∷ values) label values
  br_table : {labels : List ℕ} {default n : ℕ} {values : List Value}
      → Jumps (BrTable labels default) (I32 n ∷ values) (label_for (slice_get labels n) default) values

-- the instruction calls this function, of this type, with the operands that are left where one chooses it; the type that it
-- names has the same parameters and results
pub data Calling (m : Contents) : Instr → (values : List Value) → (function : ℕ) → (type : FuncType) → (left : List Value) → Type 0 where
  direct : {f : ℕ} {type : FuncType} {values : List Value} → type_of_function m f ≡ Some type → Calling m (Call f) values f type values
  through : {t f n : ℕ} {type wanted : FuncType} {values : List Value} → type_of_function m f ≡ Some type → slice_get m.types t ≡ Some wanted
      → type.params ≡ wanted.params → type.results ≡ wanted.results → Calling m (CallIndirect t) (I32 n ∷ values) f type values

-- the sequence begins with a block of this type, to whose label a branch takes so many operands along and goes on with `next`;
-- inside it is `inside`, behind it `rest`
pub data Opening (m : Contents) : Code → (values : List Value) → (type : FuncType) → (arity : ℕ) → (next inside rest : Code) → (left : List Value)
    → Type 0 where
  a_structured : {kind : BlockKind} {type : BlockType} {t : FuncType} {body rest : Code} {values : List Value} → type_of_block m type ≡ Some t
      → Opening m (Structured kind type body rest) values t (length (label_types kind t)) (led_by kind (Structured kind type body rest) rest) body rest values
  an_if : {type : BlockType} {t : FuncType} {n : ℕ} {first second rest : Code} {values : List Value} → type_of_block m type ≡ Some t
      → Opening m (If type first second rest) (I32 n ∷ values) t (length t.results) rest (chosen n first second) rest values

-- ---- the rules

-- what comes next where the innermost context has these operands and this sequence
pub data StepRule (m : Contents) (s : Store) : List Context → (values : List Value) → Code → Move → Type 0 where
  -- an instruction that neither branches nor calls
  leaves : {i : Instr} {values ls vs : List Value} {rest : Code} {contexts : List Context} {t : Store} → StaysInBlock i
      → PlainStepLeaves m s (locals_of contexts) i values t ls vs
      → StepRule m s contexts values (Plain i rest) (Goes 1 t (going_on vs rest (with_locals ls contexts)))
  fails : {i : Instr} {values : List Value} {rest : Code} {contexts : List Context} {trap : ℕ} → StaysInBlock i
      → PlainStepFails m s (locals_of contexts) i values trap → StepRule m s contexts values (Plain i rest) (Traps trap)
  -- a branch that isn't taken
  passes : {label : ℕ} {values : List Value} {rest : Code} {contexts : List Context}
      → StepRule m s contexts (I32 zero ∷ values) (Plain (BrIf label) rest) (Goes 1 s (going_on values rest contexts))
  branches : {i : Instr} {values left : List Value} {label arity : ℕ} {next rest : Code} {contexts below : List Context}
      → Jumps i values label left → Reaches label contexts arity next below → arity ≤ length left
      → StepRule m s contexts values (Plain i rest) (Goes 1 s (continuing (take arity left) next below))
  returns : {values locals : List Value} {arity : ℕ} {rest : Code} {contexts below : List Context}
      → InCall contexts locals arity below → arity ≤ length values
      → StepRule m s contexts values (Plain Return rest) (Goes 1 s (Frame locals arity (take arity values) Done ∷ below))
  calls : {i : Instr} {values left : List Value} {f : ℕ} {type : FuncType} {rest : Code} {contexts : List Context}
      → Calling m i values f type left → types_of (reverse (take (length type.params) left)) ≡ type.params
      → StepRule m s contexts values (Plain i rest)
      (Calls f (reverse (take (length type.params) left)) (going_on (drop (length type.params) left) rest contexts))
  -- the table has no element there, or no function of the type
  no_callee : {t n : ℕ} {values : List Value} {rest : Code} {contexts : List Context} (trap : ℕ)
      → StepRule m s contexts (I32 n ∷ values) (Plain (CallIndirect t) rest) (Traps trap)
  enters : {code next inside rest : Code} {values left : List Value} {type : FuncType} {arity : ℕ} {contexts : List Context}
      → Opening m code values type arity next inside rest left → length type.params ≤ length left
      → StepRule m s contexts values code
      (Goes 1 s (Label arity next (take (length type.params) left) inside ∷ going_on (drop (length type.params) left) rest contexts))
  -- the ends of a block, of a call and of the outermost call
  closes : {arity : ℕ} {next code : Code} {own values : List Value} {below : List Context}
      → StepRule m s (Label arity next own code ∷ below) values Done (Goes 0 s (receiving values below))
  answers : {arity : ℕ} {code : Code} {locals own values : List Value} {top : Context} {below : List Context}
      → StepRule m s (Frame locals arity own code ∷ top ∷ below) values Done (Goes 0 s (receiving values (top ∷ below)))
  ends : {arity : ℕ} {code : Code} {locals own values : List Value} → StepRule m s (Frame locals arity own code ∷ []) values Done (Ends values)
  stuck : {contexts : List Context} {values : List Value} {code : Code} → StepRule m s contexts values code Stuck

-- ---- where branches and returns lead

-- a branch with these operands lands behind its label, or nowhere
pub data Lands (values : List Value) : (label : ℕ) → List Context → Option (List Context) → Type 0 where
  lands : {label arity : ℕ} {next : Code} {contexts below : List Context} → Reaches label contexts arity next below → arity ≤ length values
      → Lands values label contexts (Some (continuing (take arity values) next below))
  nowhere : {label : ℕ} {contexts : List Context} → Lands values label contexts None

pub lands_at : (values : List Value) (label : ℕ) (contexts : List Context) → Lands values label contexts (branched label values contexts)
lands_at values label [] = nowhere
lands_at values label (Frame locals arity own code ∷ below) = nowhere
lands_at values (suc label) (Label far back own code ∷ below) = beneath (lands_at values label below) where
  beneath : {o : Option (List Context)} → Lands values label below o → Lands values (suc label) (Label far back own code ∷ below) o
  beneath (lands at few) = lands (further at) few
  beneath nowhere = nowhere
lands_at values zero (Label arity next own code ∷ below) = by_test (nat_le arity (length values)) refl where
  by_test : (b : Bool) → nat_le arity (length values) ≡ b → Lands values zero (Label arity next own code ∷ below) (branched zero values (Label arity next own code ∷ below))
  by_test true e = rw e (lands here (at_least arity (length values) e))
  by_test false e = rw e nowhere

-- a return with these operands ends the innermost call
pub data Backs (values : List Value) : List Context → Option (List Context) → Type 0 where
  backs : {locals : List Value} {arity : ℕ} {contexts below : List Context} → InCall contexts locals arity below → arity ≤ length values
      → Backs values contexts (Some (Frame locals arity (take arity values) Done ∷ below))
  no_call : {contexts : List Context} → Backs values contexts None

pub backs_at : (values : List Value) (contexts : List Context) → Backs values contexts (returned values contexts)
backs_at values [] = no_call
backs_at values (Label far back own code ∷ below) = beneath (backs_at values below) where
  beneath : {o : Option (List Context)} → Backs values below o → Backs values (Label far back own code ∷ below) o
  beneath (backs at few) = backs (further at) few
  beneath no_call = no_call
backs_at values (Frame locals arity own code ∷ below) = by_test (nat_le arity (length values)) refl where
  by_test : (b : Bool) → nat_le arity (length values) ≡ b → Backs values (Frame locals arity own code ∷ below) (returned values (Frame locals arity own code ∷ below))
  by_test true e = rw e (backs here (at_least arity (length values) e))
  by_test false e = rw e no_call

-- ---- each step has a rule

module _ (m : Contents) (s : Store) where
  if_holds : (contexts : List Context) (values : List Value) (code : Code) (b : Bool) (move : Move) → (b ≡ true → StepRule m s contexts values code move)
      → StepRule m s contexts values code (if b then move else Stuck)
  if_holds contexts values code true move k = k refl
  if_holds contexts values code false move k = stuck

  branch_rule : (i : Instr) (values left : List Value) (label : ℕ) (rest : Code) (contexts : List Context) → Jumps i values label left
      → StepRule m s contexts values (Plain i rest) (on_contexts s (branched label left contexts))
  branch_rule i values left label rest contexts j = by (lands_at left label contexts) where
    by : {o : Option (List Context)} → Lands left label contexts o → StepRule m s contexts values (Plain i rest) (on_contexts s o)
    by (lands at few) = branches j at few
    by nowhere = stuck

  return_rule : (values : List Value) (rest : Code) (contexts : List Context) → StepRule m s contexts values (Plain Return rest) (on_contexts s (returned values contexts))
  return_rule values rest contexts = by (backs_at values contexts) where
    by : {o : Option (List Context)} → Backs values contexts o → StepRule m s contexts values (Plain Return rest) (on_contexts s o)
    by (backs at few) = returns at few
    by no_call = stuck

  call_rule : (i : Instr) (values left : List Value) (f : ℕ) (rest : Code) (contexts : List Context) (o : Option FuncType)
      → ((type : FuncType) → o ≡ Some type → Calling m i values f type left) → StepRule m s contexts values (Plain i rest) (call_typed f o left rest contexts)
  call_rule i values left f rest contexts None k = stuck
  call_rule i values left f rest contexts (Some type) k =
      if_holds contexts values (Plain i rest) (takes_topmost type left) _ (λ e. calls (k type refl) (same_valtypes-is (types_of (reverse (take (length type.params) left))) type.params e))

  element_rule : (t n : ℕ) (values : List Value) (rest : Code) (contexts : List Context) (o : Option (Option ℕ))
      → StepRule m s contexts (I32 n ∷ values) (Plain (CallIndirect t) rest) (call_element m t o values rest contexts)
  element_rule t n values rest contexts None = no_callee _
  element_rule t n values rest contexts (Some None) = no_callee _
  element_rule t n values rest contexts (Some (Some f)) = typed (type_of_function m f) (slice_get m.types t) refl refl where
    typed : (o wanted : Option FuncType) → type_of_function m f ≡ o → slice_get m.types t ≡ wanted
        → StepRule m s contexts (I32 n ∷ values) (Plain (CallIndirect t) rest) (if same_type o wanted then call_typed f o values rest contexts else Traps 7)
    typed None wanted e w = no_callee _
    typed (Some type) None e w = no_callee _
    typed (Some type) (Some other) e w = by_test (same_valtypes type.params other.params && same_valtypes type.results other.results) refl where
      by_test : (b : Bool) → (same_valtypes type.params other.params && same_valtypes type.results other.results) ≡ b
          → StepRule m s contexts (I32 n ∷ values) (Plain (CallIndirect t) rest) (if b then call_typed f (Some type) values rest contexts else Traps 7)
      by_test false q = no_callee _
      by_test true q =
          let both = and_parts (same_valtypes type.params other.params) (same_valtypes type.results other.results) q in
          let params = same_valtypes-is type.params other.params both.0 in
          let results = same_valtypes-is type.results other.results both.1 in
          call_rule (CallIndirect t) (I32 n ∷ values) values f rest contexts (Some type) (λ called is. through (e ∙ is) w (cc) (cc))

  plain_step_rule : (i : Instr) (values : List Value) (rest : Code) (contexts : List Context) → StaysInBlock i → (o : PlainStep)
      → PlainStepView m s (locals_of contexts) i values o → StepRule m s contexts values (Plain i rest) (turned o rest contexts)
  plain_step_rule i values rest contexts still (Leaves t ls vs) h = leaves still h
  plain_step_rule i values rest contexts still (Fails trap) h = fails still h
  plain_step_rule i values rest contexts still Lacks h = stuck

  plain_rule : (i : Instr) (values : List Value) (rest : Code) (contexts : List Context) → StepRule m s contexts values (Plain i rest) (plain m s i values rest contexts)
  plain_rule (Br label) values rest contexts = branch_rule (Br label) values values label rest contexts br
  plain_rule (BrIf label) (I32 zero ∷ values) rest contexts = passes
  plain_rule (BrIf label) (I32 (suc n) ∷ values) rest contexts = branch_rule (BrIf label) (I32 (suc n) ∷ values) values label rest contexts br_if
  plain_rule (BrIf label) values rest contexts = stuck
  plain_rule (BrTable labels default) (I32 n ∷ values) rest contexts =
      branch_rule (BrTable labels default) (I32 n ∷ values) values (label_for (slice_get labels n) default) rest contexts br_table
  plain_rule (BrTable labels default) values rest contexts = stuck
  plain_rule Return values rest contexts = return_rule values rest contexts
  plain_rule (Call f) values rest contexts = call_rule (Call f) values values f rest contexts (type_of_function m f) (λ type e. direct e)
  plain_rule (CallIndirect t) (I32 n ∷ values) rest contexts =
      if_holds contexts (I32 n ∷ values) (Plain (CallIndirect t) rest) (is_some m.table) _ (λ e. element_rule t n values rest contexts (slice_get s.table n))
  plain_rule (CallIndirect t) values rest contexts = stuck
  plain_rule i values rest contexts = plain_step_rule i values rest contexts tt (plain_step m s (locals_of contexts) i values) (plain_step_view m s (locals_of contexts) i values)

  enter_rule : (code next inside rest : Code) (values left : List Value) (t : FuncType) (arity : ℕ) (contexts : List Context)
      → Opening m code values t arity next inside rest left
      → StepRule m s contexts values code (entering s (length t.params) arity next inside left rest contexts)
  enter_rule code next inside rest values left t arity contexts o =
      if_holds contexts values code (nat_le (length t.params) (length left)) _ (λ e. enters o (at_least (length t.params) (length left) e))

  structured_rule : (kind : BlockKind) (code next inside rest : Code) (values left : List Value) (contexts : List Context) (o : Option FuncType)
      → ((t : FuncType) → o ≡ Some t → Opening m code values t (length (label_types kind t)) next inside rest left)
      → StepRule m s contexts values code (structured s kind o next inside left rest contexts)
  structured_rule kind code next inside rest values left contexts None k = stuck
  structured_rule kind code next inside rest values left contexts (Some t) k =
      enter_rule code next inside rest values left t (length (label_types kind t)) contexts (k t refl)

  pub rule : (code : Code) (values : List Value) (contexts : List Context) → StepRule m s contexts values code (at_code m s values code contexts)
  rule Done values (Label arity next own code ∷ below) = closes
  rule Done values (Frame locals arity own code ∷ []) = if_holds _ _ _ (length values == arity) _ (λ e. ends)
  rule Done values (Frame locals arity own code ∷ top ∷ below) = if_holds _ _ _ (length values == arity) _ (λ e. answers)
  rule Done values [] = stuck
  rule (Plain i rest) values contexts = plain_rule i values rest contexts
  rule (Structured kind type body rest) values contexts =
      let code = Structured kind type body rest in
      structured_rule kind code (led_by kind code rest) body rest values values contexts (type_of_block m type) (λ t e. a_structured e)
  rule (If type first second rest) (I32 n ∷ values) contexts =
      structured_rule AsBlock (If type first second rest) rest (chosen n first second) rest (I32 n ∷ values) values contexts (type_of_block m type) (λ t e. an_if e)
  rule (If type first second rest) values contexts = stuck

  pub next_rule : (contexts : List Context) → StepRule m s contexts (operands_of contexts) (code_left contexts) (next m s contexts)
  next_rule [] = stuck
  next_rule (Label arity back values code ∷ below) = rule code values (Label arity back values code ∷ below)
  next_rule (Frame locals arity values code ∷ below) = rule code values (Frame locals arity values code ∷ below)

-- ---- the store behind a step

abbrev pub LeavesStore : Store → Move → Type 0
LeavesStore s (Goes charge t contexts) = StoreLeft s t
LeavesStore s _ = Unit {0}

store_by : {m : Contents} {s : Store} {contexts : List Context} {values : List Value} {code : Code} {move : Move} → StepRule m s contexts values code move → LeavesStore s move
store_by (leaves still h) = h.store_left
store_by _ = search same_store

pub store_after : (m : Contents) (s : Store) (contexts : List Context) → LeavesStore s (next m s contexts)
store_after m s contexts = store_by (next_rule m s contexts)
