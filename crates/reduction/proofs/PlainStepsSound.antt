-- An instruction that neither branches nor calls keeps the types, and finds its operands.
use Rattle.reduction.proofs.Words.{ap, Bool, bytes_of_type, bytes_of_width, Computed, computed, Contents, Conversion, Extension, Fails, false, giving}
use Rattle.reduction.proofs.Words.{HaveGlobalTypes, I32, I32WrapI64, I64, I64ExtendI32S, I64ExtendI32U, if◌then◌else◌, Instr, is_of, is_some, Lacks, Leaves}
use Rattle.reduction.proofs.Words.{List, loaded, LocalGet, LocalSet, LocalTee, MemoryGrow, MemorySize, None, Number, Option, option_map, plain_step, PlainStep}
use Rattle.reduction.proofs.Words.{replaces, Select, slice_get, slice_get-map, slice_set, Some, StaysInBlock, stored, StoreNarrow, subst, sym, TrapOf, true}
use Rattle.reduction.proofs.Words.{type_of, types_of, Unary, Unreachable, Unsigned, ValType, Value, value_of, ℕ, [], ◌+◌, ◌==◌, ◌∙◌, ◌∷◌, ◌≡◌}
use Rattle.std.specs.Prelude.{IsSome}
use Rattle.syntax.specs.declared.instruction.Instr.TheVariants.{Nop, Drop, GlobalGet, GlobalSet, Load, LoadNarrow, Store, Const, Eqz, Binary, Compare, Convert}
use Rattle.syntax.specs.declared.contents.Global.{Global}
use Rattle.valid.specs.Typing.{Context as Typing, InstrTyped, ConversionTurns}
use Rattle.instance.specs.Store.{Store as Memory_and_globals, bytes_at}
use Rattle.reduction.proofs.Lists.{typed_at, set_typed, type_of-value_of, is_of-typed}

-- what an instruction leaves is typed
abbrev pub PlainStepTyped : Contents → (locals after : List ValType) → PlainStep → Type 0
PlainStepTyped m locals after (Leaves s locals' values) = HaveGlobalTypes m s.globals × (types_of locals' ≡ locals) × (types_of values ≡ after)
PlainStepTyped m locals after (Fails trap) = Unit {0}
PlainStepTyped m locals after Lacks = ⊥

abbrev pub NoJump : Instr → Type 0
NoJump i = StaysInBlock i

-- what a typed instruction needs of the module is there
pub there : {X : Type 0} (o p : Option X) → o ≡ p → IsSome o → is_some p ≡ true
there o p e h = subst IsSome e h

module _ (m : Contents) (s : Memory_and_globals) (fit : HaveGlobalTypes m s.globals) (locals : List Value) (ls : List ValType) (ok : types_of locals ≡ ls) where
  some_typed : (o : Option Value) (v : Value) (t : ValType) (values : List Value) (rest : List ValType) → o ≡ Some v → type_of v ≡ t → types_of values ≡ rest
      → PlainStepTyped m ls (t ∷ rest) (giving s locals o values)
  some_typed o v t values rest e ev es = rw e (fit, ok, cc)

  loaded_typed : (t : ValType) (bytes : ℕ) (x : Extension) (o : Option (List ℕ)) (values : List Value) (rest : List ValType) → types_of values ≡ rest
      → PlainStepTyped m ls (t ∷ rest) (loaded s locals t bytes x o values)
  loaded_typed t bytes x None values rest e = tt
  loaded_typed t bytes x (Some b) values rest e = (fit, ok, rw type_of-value_of (ap (λ ts. t ∷ ts) e))

  stored_typed : (o : Option (List ℕ)) (values : List Value) (rest : List ValType) → types_of values ≡ rest → PlainStepTyped m ls rest (stored s locals o values)
  stored_typed None values rest e = tt
  stored_typed (Some b) values rest e = (fit, ok, e)

  computed_typed : (t : ValType) (o : Computed) (values : List Value) (rest : List ValType) → types_of values ≡ rest → PlainStepTyped m ls (t ∷ rest) (computed s locals t o values)
  computed_typed t (Number n) values rest e = (fit, ok, rw type_of-value_of (ap (λ ts. t ∷ ts) e))
  computed_typed t (TrapOf trap) values rest e = tt

  value_typed : (t : ValType) (n : ℕ) (values : List Value) (rest : List ValType) → types_of values ≡ rest → PlainStepTyped m ls (t ∷ rest) (Leaves s locals (value_of t n ∷ values))
  value_typed t n values rest e = (fit, ok, rw type_of-value_of (ap (λ ts. t ∷ ts) e))

  select_typed : (t : ValType) (n : ℕ) (second first : Value) (values : List Value) (rest : List ValType) → type_of second ≡ t → type_of first ≡ t → types_of values ≡ rest
      → PlainStepTyped m ls (t ∷ rest) (plain_step m s locals Select (I32 n ∷ second ∷ first ∷ values))
  select_typed t n second first values rest e2 e1 e =
      let k : is_of (type_of first) second ≡ true = is_of-typed (type_of first) second (e2 ∙ sym e1) in
      rw k (fit, ok, chosen (n == 0)) where
        chosen : (b : Bool) → types_of ((if b then second else first) ∷ values) ≡ t ∷ rest
        chosen true = cc
        chosen false = cc

  -- the operands of a typed instruction
  global_at : (x : ℕ) (g : Global) → slice_get m.globals x ≡ Some g → slice_get (types_of s.globals) x ≡ Some g.value_type
  global_at x g e = ap (λ (ts : List ValType). slice_get ts x) fit ∙ slice_get-map (λ (h : Global). h.value_type) m.globals x ∙ ap (option_map (λ (h : Global). h.value_type)) e

  convert_typed : (op : Conversion) (before after : List ValType) (values : List Value) → ConversionTurns op before after → types_of values ≡ before
      → PlainStepTyped m ls after (plain_step m s locals (Convert op) values)
  convert_typed I32WrapI64 before after (I64 n ∷ values) (rest, a, b) e = (fit, ok, cc)
  convert_typed I64ExtendI32S before after (I32 n ∷ values) (rest, a, b) e = (fit, ok, cc)
  convert_typed I64ExtendI32U before after (I32 n ∷ values) (rest, a, b) e = (fit, ok, cc)
  convert_typed _ before after _ h e = absurd (let a = h.1 in let b = h.2 in cc)

  replaced : (v : Value) (x : ℕ) (t : ValType) (values : List Value) → slice_get (types_of values) x ≡ Some t → type_of v ≡ t → replaces v (slice_get values x) ≡ true
  replaced v x t values at ev =
      let f = typed_at values x t at in
      rw f.1 (is_of-typed (type_of f.0) v (ev ∙ sym f.2))

  local_set : (x : ℕ) (t : ValType) (v : Value) → slice_get ls x ≡ Some t → type_of v ≡ t → (replaces v (slice_get locals x) ≡ true) × (types_of (slice_set locals x v) ≡ ls)
  local_set x t v e ev =
      let at : slice_get (types_of locals) x ≡ Some t = ap (λ (ts : List ValType). slice_get ts x) ok ∙ e in
      (replaced v x t locals at ev, set_typed locals x v (at ∙ ap Some (sym ev)) ∙ ok)

  local_get : (x : ℕ) (t : ValType) → slice_get ls x ≡ Some t → (v : Value) × (slice_get locals x ≡ Some v) × (type_of v ≡ t)
  local_get x t e = typed_at locals x t (ap (λ (ts : List ValType). slice_get ts x) ok ∙ e)

  pub plain_step_typed : (c : Typing) (i : Instr) (before after : List ValType) (values : List Value) → c.module_contents ≡ m → c.locals ≡ ls → NoJump i
      → InstrTyped c i before after → types_of values ≡ before → PlainStepTyped m ls after (plain_step m s locals i values)
  plain_step_typed c Unreachable before after values em el n t e = tt
  plain_step_typed c Nop before after values em el n (rest, a, b) e = (fit, ok, cc)
  plain_step_typed c Drop before after [] em el n (t, (rest, a, b)) e = absurd (cc)
  plain_step_typed c Drop before after (v ∷ values) em el n (t, (rest, a, b)) e = (fit, ok, cc)
  plain_step_typed c Select before after (I32 k ∷ second ∷ first ∷ values) em el n (t, (rest, a, b)) e =
      rw b (select_typed t k second first values rest (cc) (cc) (cc))
  plain_step_typed c Select before after _ em el n (t, (rest, a, b)) e = absurd (cc)
  plain_step_typed c (LocalGet x) before after values em el n (t, at, (rest, a, b)) e =
      let f = local_get x t (ap (λ (ts : List ValType). slice_get ts x) (sym el) ∙ at) in
      rw b (some_typed (slice_get locals x) f.0 t values rest f.1 f.2 (cc))
  plain_step_typed c (LocalSet x) before after [] em el n (t, at, (rest, a, b)) e = absurd (cc)
  plain_step_typed c (LocalSet x) before after (v ∷ values) em el n (t, at, (rest, a, b)) e =
      let ev : type_of v ≡ t = cc in
      let f = local_set x t v (ap (λ (ts : List ValType). slice_get ts x) (sym el) ∙ at) ev in
      rw f.0 (fit, f.1, cc)
  plain_step_typed c (LocalTee x) before after [] em el n (t, at, (rest, a, b)) e = absurd (cc)
  plain_step_typed c (LocalTee x) before after (v ∷ values) em el n (t, at, (rest, a, b)) e =
      let ev : type_of v ≡ t = cc in
      let f = local_set x t v (ap (λ (ts : List ValType). slice_get ts x) (sym el) ∙ at) ev in
      rw f.0 (fit, f.1, cc)
  plain_step_typed c (GlobalGet x) before after values em el n (g, at, (rest, a, b)) e =
      let f = typed_at s.globals x g.value_type (global_at x g (ap (λ (k : Contents). slice_get k.globals x) (sym em) ∙ at)) in
      rw b (some_typed (slice_get s.globals x) f.0 g.value_type values rest f.1 f.2 (cc))
  plain_step_typed c (GlobalSet x) before after [] em el n (g, at, var, (rest, a, b)) e = absurd (cc)
  plain_step_typed c (GlobalSet x) before after (v ∷ values) em el n (g, at, var, (rest, a, b)) e =
      let ev : type_of v ≡ g.value_type = cc in
      let found = global_at x g (ap (λ (k : Contents). slice_get k.globals x) (sym em) ∙ at) in
      let k = replaced v x g.value_type s.globals found ev in
      rw k (set_typed s.globals x v (found ∙ ap Some (sym ev)) ∙ fit, ok, cc)
  plain_step_typed c (Load t at) before after (I32 k ∷ values) em el n (access, (rest, a, b)) e =
      rw b (loaded_typed t (bytes_of_type t) Unsigned (bytes_at (k + at.offset) (bytes_of_type t) s.memory) values rest (cc))
  plain_step_typed c (Load t at) before after _ em el n (access, (rest, a, b)) e = absurd (cc)
  plain_step_typed c (LoadNarrow t w x at) before after (I32 k ∷ values) em el n (access, (rest, a, b)) e =
      rw b (loaded_typed t (bytes_of_width w) x (bytes_at (k + at.offset) (bytes_of_width w) s.memory) values rest (cc))
  plain_step_typed c (LoadNarrow t w x at) before after _ em el n (access, (rest, a, b)) e = absurd (cc)
  plain_step_typed c (Store t at) before after (v ∷ I32 k ∷ values) em el n (access, (rest, a, b)) e =
      let f = is_of-typed t v (cc) in rw (f, b) (stored_typed _ values rest (cc))
  plain_step_typed c (Store t at) before after _ em el n (access, (rest, a, b)) e = absurd (cc)
  plain_step_typed c (StoreNarrow t w at) before after (v ∷ I32 k ∷ values) em el n (access, (rest, a, b)) e =
      let f = is_of-typed t v (cc) in rw (f, b) (stored_typed _ values rest (cc))
  plain_step_typed c (StoreNarrow t w at) before after _ em el n (access, (rest, a, b)) e = absurd (cc)
  plain_step_typed c MemorySize before after values em el n (access, (rest, a, b)) e =
      rw (there c.module_contents.memory m.memory (ap (λ (k : Contents). k.memory) em) access) (fit, ok, cc)
  plain_step_typed c MemoryGrow before after (I32 k ∷ values) em el n (access, (rest, a, b)) e =
      rw (there c.module_contents.memory m.memory (ap (λ (k : Contents). k.memory) em) access) (fit, ok, cc)
  plain_step_typed c MemoryGrow before after _ em el n (access, (rest, a, b)) e = absurd (cc)
  plain_step_typed c (Const v) before after values em el n (rest, a, b) e = (fit, ok, cc)
  plain_step_typed c (Eqz t) before after [] em el n (rest, a, b) e = absurd (cc)
  plain_step_typed c (Eqz t) before after (v ∷ values) em el n (rest, a, b) e =
      let f = is_of-typed t v (cc) in rw f (fit, ok, cc)
  plain_step_typed c (Unary t op) before after [] em el n (rest, a, b) e = absurd (cc)
  plain_step_typed c (Unary t op) before after (v ∷ values) em el n (rest, a, b) e =
      let f = is_of-typed t v (cc) in rw (f, b) (value_typed t _ values rest (cc))
  plain_step_typed c (Binary t op) before after (w ∷ v ∷ values) em el n (rest, a, b) e =
      let f = is_of-typed t v (cc) in let g = is_of-typed t w (cc) in rw (f, g, b) (computed_typed t _ values rest (cc))
  plain_step_typed c (Binary t op) before after _ em el n (rest, a, b) e = absurd (cc)
  plain_step_typed c (Compare t op) before after (w ∷ v ∷ values) em el n (rest, a, b) e =
      let f = is_of-typed t v (cc) in let g = is_of-typed t w (cc) in rw (f, g) (fit, ok, cc)
  plain_step_typed c (Compare t op) before after _ em el n (rest, a, b) e = absurd (cc)
  plain_step_typed c (Convert op) before after values em el n t e = convert_typed op before after values t e
  plain_step_typed c _ before after values em el n t e = absurd n
