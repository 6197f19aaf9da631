-- What an instruction leaves that neither branches nor calls: the one walk over these instructions.
use Rattle.reduction.proofs.Words.{bytes_of_type, bytes_of_width, I32, if◌then◌else◌, MemoryGrow, MemorySize, plain_step, StoreNarrow, Unreachable, with_memory}
use Rattle.reduction.proofs.Words.{Computed, computed, Contents, Extension, LocalGet, LocalSet, LocalTee, number_in, PlainStep, replaces, slice_get, slice_set}
use Rattle.reduction.proofs.Words.{counts, Fails, false, giving, is_some, Leaves, length, loaded, Number, Option, Select, stored, TrapOf, Unsigned, ValType, []}
use Rattle.reduction.proofs.Words.{Bool, Instr, is_of, Lacks, List, None, refl, Some, true, Unary, Value, ℕ, ◌&&◌, ◌++◌, ◌+◌, ◌∷◌, ◌≡◌}
use Rattle.syntax.specs.declared.instruction.Instr.TheVariants.{Nop, Drop, GlobalGet, GlobalSet, Load, LoadNarrow, Store, Const, Eqz, Binary, Compare, Convert}
use Rattle.valid.specs.Height.{Changes}
use Rattle.instance.specs.Store.{Store as Memory_and_globals, with_globals, bytes_of, bytes_at, written_at, grown}
use Rattle.reduction.specs.Operators.{binary, converted}
use Rattle.reduction.specs.Step.{alike}

-- the store is as it was, or has one other global, other bytes in its memory, or more memory
pub data StoreLeft (s : Memory_and_globals) : Memory_and_globals → Type 0 where
  same_store : StoreLeft s s
  global_set : (x : ℕ) (v : Value) → StoreLeft s (with_globals (slice_set s.globals x v) s)
  written : (address : ℕ) (bytes memory : List ℕ) → written_at address bytes s.memory ≡ Some memory → StoreLeft s (with_memory memory s)
  enlarged : (delta : ℕ) → StoreLeft s (with_memory (grown s.limit delta s.memory) s)

-- the locals are as they were, but one of them at most
pub data LocalsLeft (locals : List Value) : List Value → Type 0 where
  same_locals : LocalsLeft locals locals
  local_set : (x : ℕ) (v : Value) → LocalsLeft locals (slice_set locals x v)

-- The instruction takes operands and leaves others in their place, as many as are counted, whatever lies beneath them.
pub record PlainStepLeaves (m : Contents) (s : Memory_and_globals) (locals : List Value) (i : Instr) (values : List Value) (t : Memory_and_globals)
    (ls vs : List Value) : Type 0 where
  pub popped : List Value
  pub pushed : List Value
  pub rest : List Value
  pub before : values ≡ popped ++ rest
  pub after : vs ≡ pushed ++ rest
  pub counted : (labels : List ℕ) → counts m labels i ≡ Changes (length popped) (length pushed)
  pub locals_left : LocalsLeft locals ls
  pub store_left : StoreLeft s t
  pub over : (others : List Value) → plain_step m s locals i (popped ++ others) ≡ Leaves t ls (pushed ++ others)

-- it traps, whatever lies beneath the operands that it takes
pub record PlainStepFails (m : Contents) (s : Memory_and_globals) (locals : List Value) (i : Instr) (values : List Value) (trap : ℕ) : Type 0 where
  pub popped : List Value
  pub rest : List Value
  pub before : values ≡ popped ++ rest
  pub over : (others : List Value) → plain_step m s locals i (popped ++ others) ≡ Fails trap

abbrev pub PlainStepView : Contents → Memory_and_globals → (locals : List Value) → Instr → (values : List Value) → PlainStep → Type 0
PlainStepView m s locals i values (Leaves t ls vs) = PlainStepLeaves m s locals i values t ls vs
PlainStepView m s locals i values (Fails trap) = PlainStepFails m s locals i values trap
PlainStepView m s locals i values Lacks = Unit {0}

module _ (m : Contents) (s : Memory_and_globals) (locals : List Value) (i : Instr) (popped : List Value) where
  -- what it does to the operands beneath those that it takes
  abbrev Does : (List Value → PlainStep) → Type 0
  Does answer = (others : List Value) → plain_step m s locals i (popped ++ others) ≡ answer others

  abbrev Counted : ℕ → Type 0
  Counted pushes = (labels : List ℕ) → counts m labels i ≡ Changes (length popped) pushes

  abbrev View : List Value → PlainStep → Type 0
  View rest = PlainStepView m s locals i (popped ++ rest)

  leaves : (pushed : List Value) {t : Memory_and_globals} {ls : List Value} → Counted (length pushed) → LocalsLeft locals ls → StoreLeft s t
      → Does (λ vs. Leaves t ls (pushed ++ vs)) → (rest : List Value) → View rest (Leaves t ls (pushed ++ rest))
  leaves pushed n l k does rest = record {
    popped = popped;
    pushed = pushed;
    rest = rest;
    before = refl;
    after = refl;
    counted = n;
    locals_left = l;
    store_left = k;
    over = does;
  }

  fails : (trap : ℕ) → Does (λ vs. Fails trap) → (rest : List Value) → View rest (Fails trap)
  fails trap does rest = record { popped = popped; rest = rest; before = refl; over = does }

  -- where a test of the operands holds
  tests : (b : Bool) (pushed : List Value) {t : Memory_and_globals} {ls : List Value} → Counted (length pushed) → LocalsLeft locals ls → StoreLeft s t
      → Does (λ vs. if b then Leaves t ls (pushed ++ vs) else Lacks) → (rest : List Value) → View rest (if b then Leaves t ls (pushed ++ rest) else Lacks)
  tests true pushed n l k does rest = leaves pushed n l k does rest
  tests false pushed n l k does rest = tt

  gives : (o : Option Value) → Counted 1 → Does (λ vs. giving s locals o vs) → (rest : List Value) → View rest (giving s locals o rest)
  gives None n does rest = tt
  gives (Some v) n does rest = leaves (v ∷ []) n same_locals same_store does rest

  loads : (t : ValType) (bytes : ℕ) (x : Extension) (o : Option (List ℕ)) → Counted 1 → Does (λ vs. loaded s locals t bytes x o vs)
      → (rest : List Value) → View rest (loaded s locals t bytes x o rest)
  loads t bytes x None n does rest = fails _ does rest
  loads t bytes x (Some spelled) n does rest = leaves (_ ∷ []) n same_locals same_store does rest

  stores : (b : Bool) (address : ℕ) (bytes : List ℕ) (o : Option (List ℕ)) → written_at address bytes s.memory ≡ o → Counted 0
      → Does (λ vs. if b then stored s locals o vs else Lacks) → (rest : List Value) → View rest (if b then stored s locals o rest else Lacks)
  stores false address bytes o e n does rest = tt
  stores true address bytes None e n does rest = fails _ does rest
  stores true address bytes (Some memory) e n does rest = leaves [] n same_locals (written address bytes memory e) does rest

  computes : (b : Bool) (t : ValType) (o : Computed) → Counted 1 → Does (λ vs. if b then computed s locals t o vs else Lacks)
      → (rest : List Value) → View rest (if b then computed s locals t o rest else Lacks)
  computes false t o n does rest = tt
  computes true t (Number k) n does rest = leaves (_ ∷ []) n same_locals same_store does rest
  computes true t (TrapOf trap) n does rest = fails trap does rest

module _ (m : Contents) (s : Memory_and_globals) (ls : List Value) where
  pub plain_step_view : (i : Instr) (values : List Value) → PlainStepView m s ls i values (plain_step m s ls i values)
  plain_step_view Unreachable vs = fails m s ls _ [] _ (λ others. refl) vs
  plain_step_view Nop vs = leaves m s ls _ [] [] (λ labels. refl) same_locals same_store (λ others. refl) vs
  plain_step_view Drop (v ∷ vs) = leaves m s ls _ (v ∷ []) [] (λ labels. refl) same_locals same_store (λ others. refl) vs
  plain_step_view Select (I32 n ∷ w ∷ v ∷ vs) = tests m s ls _ (I32 n ∷ w ∷ v ∷ []) (alike v w) (_ ∷ []) (λ labels. refl) same_locals same_store (λ others. refl) vs
  plain_step_view (LocalGet x) vs = gives m s ls _ [] (slice_get ls x) (λ labels. refl) (λ others. refl) vs
  plain_step_view (LocalSet x) (v ∷ vs) = tests m s ls _ (v ∷ []) (replaces v (slice_get ls x)) [] (λ labels. refl) (local_set x v) same_store (λ others. refl) vs
  plain_step_view (LocalTee x) (v ∷ vs) = tests m s ls _ (v ∷ []) (replaces v (slice_get ls x)) (v ∷ []) (λ labels. refl) (local_set x v) same_store (λ others. refl) vs
  plain_step_view (GlobalGet x) vs = gives m s ls _ [] (slice_get s.globals x) (λ labels. refl) (λ others. refl) vs
  plain_step_view (GlobalSet x) (v ∷ vs) = tests m s ls _ (v ∷ []) (replaces v (slice_get s.globals x)) [] (λ labels. refl) same_locals (global_set x v) (λ others. refl) vs
  plain_step_view (Load t at) (I32 n ∷ vs) =
      loads m s ls _ (I32 n ∷ []) t (bytes_of_type t) Unsigned (bytes_at (n + at.offset) (bytes_of_type t) s.memory) (λ labels. refl) (λ others. refl) vs
  plain_step_view (LoadNarrow t w x at) (I32 n ∷ vs) =
      loads m s ls _ (I32 n ∷ []) t (bytes_of_width w) x (bytes_at (n + at.offset) (bytes_of_width w) s.memory) (λ labels. refl) (λ others. refl) vs
  plain_step_view (Store t at) (v ∷ I32 n ∷ vs) =
      stores m s ls _ (v ∷ I32 n ∷ []) (is_of t v) (n + at.offset) (bytes_of (bytes_of_type t) (number_in v)) _ refl (λ labels. refl) (λ others. refl) vs
  plain_step_view (StoreNarrow t w at) (v ∷ I32 n ∷ vs) =
      stores m s ls _ (v ∷ I32 n ∷ []) (is_of t v) (n + at.offset) (bytes_of (bytes_of_width w) (number_in v)) _ refl (λ labels. refl) (λ others. refl) vs
  plain_step_view MemorySize vs = tests m s ls _ [] (is_some m.memory) (_ ∷ []) (λ labels. refl) same_locals same_store (λ others. refl) vs
  plain_step_view MemoryGrow (I32 n ∷ vs) = tests m s ls _ (I32 n ∷ []) (is_some m.memory) (_ ∷ []) (λ labels. refl) same_locals (enlarged n) (λ others. refl) vs
  plain_step_view (Const v) vs = leaves m s ls _ [] (v ∷ []) (λ labels. refl) same_locals same_store (λ others. refl) vs
  plain_step_view (Eqz t) (v ∷ vs) = tests m s ls _ (v ∷ []) (is_of t v) (_ ∷ []) (λ labels. refl) same_locals same_store (λ others. refl) vs
  plain_step_view (Unary t o) (v ∷ vs) = tests m s ls _ (v ∷ []) (is_of t v) (_ ∷ []) (λ labels. refl) same_locals same_store (λ others. refl) vs
  plain_step_view (Binary t o) (w ∷ v ∷ vs) =
      computes m s ls _ (w ∷ v ∷ []) (is_of t v && is_of t w) t (binary t o (number_in v) (number_in w)) (λ labels. refl) (λ others. refl) vs
  plain_step_view (Compare t o) (w ∷ v ∷ vs) =
      tests m s ls _ (w ∷ v ∷ []) (is_of t v && is_of t w) (_ ∷ []) (λ labels. refl) same_locals same_store (λ others. refl) vs
  plain_step_view (Convert o) (v ∷ vs) = gives m s ls _ (v ∷ []) (converted o v) (λ labels. refl) (λ others. refl) vs
  -- the others, and these where an operand is missing or of the wrong type
  plain_step_view i vs = tt
