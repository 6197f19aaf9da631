-- A typed sequence within the limits of height and nesting takes so many operands to so many.
use Rattle.reduction.proofs.Words.{ap, arith, Br, BrIf, BrTable, Call, CallIndirect, Code, Contents, Conversion, Counted, counts, Done, FitsHeights, Follows}
use Rattle.reduction.proofs.Words.{FuncType, HasFunctionType, I32WrapI64, I64ExtendI32S, I64ExtendI32U, If, inside, Instr, label_types, length, length-append}
use Rattle.reduction.proofs.Words.{length-map, List, LocalGet, LocalSet, LocalTee, map, max, MAX_HEIGHT, MemoryGrow, MemorySize, option_map, Plain, pushed}
use Rattle.reduction.proofs.Words.{refl, Return, Select, slice_get, slice_get-map, Some, StoreNarrow, Structured, type_of, type_of_function, Typed, Unary}
use Rattle.reduction.proofs.Words.{Unreachable, ValType, ℕ, [], ◌++◌, ◌+◌, ◌-◌, ◌∙◌, ◌∷◌, ◌≡◌, ◌≤◌}
use Rattle.std.proofs.Math.Nat.{le-max_left, le-max_right}
use Rattle.limits.specs.declared.TheConstants.{MAX_NESTING}
use Rattle.syntax.specs.declared.types.ValType.TheVariants as type
use Rattle.syntax.specs.declared.instruction.Instr.TheVariants.{Nop, Drop, GlobalGet, GlobalSet, Load, LoadNarrow, Store, Const, Eqz, Binary, Compare, Convert}
use Rattle.valid.specs.Typing.{Context, TakesLeaves, ConversionTurns, InstrTyped}
use Rattle.valid.specs.Height.{Effect, Changes, Ends, effect_of, after_effect, greatest_height, nesting}
use Rattle.validate.proofs.Checks.{all_there}
use Rattle.reduction.proofs.Lists.{length-pushed}

-- by how many operands a branch to each label takes along
abbrev pub arities : Context → List ℕ
arities c = map (λ (types : List ValType). length types) c.labels

-- the effect by numbers is that of the height
abbrev pub Agrees : (height numbers : Effect) → (before mid : List ValType) → Type 0
Agrees Ends f before mid = f ≡ Ends
Agrees (Changes pops pushes) f before mid =
    (f ≡ Changes pops pushes) × ((left : ℕ) × (length before ≡ pops + left) × (length mid ≡ pushes + left))

turned : (taken given before after : List ValType) → TakesLeaves taken given before after
    → (left : ℕ) × (length before ≡ length taken + left) × (length after ≡ length given + left)
turned taken given before after (rest, a, b) = (
  length rest,
  ap (λ (ts : List ValType). length ts) a ∙ length-pushed taken rest,
  ap (λ (ts : List ValType). length ts) b ∙ length-pushed given rest,
)

-- where one operand is on top of the others
turned_on : (taken given before after : List ValType) (t : ValType) → TakesLeaves (taken ++ (t ∷ [])) given before after
    → (left : ℕ) × (length before ≡ length taken + 1 + left) × (length after ≡ length given + left)
turned_on taken given before after t turns =
    let r = turned (taken ++ (t ∷ [])) given before after turns in
    (r.0, omega (arith, r.1, length-append taken (t ∷ [])), r.2)

called : (m : Contents) (f : ℕ) (type : FuncType) → HasFunctionType m f type → (type_of_function m f ≡ Some type) × (type_of_function m f ≡ Some type)
called m f type (t, a, b) = (rw a b, rw a b)

agrees_call : (c : Context) (f : ℕ) (before mid : List ValType) (type : FuncType) → HasFunctionType c.module_contents f type → TakesLeaves type.params type.results before mid
    → Agrees (effect_of c (Call f)) (counts c.module_contents (arities c) (Call f)) before mid
agrees_call c f before mid type h turns =
    let r = turned type.params type.results before mid turns in
    let k = called c.module_contents f type h in
    rw k.0 (refl, (r.0, omega (arith, r.1), r.2))

agrees_convert : (c : Context) (op : Conversion) (before mid : List ValType) → ConversionTurns op before mid
    → Agrees (effect_of c (Convert op)) (counts c.module_contents (arities c) (Convert op)) before mid
agrees_convert c I32WrapI64 before mid turns = (refl, turned (type.I64 ∷ []) (type.I32 ∷ []) before mid turns)
agrees_convert c I64ExtendI32S before mid turns = (refl, turned (type.I32 ∷ []) (type.I64 ∷ []) before mid turns)
agrees_convert c I64ExtendI32U before mid turns = (refl, turned (type.I32 ∷ []) (type.I64 ∷ []) before mid turns)

pub agrees : (c : Context) (i : Instr) (before mid : List ValType) → InstrTyped c i before mid → Agrees (effect_of c i) (counts c.module_contents (arities c) i) before mid
agrees c Unreachable before mid t = refl
agrees c Nop before mid t = (refl, turned [] [] before mid t)
agrees c (Br label) before mid h = rw h.1.0 refl
agrees c (BrIf label) before mid (types, at, t) =
    let r = turned_on types types before mid type.I32 t in
    let there : slice_get (arities c) label ≡ Some (length types) =
    slice_get-map (λ (ts : List ValType). length ts) c.labels label ∙ ap (option_map (λ (ts : List ValType). length ts)) at in
    rw (at, there) (refl, r)
agrees c (BrTable labels default) before mid h = rw (h.2, all_there c h.0 labels h.1) refl
agrees c Return before mid t = refl
agrees c (Call f) before mid (type, h, t) = agrees_call c f before mid type h t
agrees c (CallIndirect x) before mid (table, ft, at, t) =
    let r = turned_on ft.params ft.results before mid type.I32 t in rw (table, at) (refl, r)
agrees c Drop before mid (t, turns) = (refl, turned (t ∷ []) [] before mid turns)
agrees c Select before mid (t, turns) = (refl, turned (t ∷ t ∷ type.I32 ∷ []) (t ∷ []) before mid turns)
agrees c (LocalGet x) before mid (t, at, turns) = rw at (refl, turned [] (t ∷ []) before mid turns)
agrees c (LocalSet x) before mid (t, at, turns) = rw at (refl, turned (t ∷ []) [] before mid turns)
agrees c (LocalTee x) before mid (t, at, turns) = rw at (refl, turned (t ∷ []) (t ∷ []) before mid turns)
agrees c (GlobalGet x) before mid (g, at, turns) = rw at (refl, turned [] (g.value_type ∷ []) before mid turns)
agrees c (GlobalSet x) before mid (g, at, var, turns) = rw at (refl, turned (g.value_type ∷ []) [] before mid turns)
agrees c (Load t at) before mid (access, turns) = rw access.0 (refl, turned (type.I32 ∷ []) (t ∷ []) before mid turns)
agrees c (LoadNarrow t width extension at) before mid (access, turns) = rw access.0 (refl, turned (type.I32 ∷ []) (t ∷ []) before mid turns)
agrees c (Store t at) before mid (access, turns) = rw access.0 (refl, turned (type.I32 ∷ t ∷ []) [] before mid turns)
agrees c (StoreNarrow t width at) before mid (access, turns) = rw access.0 (refl, turned (type.I32 ∷ t ∷ []) [] before mid turns)
agrees c MemorySize before mid (access, turns) = rw access (refl, turned [] (type.I32 ∷ []) before mid turns)
agrees c MemoryGrow before mid (access, turns) = rw access (refl, turned (type.I32 ∷ []) (type.I32 ∷ []) before mid turns)
agrees c (Const v) before mid turns = (refl, turned [] (type_of v ∷ []) before mid turns)
agrees c (Eqz t) before mid turns = (refl, turned (t ∷ []) (type.I32 ∷ []) before mid turns)
agrees c (Unary t op) before mid turns = (refl, turned (t ∷ []) (t ∷ []) before mid turns)
agrees c (Binary t op) before mid turns = (refl, turned (t ∷ t ∷ []) (t ∷ []) before mid turns)
agrees c (Compare t op) before mid turns = (refl, turned (t ∷ t ∷ []) (type.I32 ∷ []) before mid turns)
agrees c (Convert op) before mid turns = agrees_convert c op before mid turns

-- the least of what a maximum bounds
left_within : (a b k : ℕ) → max a b ≤ k → a ≤ k
left_within a b k h = omega (arith, le-max_left a b)

right_within : (a b k : ℕ) → max a b ≤ k → b ≤ k
right_within a b k h = omega (arith, le-max_right a b)

follows : (c : Context) (base : ℕ) (i : Instr) (before mid : List ValType) (rest : Code) (after : ℕ) (e : Effect)
    → Agrees e (counts c.module_contents (arities c) i) before mid
    → greatest_height c base (after_effect base (base + length before) e) rest ≤ MAX_HEIGHT
    → (greatest_height c base (base + length mid) rest ≤ MAX_HEIGHT → Counted c.module_contents (arities c) base (length mid) after rest)
    → Follows (counts c.module_contents (arities c) i) (length before) (λ k. Counted c.module_contents (arities c) base k after rest)
follows c base i before mid rest after Ends e h go = rw e tt
follows c base i before mid rest after (Changes pops pushes) (e, (left, eb, em)) h go =
    let same : max base (base + length before - pops) + pushes ≡ base + length mid = omega (arith, eb, em) in
    let low : greatest_height c base (base + length mid) rest ≤ MAX_HEIGHT = rw same at h in
    rw e (left, eb, rw em at (go low))

-- what follows a block, over what it leaves
behind : (c : Context) (base : ℕ) (rest : Code) (left : List ValType) (results : List ValType) (after : ℕ)
    → Counted c.module_contents (arities c) base (length (pushed results left)) after rest
    → Counted c.module_contents (arities c) base (length results + length left) after rest
behind c base rest left results after k = rw (length-pushed results left) at k

-- a body that begins with its parameters alone, and leaves its results alone
alone : (c : Context) (base : ℕ) (body : Code) (params results : List ValType)
    → Counted c.module_contents (arities c) base (length (pushed params [])) (length (pushed results [])) body
    → Counted c.module_contents (arities c) base (length params) (length results) body
alone c base body params results k =
    let p : length (pushed params []) ≡ length params = omega (arith, length-pushed params []) in
    let r : length (pushed results []) ≡ length results = omega (arith, length-pushed results []) in
    rw (r, p) at k

-- a sequence at the same height, over the same base
at_height : (c : Context) (base base' height height' : ℕ) (code : Code) → greatest_height c base height code ≤ MAX_HEIGHT → base ≡ base' → height ≡ height'
    → greatest_height c base' height' code ≤ MAX_HEIGHT
at_height c base base' height height' code h eb eh =
    rw (eb, eh) at h

fits : (c : Context) (base : ℕ) (before : List ValType) (code : Code) → base + length before ≤ MAX_HEIGHT
    → nesting code + length c.labels ≤ MAX_NESTING + 1 → FitsHeights (arities c) base (length before)
fits c base before code h n = record { height = h; nesting = omega (arith, length-map c.labels (λ (types : List ValType). length types)) }

-- a block that takes so many operands, over others
module _ (base taken : ℕ) (before below : List ValType) (e : length before ≡ taken + length below) where
  -- where its operands begin
  abbrev inner : ℕ
  inner = max base (base + length before - taken)

  is_inner : inner ≡ base + length below
  is_inner = omega (arith, e)

  body_counted : (c : Context) (params results : List ValType) (body : Code)
      → (greatest_height c (base + length below) (base + length below + length (pushed params [])) body ≤ MAX_HEIGHT
      → Counted c.module_contents (arities c) (base + length below) (length (pushed params [])) (length (pushed results [])) body)
      → greatest_height c inner (inner + length params) body ≤ MAX_HEIGHT
      → Counted c.module_contents (arities c) (base + length below) (length params) (length results) body
  body_counted c params results body go h =
      alone c (base + length below) body params results
      (go (at_height c inner (base + length below) _ _ body h is_inner (omega (arith, is_inner, length-pushed params []))))

  rest_counted : (c : Context) (results : List ValType) (rest : Code) (after : ℕ)
      → (greatest_height c base (base + length (pushed results below)) rest ≤ MAX_HEIGHT → Counted c.module_contents (arities c) base (length (pushed results below)) after rest)
      → greatest_height c base (inner + length results) rest ≤ MAX_HEIGHT
      → Counted c.module_contents (arities c) base (length results + length below) after rest
  rest_counted c results rest after go h =
      behind c base rest below results after (go (at_height c base base _ _ rest h refl (omega (arith, is_inner, length-pushed results below))))

  -- a body and what follows it, within the limits
  both_counted : (c d : Context) (params results : List ValType) (body rest : Code) (after : ℕ)
      → (greatest_height d (base + length below) (base + length below + length (pushed params [])) body ≤ MAX_HEIGHT
      → Counted d.module_contents (arities d) (base + length below) (length (pushed params [])) (length (pushed results [])) body)
      → (greatest_height c base (base + length (pushed results below)) rest ≤ MAX_HEIGHT → Counted c.module_contents (arities c) base (length (pushed results below)) after rest)
      → max (greatest_height d inner (inner + length params) body) (greatest_height c base (inner + length results) rest) ≤ MAX_HEIGHT
      → Counted d.module_contents (arities d) (base + length below) (length params) (length results) body
      × Counted c.module_contents (arities c) base (length results + length below) after rest
  both_counted c d params results body rest after go_in go_on h =
      let first = greatest_height d inner (inner + length params) body in
      let last = greatest_height c base (inner + length results) rest in (
        body_counted d params results body go_in (left_within first last MAX_HEIGHT h),
        rest_counted c results rest after go_on (right_within first last MAX_HEIGHT h),
      )

pub counted : (c : Context) (base : ℕ) (code : Code) (before after : List ValType) → Typed c code before after
    → greatest_height c base (base + length before) code ≤ MAX_HEIGHT → nesting code + length c.labels ≤ MAX_NESTING + 1
    → Counted c.module_contents (arities c) base (length before) (length after) code
counted c base Done before after t h n = (fits c base before Done h n, ap (λ (ts : List ValType). length ts) t)
counted c base (Plain i rest) before after (mid, ti, tr) h n =
    let height = base + length before in
    let next = greatest_height c base (after_effect base height (effect_of c i)) rest in (
      fits c base before rest (left_within height next MAX_HEIGHT h) n,
      follows c base i before mid rest (length after) (effect_of c i) (agrees c i before mid ti) (right_within height next MAX_HEIGHT h)
          (λ (k : greatest_height c base (base + length mid) rest ≤ MAX_HEIGHT). counted c base rest mid after tr k n),
    )
counted c base (Structured kind type body rest) before after (t, at, below, e, tb, tr) h n =
    let size : length before ≡ length t.params + length below = ap (λ (ts : List ValType). length ts) e ∙ length-pushed t.params below in
    let d = inside (label_types kind t) c in
    let k = rw at at h in
    let start = inner base (length t.params) before below size in
    let parts = max (greatest_height d start (start + length t.params) body) (greatest_height c base (start + length t.results) rest) in
    let low : base + length before ≤ MAX_HEIGHT = left_within (base + length before) parts MAX_HEIGHT k in
    let nb : nesting body + length d.labels ≤ MAX_NESTING + 1 = omega (arith, n) in
    let nr : nesting rest + length c.labels ≤ MAX_NESTING + 1 = omega (arith, n) in
    let both = both_counted base (length t.params) before below size c d t.params t.results body rest (length after)
    (λ (q : greatest_height d (base + length below) (base + length below + length (pushed t.params [])) body ≤ MAX_HEIGHT). counted d (base + length below) body
    (pushed t.params []) (pushed t.results []) tb q nb)
    (λ (q : greatest_height c base (base + length (pushed t.results below)) rest ≤ MAX_HEIGHT). counted c base rest (pushed t.results below) after tr q nr)
    (right_within (base + length before) parts MAX_HEIGHT k) in
    (fits c base before rest low nr, t, at, length below, size, both.0, both.1)
counted c base (If type first second rest) before after (t, at, below, e, tf, ts, tr) h n =
    let taken = length t.params + 1 in
    let size : length before ≡ taken + length below = omega (arith, ap (λ (ts : List ValType). length ts) e, length-pushed t.params below) in
    let d = inside t.results c in
    let k = rw at at h in
    let na : nesting first + length d.labels ≤ MAX_NESTING + 1 = omega (arith, n) in
    let nb : nesting second + length d.labels ≤ MAX_NESTING + 1 = omega (arith, n) in
    let nr : nesting rest + length c.labels ≤ MAX_NESTING + 1 = omega (arith, n) in
    let start = inner base taken before below size in
    let one = greatest_height d start (start + length t.params) first in
    let others = max (greatest_height d start (start + length t.params) second) (greatest_height c base (start + length t.results) rest) in
    let low : base + length before ≤ MAX_HEIGHT = left_within (base + length before) (max one others) MAX_HEIGHT k in
    let high : max one others ≤ MAX_HEIGHT = right_within (base + length before) (max one others) MAX_HEIGHT k in
    let branch = body_counted base taken before below size d t.params t.results first
    (λ (q : greatest_height d (base + length below) (base + length below + length (pushed t.params [])) first ≤ MAX_HEIGHT). counted d (base + length below) first
    (pushed t.params []) (pushed t.results []) tf q na)
    (left_within one others MAX_HEIGHT high) in
    let both = both_counted base taken before below size c d t.params t.results second rest (length after)
    (λ (q : greatest_height d (base + length below) (base + length below + length (pushed t.params [])) second ≤ MAX_HEIGHT). counted d (base + length below)
    second (pushed t.params []) (pushed t.results []) ts q nb)
    (λ (q : greatest_height c base (base + length (pushed t.results below)) rest ≤ MAX_HEIGHT). counted c base rest (pushed t.results below) after tr q nr)
    (right_within one others MAX_HEIGHT high) in
    (fits c base before rest low nr, t, at, length below, size, branch, both.0, both.1)
