-- What a block keeps, its parts keep.
use Rattle.validate.proofs.Words.{after_effect, ap, arith, AsBlock, BlockKind, BlockType, Checks, Code, Context, context_in, ControlFrame, Done, effect_of}
use Rattle.validate.proofs.Words.{false, FuncType, greatest_height, height_in_all, Held, held_around, held_of, I32, If, inside, Instr, Kept, Known, label_of}
use Rattle.validate.proofs.Words.{label_types, length, length-append, length-map, length_push, List, map, max, MAX_HEIGHT, MAX_NESTING, nesting, None, Operand}
use Rattle.validate.proofs.Words.{Option, Plain, Rule, Scope, shape_of, Some, Structured, subst, suc, sym, type_of_block, type_or_none, ValType, with_left, ℕ}
use Rattle.validate.proofs.Words.{[], ◌++◌, ◌+◌, ◌-◌, ◌∙◌, ◌∷◌, ◌≡◌, ◌≤◌}
use Rattle.validate.proofs.OperandTypes.{length-pushed}
use Rattle.validate.proofs.Opens.{Open, open_of, loops, label_is, shape_in, returned}
use Rattle.validate.proofs.Remains.{IfKept, IfLow, IfNested, LowOpens}
use Rattle.validate.proofs.Blocks.{Begun, begun, height-begun, around-begun, block_height, if_height}

pub record KeptParts (r : Rule) (scope : Scope) (f g : ControlFrame) (fs : List ControlFrame) (block code : Code) (other : Option Code) : Type 0 where
  pub body : Kept r (context_in scope (g ∷ f ∷ fs)) block
  pub first : IfKept r (context_in scope (g ∷ f ∷ fs)) other
  pub rest : Kept r (context_in scope (f ∷ fs)) code

pub record LowParts (scope : Scope) (f g : ControlFrame) (fs : List ControlFrame) (type : FuncType) (h mid : Held) (block code : Code) (other : Option Code) : Type 0 where
  pub body : greatest_height (context_in scope (g ∷ f ∷ fs)) (length mid.own + length mid.below) (length mid.own + length mid.below + length type.params) block ≤ MAX_HEIGHT
  pub first : IfLow (context_in scope (g ∷ f ∷ fs)) type (length mid.own + length mid.below) other
  pub rest : greatest_height (context_in scope (f ∷ fs)) (length h.below) (length mid.own + length mid.below + length type.results) code ≤ MAX_HEIGHT

pub record NestedParts (fs : List ControlFrame) (block code : Code) (other : Option Code) : Type 0 where
  pub body : nesting block + suc (length fs) ≤ MAX_NESTING
  pub first : IfNested (suc (length fs)) other
  pub rest : nesting code + length fs ≤ MAX_NESTING

-- ---- the rules of what is named

pub kept_structured : (kind : BlockKind) (r : Rule) (scope : Scope) (f g : ControlFrame) (fs : List ControlFrame) (type : BlockType) (body code : Code)
    → g.is_loop ≡ loops kind → g.block_type ≡ type → Kept r (context_in scope (f ∷ fs)) (Structured kind type body code)
    → KeptParts r scope f g fs body code None
kept_structured kind r scope f g fs type body code is e k = record {
  body = rw (label_is scope g kind type is e) k.1;
  first = tt;
  rest = k.2;
}

pub kept_if : (r : Rule) (scope : Scope) (f g : ControlFrame) (fs : List ControlFrame) (type : BlockType) (first second code : Code)
    → g.is_loop ≡ false → g.block_type ≡ type → Kept r (context_in scope (f ∷ fs)) (If type first second code)
    → KeptParts r scope f g fs first code (Some second)
kept_if r scope f g fs type first second code plain e k = record {
  body = rw (label_is scope g AsBlock type plain e) k.1;
  first = rw (label_is scope g AsBlock type plain e) k.2;
  rest = k.3;
}

-- ---- the nesting

pub nested_structured : (kind : BlockKind) (type : BlockType) (fs : List ControlFrame) (body code : Code)
    → nesting (Structured kind type body code) + length fs ≤ MAX_NESTING → NestedParts fs body code None
nested_structured kind type fs body code n = record { body = omega arith; first = tt; rest = omega arith }

pub nested_if : (type : BlockType) (fs : List ControlFrame) (first second code : Code) → nesting (If type first second code) + length fs ≤ MAX_NESTING → NestedParts fs first code (Some second)
nested_if type fs first second code n = record { body = omega arith; first = omega arith; rest = omega arith }

-- ---- the height

max_second : (m n : ℕ) → max m n ≤ MAX_HEIGHT → n ≤ MAX_HEIGHT
max_second m n l = omega arith

second_of_three : (a b c : ℕ) → max a (max b c) ≤ MAX_HEIGHT → b ≤ MAX_HEIGHT
second_of_three a b c l = omega arith

third_of_three : (a b c : ℕ) → max a (max b c) ≤ MAX_HEIGHT → c ≤ MAX_HEIGHT
third_of_three a b c l = omega arith

pub low_plain : (scope : Scope) (f : ControlFrame) (fs : List ControlFrame) (h j : Held) (i : Instr) (code : Code) (other : Option Code) (os : List Open)
    → Checks (context_in scope (f ∷ fs)) i h j
    → LowOpens scope (f ∷ fs) h (open_of (Plain i code) other ∷ os)
    → LowOpens scope (f ∷ fs) j (open_of code other ∷ os)
low_plain scope f fs h j i code other os k l =
    let c = context_in scope (f ∷ fs) in
    let base : length h.below ≡ length j.below = ap (λ (os : List Operand). length os) (sym k.below) in
    let next : greatest_height c (length h.below) (after_effect (length h.below) (height_in_all h) (effect_of c i)) code ≤ MAX_HEIGHT =
    max_second (height_in_all h) (greatest_height c (length h.below) (after_effect (length h.below) (height_in_all h) (effect_of c i)) code) l.0 in (
      rw (sym k.height, base) at next,
      rw base at l.1,
      rw k.below l.2,
    )

-- the second branch of an `if` begins
pub low_other : (scope : Scope) (f : ControlFrame) (fs : List ControlFrame) (type : FuncType) (h mid : Held) (second : Code) (os : List Open)
    → shape_in scope f ≡ type → mid.below ≡ h.below
    → (greatest_height (context_in scope (f ∷ fs)) (length h.below) (height_in_all h) Done ≤ MAX_HEIGHT)
    × IfLow (context_in scope (f ∷ fs)) (shape_in scope f) (length h.below) (Some second)
    × LowOpens scope fs (returned scope f h.below) os
    → LowOpens scope (f ∷ fs) (with_left type.params (held_of [] mid.below false)) (open_of second None ∷ os)
low_other scope f fs type h mid second os shape e l =
    let c = context_in scope (f ∷ fs) in
    let start = with_left type.params (held_of [] mid.below false) in
    let high : length type.params + length mid.below ≡ height_in_all start = omega (arith, length-pushed (map Known type.params) [], length-map type.params Known) in
    let first : greatest_height c (length h.below) (length type.params + length h.below) second ≤ MAX_HEIGHT =
    rw (sym shape) l.1 in
    let there : greatest_height c (length mid.below) (length type.params + length mid.below) second ≤ MAX_HEIGHT =
    rw e first in (
      rw high at there,
      tt,
      rw e l.2,
    )

-- a block begins
pub low_begun : (scope : Scope) (f g : ControlFrame) (fs : List ControlFrame) (type : FuncType) (taken : List ValType) (h mid : Held) (body code : Code) (first other : Option Code) (os : List Open)
    → Begun scope f g fs type taken h mid
    → LowParts scope f g fs type h mid body code first
    → IfLow (context_in scope (f ∷ fs)) (shape_in scope f) (length h.below) other × LowOpens scope fs (returned scope f h.below) os
    → LowOpens scope (g ∷ f ∷ fs) (begun type mid) (open_of body first ∷ open_of code other ∷ os)
low_begun scope f g fs type taken h mid body code first other os b p l =
    let c = context_in scope (f ∷ fs) in
    let d = context_in scope (g ∷ f ∷ fs) in
    let below : mid.below ≡ h.below = b.takes.below in
    let shape : shape_in scope g ≡ type = ap type_or_none b.known in
    let back : returned scope g (mid.own ++ mid.below) ≡ with_left type.results mid =
    ap (λ (t : FuncType). with_left t.results (held_around g.enclosing (mid.own ++ mid.below))) shape
    ∙ ap (with_left type.results) (around-begun g.enclosing mid b.enclosing) in
    let base : length mid.own + length mid.below ≡ length (mid.own ++ mid.below) = sym (length-append mid.own mid.below) in
    let high : length mid.own + length mid.below + length type.params ≡ height_in_all (begun type mid) = omega (arith, height-begun type mid) in
    let left : length mid.own + length mid.below + length type.results ≡ height_in_all (with_left type.results mid) =
    omega (arith, length-pushed (map Known type.results) mid.own, length-map type.results Known) in
    let body_low : greatest_height d (length mid.own + length mid.below) (height_in_all (begun type mid)) body ≤ MAX_HEIGHT =
    rw high at p.body in
    let rest_low : greatest_height c (length h.below) (height_in_all (with_left type.results mid)) code ≤ MAX_HEIGHT =
    rw left at p.rest in
    let behind : LowOpens scope (f ∷ fs) (with_left type.results mid) (open_of code other ∷ os) = (
      rw (sym below) at rest_low,
      rw below l.0,
      rw below l.1,
    ) in (
      rw base at body_low,
      rw (sym shape, base) at p.first,
      subst (λ (k : Held). LowOpens scope (f ∷ fs) k (open_of code other ∷ os)) (sym back) behind,
    )

-- the height in a block or a loop whose label takes these types, by what it takes and leaves
low_inside : (scope : Scope) (f g : ControlFrame) (fs : List ControlFrame) (type : FuncType) (labels : List ValType) (h mid : Held) (body code : Code)
    → labels ≡ label_of scope.contents.now g → Begun scope f g fs type type.params h mid
    → block_height (context_in scope (f ∷ fs)) labels type (length h.below) (height_in_all h) body code ≤ MAX_HEIGHT
    → LowParts scope f g fs type h mid body code None
low_inside scope f g fs type labels h mid body code label b known =
    let c = context_in scope (f ∷ fs) in
    let at = length mid.own + length mid.below in
    let inner : max (length h.below) (height_in_all h - length type.params) ≡ at = omega (arith, b.takes.height, ap (λ (os : List Operand). length os) b.takes.below) in
    let within = greatest_height (inside labels c) at (at + length type.params) body in
    let behind = greatest_height c (length h.below) (at + length type.results) code in
    let all : max (height_in_all h) (max within behind) ≤ MAX_HEIGHT =
    rw inner at known in
    record {
      body =
          rw label at (second_of_three (height_in_all h) within behind all);
      first = tt;
      rest = third_of_three (height_in_all h) within behind all;
    }

named_shape : (scope : Scope) (g : ControlFrame) (type : FuncType) (named : BlockType) → g.block_type ≡ named → type_of_block scope.contents.now g.block_type ≡ Some type
    → shape_of scope.contents.now named ≡ type
named_shape scope g type named e known = rw e at (ap type_or_none known)

pub low_structured : (kind : BlockKind) (scope : Scope) (f g : ControlFrame) (fs : List ControlFrame) (type : FuncType) (named : BlockType) (h mid : Held) (body code : Code)
    → g.is_loop ≡ loops kind → g.block_type ≡ named → Begun scope f g fs type type.params h mid
    → greatest_height (context_in scope (f ∷ fs)) (length h.below) (height_in_all h) (Structured kind named body code) ≤ MAX_HEIGHT
    → LowParts scope f g fs type h mid body code None
low_structured kind scope f g fs type named h mid body code is e b l =
    let shape = named_shape scope g type named e b.known in
    let label : label_types kind type ≡ label_of scope.contents.now g = ap (label_types kind) (sym shape) ∙ sym (label_is scope g kind named is e) in
    low_inside scope f g fs type (label_types kind type) h mid body code label b
    (rw shape at l)

-- the parts of the height of an `if` whose branches begin over this many operands
abbrev if_over : Context → FuncType → ℕ → ℕ → ℕ → Code → Code → Code → ℕ
if_over c type base height inner first second code =
    max height (max (greatest_height (inside type.results c) inner (inner + length type.params) first)
    (max (greatest_height (inside type.results c) inner (inner + length type.params) second)
    (greatest_height c base (inner + length type.results) code)))

record LowIf (c : Context) (type : FuncType) (base inner : ℕ) (block branch code : Code) : Type 0 where
  pub first : greatest_height (inside type.results c) inner (inner + length type.params) block ≤ MAX_HEIGHT
  pub second : greatest_height (inside type.results c) inner (inner + length type.params) branch ≤ MAX_HEIGHT
  pub rest : greatest_height c base (inner + length type.results) code ≤ MAX_HEIGHT

second_of_four : (a b c d : ℕ) → max a (max b (max c d)) ≤ MAX_HEIGHT → b ≤ MAX_HEIGHT
second_of_four a b c d l = omega arith

third_of_four : (a b c d : ℕ) → max a (max b (max c d)) ≤ MAX_HEIGHT → c ≤ MAX_HEIGHT
third_of_four a b c d l = omega arith

fourth_of_four : (a b c d : ℕ) → max a (max b (max c d)) ≤ MAX_HEIGHT → d ≤ MAX_HEIGHT
fourth_of_four a b c d l = omega arith

parts_of_if : (c : Context) (type : FuncType) (base height inner : ℕ) (first second code : Code)
    → if_over c type base height inner first second code ≤ MAX_HEIGHT → LowIf c type base inner first second code
parts_of_if c type base height inner first second code l = record {
  first =
      second_of_four height (greatest_height (inside type.results c) inner (inner + length type.params) first)
      (greatest_height (inside type.results c) inner (inner + length type.params) second) (greatest_height c base (inner + length type.results) code) l;
  second =
      third_of_four height (greatest_height (inside type.results c) inner (inner + length type.params) first)
      (greatest_height (inside type.results c) inner (inner + length type.params) second) (greatest_height c base (inner + length type.results) code) l;
  rest =
      fourth_of_four height (greatest_height (inside type.results c) inner (inner + length type.params) first)
      (greatest_height (inside type.results c) inner (inner + length type.params) second) (greatest_height c base (inner + length type.results) code) l;
}

pub low_if : (scope : Scope) (f g : ControlFrame) (fs : List ControlFrame) (type : FuncType) (named : BlockType) (h mid : Held) (first second code : Code)
    → g.is_loop ≡ false → g.block_type ≡ named → Begun scope f g fs type (type.params ++ I32 ∷ []) h mid
    → greatest_height (context_in scope (f ∷ fs)) (length h.below) (height_in_all h) (If named first second code) ≤ MAX_HEIGHT
    → LowParts scope f g fs type h mid first code (Some second)
low_if scope f g fs type named h mid first second code plain e b l =
    let c = context_in scope (f ∷ fs) in
    let base = length h.below in
    let over = length mid.own + length mid.below in
    let shape = named_shape scope g type named e b.known in
    let label : type.results ≡ label_of scope.contents.now g = ap (λ (t : FuncType). t.results) (sym shape) ∙ sym (label_is scope g AsBlock named plain e) in
    let inner : max (length h.below) (height_in_all h - (length type.params + 1)) ≡ length mid.own + length mid.below =
    omega (arith, b.takes.height, length_push type.params I32, ap (λ (os : List Operand). length os) b.takes.below) in
    let known : if_height c type base (height_in_all h) first second code ≤ MAX_HEIGHT =
    rw shape at l in
    let p : LowIf c type base over first second code =
    parts_of_if c type base (height_in_all h) over first second code
    (rw inner at known) in
    let other : greatest_height (inside (label_of scope.contents.now g) c) over (over + length type.params) second ≤ MAX_HEIGHT =
    rw label at p.second in
    record {
      body = rw label at p.first;
      first =
          rw (let swap : over + length type.params ≡ length type.params + over = omega arith in swap) at other;
      rest = p.rest;
    }
