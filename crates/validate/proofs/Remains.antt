-- What the rest of a body keeps where the whole does: the rules of what is named, the height and the nesting.
use Rattle.validate.proofs.Words.{arith, AsBlock, AsLoop, BeginsBlock, BlockKind, BlockType, Code, Context, context_in, ControlFrame, Done, FuncType}
use Rattle.validate.proofs.Words.{greatest_height, height_in_all, Held, If, KeepsType, Kept, length, List, MAX_HEIGHT, MAX_NESTING, nesting, None, Obeys}
use Rattle.validate.proofs.Words.{opening_bracket, Option, Plain, Rule, Scope, Some, Structured, subst, Token, ℕ, [], ◌+◌, ◌<◌, ◌∷◌, ◌≡◌, ◌≤◌}
use Rattle.syntax.specs.declared.instruction.Token.TheVariants as op
use Rattle.validate.proofs.Opens.{Open, open_of, flat_of, shape_in, returned}

-- ---- the rules of what is named

abbrev pub IfKept : Rule → Context → Option Code → Type 0
IfKept r c None = Unit {0}
IfKept r c (Some code) = Kept r c code

abbrev pub KeptOpens : Rule → Scope → List ControlFrame → List Open → Type 0
KeptOpens r scope [] os = Unit {0}
KeptOpens r scope (f ∷ fs) [] = Unit {0}
KeptOpens r scope (f ∷ fs) (o ∷ os) =
    Kept r (context_in scope (f ∷ fs)) o.code × IfKept r (context_in scope (f ∷ fs)) o.other × KeptOpens r scope fs os

-- ---- the height

abbrev pub IfLow : Context → FuncType → ℕ → Option Code → Type 0
IfLow c type base None = Unit {0}
IfLow c type base (Some code) = greatest_height c base (length type.params + base) code ≤ MAX_HEIGHT

abbrev pub LowOpens : Scope → List ControlFrame → Held → List Open → Type 0
LowOpens scope [] h os = height_in_all h ≤ MAX_HEIGHT
LowOpens scope (f ∷ fs) h [] = height_in_all h ≤ MAX_HEIGHT
LowOpens scope (f ∷ fs) h (o ∷ os) =
    (greatest_height (context_in scope (f ∷ fs)) (length h.below) (height_in_all h) o.code ≤ MAX_HEIGHT)
    × IfLow (context_in scope (f ∷ fs)) (shape_in scope f) (length h.below) o.other
    × LowOpens scope fs (returned scope f h.below) os

-- ---- the nesting

abbrev pub IfNested : ℕ → Option Code → Type 0
IfNested depth None = Unit {0}
IfNested depth (Some code) = nesting code + depth ≤ MAX_NESTING

abbrev pub NestedOpens : List ControlFrame → List Open → Type 0
NestedOpens [] os = Unit {0}
NestedOpens (f ∷ fs) [] = Unit {0}
NestedOpens (f ∷ fs) (o ∷ os) = (nesting o.code + length fs ≤ MAX_NESTING) × IfNested (length fs) o.other × NestedOpens fs os

-- ---- what follows for the next operation

-- a sequence's height is at least that at its begin
reaches : (c : Context) (base height : ℕ) (code : Code) → height ≤ greatest_height c base height code
reaches c base height Done = omega arith
reaches c base height _ = omega arith

pub now_low : (scope : Scope) (frames : List ControlFrame) (h : Held) (os : List Open) → LowOpens scope frames h os → height_in_all h ≤ MAX_HEIGHT
now_low scope [] h os low = low
now_low scope (f ∷ fs) h [] low = low
now_low scope (f ∷ fs) h (o ∷ os) low =
    let r : height_in_all h ≤ greatest_height (context_in scope (f ∷ fs)) (length h.below) (height_in_all h) o.code = reaches _ _ _ o.code in
    let l : greatest_height (context_in scope (f ∷ fs)) (length h.below) (height_in_all h) o.code ≤ MAX_HEIGHT = low.0 in
    omega arith

obeys : (r : Rule) (c : Context) (kind : BlockKind) (type : BlockType) → KeepsType r c type → Obeys r c (opening_bracket kind type)
obeys r c AsBlock type k = k
obeys r c AsLoop type k = k

obeyed_first : (r : Rule) (c : Context) (o : Token) (rest : List Token) (code : Code) (other : Option Code) (os : List Open)
    → o ∷ rest ≡ flat_of (open_of code other ∷ os) → Kept r c code → Obeys r c o
obeyed_first r c o rest Done None os flat k = let e : op.End ≡ o = cc in subst (λ (x : Token). Obeys r c x) e tt
obeyed_first r c o rest Done (Some second) os flat k = let e : op.Else ≡ o = cc in subst (λ (x : Token). Obeys r c x) e tt
obeyed_first r c o rest (Plain i code) other os flat k = let e : op.Plain i ≡ o = cc in subst (λ (x : Token). Obeys r c x) e k.0
obeyed_first r c o rest (Structured kind type body code) other os flat k =
    let e : opening_bracket kind type ≡ o = cc in rw e at (obeys r c kind type k.0)
obeyed_first r c o rest (If type first second code) other os flat k = let e : op.If type ≡ o = cc in subst (λ (x : Token). Obeys r c x) e k.0

pub obeyed : (r : Rule) (scope : Scope) (frames : List ControlFrame) (o : Token) (rest : List Token) (opens : List Open)
    → o ∷ rest ≡ flat_of opens → length frames ≡ length opens → KeptOpens r scope frames opens → Obeys r (context_in scope frames) o
obeyed r scope frames o rest [] flat same k = absurd cc
obeyed r scope [] o rest (x ∷ os) flat same k = absurd (omega arith)
obeyed r scope (f ∷ fs) o rest (x ∷ os) flat same k = obeyed_first r (context_in scope (f ∷ fs)) o rest x.code x.other os flat k.0

shallow_first : (depth : ℕ) (o : Token) (rest : List Token) (code : Code) (other : Option Code) (os : List Open)
    → o ∷ rest ≡ flat_of (open_of code other ∷ os) → BeginsBlock o → nesting code + depth ≤ MAX_NESTING → depth < MAX_NESTING
shallow_first depth o rest Done None os flat opening n = let e : o ≡ op.End = cc in absurd (subst BeginsBlock e opening)
shallow_first depth o rest Done (Some second) os flat opening n = let e : o ≡ op.Else = cc in absurd (subst BeginsBlock e opening)
shallow_first depth o rest (Plain i code) other os flat opening n = let e : o ≡ op.Plain i = cc in absurd (subst BeginsBlock e opening)
shallow_first depth o rest (Structured kind type body code) other os flat opening n = omega arith
shallow_first depth o rest (If type first second code) other os flat opening n = omega arith

pub shallow_now : (frames : List ControlFrame) (o : Token) (rest : List Token) (opens : List Open)
    → o ∷ rest ≡ flat_of opens → length frames ≡ length opens → BeginsBlock o → NestedOpens frames opens → length frames ≤ MAX_NESTING
shallow_now frames o rest [] flat same opening n = absurd cc
shallow_now [] o rest (x ∷ os) flat same opening n = omega arith
shallow_now (f ∷ fs) o rest (x ∷ os) flat same opening n =
    let d : length fs < MAX_NESTING = shallow_first (length fs) o rest x.code x.other os flat opening n.0 in omega arith
