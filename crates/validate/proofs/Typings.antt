-- What is left of a body whose whole is typed: each open block is typed from something that its operands stand for.
use Rattle.validate.proofs.Words.{ap, arith, AsBlock, AsLoop, BlockKind, BlockType, Checker, Checks, Code, Context, context_in, ControlFrame, Done, false, Fits}
use Rattle.validate.proofs.Words.{FuncType, Held, held_around, held_of, I32, If, Instr, label_of, label_types, length, List, None, opening_bracket, Option}
use Rattle.validate.proofs.Words.{Plain, pushed, refl, Scope, Some, Structured, subst, sym, Token, type_of_block, type_or_none, Typed, ValType, with_left, []}
use Rattle.validate.proofs.Words.{◌++◌, ◌∙◌, ◌∷◌, ◌≡◌}
use Rattle.syntax.specs.declared.instruction.Token.TheVariants as op
use Rattle.validate.specs.Inner.Rejecting.{MayBegin, MayFollow}
use Rattle.valid.proofs.Items.{same_some}
use Rattle.validate.proofs.OperandTypes.{fits_more, pushed-push}
use Rattle.validate.proofs.Opens.{Open, open_of, flat_of, loops, label_is, shape_in, returned}
use Rattle.validate.proofs.Blocks.{Begun, begun, around-begun}

-- the sequence leaves these results, from something that the operands stand for
pub record TypedFrom (c : Context) (results : List ValType) (h : Held) (code : Code) : Type 0 where
  pub from : List ValType
  pub fits : Fits h from
  pub typed : Typed c code from (pushed results [])

abbrev pub IfTyped : Context → FuncType → Option Code → Type 0
IfTyped c type None = Unit {0}
IfTyped c type (Some code) = Typed c code (pushed type.params []) (pushed type.results [])

abbrev pub TypedOpens : Scope → List ControlFrame → Held → List Open → Type 0
TypedOpens scope [] h os = Unit {0}
TypedOpens scope (f ∷ fs) h [] = Unit {0}
TypedOpens scope (f ∷ fs) h (o ∷ os) =
    TypedFrom (context_in scope (f ∷ fs)) (shape_in scope f).results h o.code
    × IfTyped (context_in scope (f ∷ fs)) (shape_in scope f) o.other
    × TypedOpens scope fs (returned scope f h.below) os

-- ---- what follows for the next operation

-- a typing rule lets the operation follow something that the operands stand for
pub record Follows (scope : Scope) (frames : List ControlFrame) (h : Held) (o : Token) : Type 0 where
  pub from : List ValType
  pub fits : Fits h from
  pub rule : MayFollow o (record { scope = scope; frames = frames; operands = h }) from

follows_at : (scope : Scope) (frames : List ControlFrame) (h : Held) (o p : Token) → p ≡ o → Follows scope frames h p → Follows scope frames h o
follows_at scope frames h o p e n = rw e at n

may_follow : (kind : BlockKind) (type : BlockType) (c : Checker) (from : List ValType) → MayBegin type c from → MayFollow (opening_bracket kind type) c from
may_follow AsBlock type c from m = m
may_follow AsLoop type c from m = m

follows_first : (scope : Scope) (f : ControlFrame) (fs : List ControlFrame) (h : Held) (o : Token) (rest : List Token) (code : Code) (other : Option Code) (os : List Open)
    → o ∷ rest ≡ flat_of (open_of code other ∷ os)
    → TypedFrom (context_in scope (f ∷ fs)) (shape_in scope f).results h code
    → Follows scope (f ∷ fs) h o
follows_first scope f fs h o rest Done None os flat p =
    let e : op.End ≡ o = cc in
    follows_at scope (f ∷ fs) h o op.End e (record { from = p.from; fits = p.fits; rule = (f, refl, p.typed) })
follows_first scope f fs h o rest Done (Some second) os flat p =
    let e : op.Else ≡ o = cc in
    follows_at scope (f ∷ fs) h o op.Else e (record { from = p.from; fits = p.fits; rule = (f, refl, p.typed) })
follows_first scope f fs h o rest (Plain i code) other os flat p =
    let e : op.Plain i ≡ o = cc in
    let t = p.typed in
    follows_at scope (f ∷ fs) h o (op.Plain i) e (record { from = p.from; fits = p.fits; rule = (t.0, t.1) })
follows_first scope f fs h o rest (Structured kind type body code) other os flat p =
    let e : opening_bracket kind type ≡ o = cc in
    let t = p.typed in
    let begins : MayBegin type (record { scope = scope; frames = f ∷ fs; operands = h }) p.from = (t.0, t.1, t.2, t.3) in
    follows_at scope (f ∷ fs) h o (opening_bracket kind type) e (record { from = p.from; fits = p.fits; rule = may_follow kind type _ p.from begins })
follows_first scope f fs h o rest (If type first second code) other os flat p =
    let e : op.If type ≡ o = cc in
    let t = p.typed in
    follows_at scope (f ∷ fs) h o (op.If type) e
    (record { from = p.from; fits = p.fits; rule = (pushed t.0.params t.2, t.3, (t.0, t.1, t.2, refl)) })

pub follows_now : (scope : Scope) (frames : List ControlFrame) (h : Held) (o : Token) (rest : List Token) (opens : List Open)
    → o ∷ rest ≡ flat_of opens → length frames ≡ length opens → TypedOpens scope frames h opens → Follows scope frames h o
follows_now scope frames h o rest [] flat same k = absurd cc
follows_now scope [] h o rest (x ∷ os) flat same k = absurd (omega arith)
follows_now scope (f ∷ fs) h o rest (x ∷ os) flat same k = follows_first scope f fs h o rest x.code x.other os flat k.0

-- ---- what is left behind one operation

pub typed_plain : (scope : Scope) (f : ControlFrame) (fs : List ControlFrame) (h j : Held) (i : Instr) (code : Code) (other : Option Code) (os : List Open)
    → Checks (context_in scope (f ∷ fs)) i h j
    → TypedOpens scope (f ∷ fs) h (open_of (Plain i code) other ∷ os)
    → TypedOpens scope (f ∷ fs) j (open_of code other ∷ os)
typed_plain scope f fs h j i code other os k p =
    let n : TypedFrom (context_in scope (f ∷ fs)) (shape_in scope f).results h (Plain i code) = p.0 in
    let t = n.typed in (
      record { from = t.0; fits = k.goes n.from t.0 n.fits t.1; typed = t.2 },
      p.1,
      rw k.below p.2,
    )

-- the second branch of an `if` begins
pub typed_other : (scope : Scope) (f : ControlFrame) (fs : List ControlFrame) (type : FuncType) (h mid : Held) (second : Code) (os : List Open)
    → shape_in scope f ≡ type → mid.below ≡ h.below
    → IfTyped (context_in scope (f ∷ fs)) (shape_in scope f) (Some second) × TypedOpens scope fs (returned scope f h.below) os
    → TypedOpens scope (f ∷ fs) (with_left type.params (held_of [] mid.below false)) (open_of second None ∷ os)
typed_other scope f fs type h mid second os shape e p = (
  record {
    from = pushed type.params [];
    fits = fits_more false type.params [] [] refl;
    typed =
        rw (sym shape) p.0;
  },
  tt,
  rw e p.1,
)

-- the parts of a block that is typed
pub record TypedParts (scope : Scope) (f g : ControlFrame) (fs : List ControlFrame) (type : FuncType) (mid : Held) (block code : Code) (other : Option Code) : Type 0 where
  pub body : Typed (context_in scope (g ∷ f ∷ fs)) block (pushed type.params []) (pushed type.results [])
  pub first : IfTyped (context_in scope (g ∷ f ∷ fs)) type other
  pub below : List ValType
  pub fits : Fits mid below
  pub rest : Typed (context_in scope (f ∷ fs)) code (pushed type.results below) (pushed (shape_in scope f).results [])

-- a block begins
pub typed_begun : (scope : Scope) (f g : ControlFrame) (fs : List ControlFrame) (type : FuncType) (taken : List ValType) (h mid : Held) (body code : Code) (first other : Option Code) (os : List Open)
    → Begun scope f g fs type taken h mid
    → TypedParts scope f g fs type mid body code first
    → IfTyped (context_in scope (f ∷ fs)) (shape_in scope f) other × TypedOpens scope fs (returned scope f h.below) os
    → TypedOpens scope (g ∷ f ∷ fs) (begun type mid) (open_of body first ∷ open_of code other ∷ os)
typed_begun scope f g fs type taken h mid body code first other os b p l =
    let d = context_in scope (g ∷ f ∷ fs) in
    let shape : type ≡ shape_in scope g = sym (ap type_or_none b.known) in
    let back : returned scope g (mid.own ++ mid.below) ≡ with_left type.results mid =
    ap (λ (t : FuncType). with_left t.results (held_around g.enclosing (mid.own ++ mid.below))) (sym shape)
    ∙ ap (with_left type.results) (around-begun g.enclosing mid b.enclosing) in
    let behind : TypedOpens scope (f ∷ fs) (with_left type.results mid) (open_of code other ∷ os) = (
      record { from = pushed type.results p.below; fits = fits_more mid.unreachable type.results mid.own p.below p.fits; typed = p.rest },
      l.0,
      rw b.takes.below l.1,
    ) in (
      record {
        from = pushed type.params [];
        fits = fits_more false type.params [] [] refl;
        typed = subst (λ (s : FuncType). Typed d body (pushed type.params []) (pushed s.results [])) shape p.body;
      },
      rw shape at p.first,
      subst (λ (k : Held). TypedOpens scope (f ∷ fs) k (open_of code other ∷ os)) (sym back) behind,
    )

named_type : (scope : Scope) (g : ControlFrame) (named : BlockType) (s type : FuncType) → g.block_type ≡ named
    → type_of_block scope.contents.now named ≡ Some s → type_of_block scope.contents.now g.block_type ≡ Some type → s ≡ type
named_type scope g named s type e p q =
    same_some s type (type_of_block scope.contents.now named) p (rw e at q)

-- the parts of a block or a loop, by its type and by what it takes and leaves
typed_inside : (scope : Scope) (f g : ControlFrame) (fs : List ControlFrame) (type named : FuncType) (h mid : Held) (body code : Code) (from below : List ValType)
    → named ≡ type → Begun scope f g fs type type.params h mid
    → Fits h from → from ≡ pushed named.params below
    → Typed (context_in scope (g ∷ f ∷ fs)) body (pushed named.params []) (pushed named.results [])
    → Typed (context_in scope (f ∷ fs)) code (pushed named.results below) (pushed (shape_in scope f).results [])
    → TypedParts scope f g fs type mid body code None
typed_inside scope f g fs type named h mid body code from below same b fits is inner rest =
    record {
      body = rw same at inner;
      first = tt;
      below = below;
      fits = (b.takes.fits below).0 (rw (is ∙ ap (λ (s : FuncType). pushed s.params below) same) at fits);
      rest = rw same at rest;
    }

pub typed_structured : (kind : BlockKind) (scope : Scope) (f g : ControlFrame) (fs : List ControlFrame) (type : FuncType) (named : BlockType) (h mid : Held) (body code : Code)
    → g.is_loop ≡ loops kind → g.block_type ≡ named → Begun scope f g fs type type.params h mid
    → TypedFrom (context_in scope (f ∷ fs)) (shape_in scope f).results h (Structured kind named body code)
    → TypedParts scope f g fs type mid body code None
typed_structured kind scope f g fs type named h mid body code is e b p =
    let t = p.typed in
    let label : label_types kind t.0 ≡ label_of scope.contents.now g =
    ap (label_types kind) (sym (ap type_or_none t.1)) ∙ sym (label_is scope g kind named is e) in
    typed_inside scope f g fs type t.0 h mid body code p.from t.2 (named_type scope g named t.0 type e t.1 b.known) b p.fits t.3
    (rw label at t.4) t.5

pub typed_if : (scope : Scope) (f g : ControlFrame) (fs : List ControlFrame) (type : FuncType) (named : BlockType) (h mid : Held) (first second code : Code)
    → g.is_loop ≡ false → g.block_type ≡ named → Begun scope f g fs type (type.params ++ I32 ∷ []) h mid
    → TypedFrom (context_in scope (f ∷ fs)) (shape_in scope f).results h (If named first second code)
    → TypedParts scope f g fs type mid first code (Some second)
typed_if scope f g fs type named h mid first second code plain e b p =
    let c = context_in scope (f ∷ fs) in
    let t = p.typed in
    let same : t.0 ≡ type = named_type scope g named t.0 type e t.1 b.known in
    let label : t.0.results ≡ label_of scope.contents.now g =
    ap (λ (s : FuncType). s.results) (sym (ap type_or_none t.1)) ∙ sym (label_is scope g AsBlock named plain e) in
    let over : p.from ≡ pushed (type.params ++ I32 ∷ []) t.2 =
    t.3 ∙ ap (λ (s : FuncType). I32 ∷ pushed s.params t.2) same ∙ sym (pushed-push type.params I32 t.2) in
    record {
      body =
          rw (sym same, sym label) t.4;
      first =
          rw (sym same, sym label) t.5;
      below = t.2;
      fits = (b.takes.fits t.2).0 (rw over at p.fits);
      rest = rw same at t.6;
    }
