-- A typed body with which its side table agrees stands in its operations as the table tells.
use Rattle.reduction.proofs.Words.{Agrees, ap, arith, Body, ClosesTo, Code, counts, Done, drop, Follows, Guided, If, inside, keeps, label_types, led_by, length}
use Rattle.reduction.proofs.Words.{List, max, opening_bracket, operations_to, Plain, pushed, size, slice_get, Some, Structured, subst, suc, sym, Target, Token}
use Rattle.reduction.proofs.Words.{Typed, ValType, zero, ℕ, [], ◌+◌, ◌-◌, ◌∙◌, ◌∷◌, ◌≡◌}
use Rattle.syntax.specs.declared.instruction.Token.TheVariants as op
use Rattle.valid.specs.Typing.{Context}
use Rattle.valid.specs.Height.{Effect, Changes, Ends, effect_of, after_effect}
use Rattle.validate.specs.Inner.Writing.{target}
use Rattle.reduction.proofs.Lists.{length-pushed}
use Rattle.reduction.proofs.Heights.{Agrees as SameEffect, agrees, arities}

-- the operation at a place, and what is behind it
pub first_at : (ops : List Token) (at : ℕ) (o : Token) (rest : List Token) → drop at ops ≡ o ∷ rest → (slice_get ops at ≡ Some o) × (drop (at + 1) ops ≡ rest)
first_at [] zero o rest e = absurd (cc)
first_at [] (suc at) o rest e = absurd (cc)
first_at (x ∷ ops) zero o rest e = (cc, cc)
first_at (x ∷ ops) (suc at) o rest e =
    let r = first_at ops at o rest e in
    let same : suc (at + 1) ≡ suc at + 1 = omega arith in
    (r.0, rw (sym same) r.1)

-- what is behind a sequence
pub behind_code : (ops : List Token) (close : Token) (c : Code) (at : ℕ) (after : List Token) → drop at ops ≡ operations_to close c after → drop (at + size c) ops ≡ after
behind_code ops close Done at after e = (first_at ops at close after e).1
behind_code ops close (Plain i rest) at after e =
    let r = behind_code ops close rest (at + 1) after (first_at ops at (op.Plain i) (operations_to close rest after) e).1 in
    subst (λ (k : ℕ). drop k ops ≡ after) (omega arith) r
behind_code ops close (Structured kind t body rest) at after e =
    let after_body = operations_to close rest after in
    let b = behind_code ops op.End body (at + 1) after_body (first_at ops at (opening_bracket kind t) (operations_to op.End body after_body) e).1 in
    subst (λ (k : ℕ). drop k ops ≡ after) (omega arith) (behind_code ops close rest (at + 1 + size body) after b)
behind_code ops close (If t first second rest) at after e =
    let after_second = operations_to close rest after in
    let after_first = operations_to op.End second after_second in
    let a = behind_code ops op.Else first (at + 1) after_first (first_at ops at (op.If t) (operations_to op.Else first after_first) e).1 in
    let b = behind_code ops op.End second (at + 1 + size first) after_second a in
    subst (λ (k : ℕ). drop k ops ≡ after) (omega arith) (behind_code ops close rest (at + 1 + size first + size second) after b)

-- what follows an instruction, at its height
flows : (base : ℕ) (before mid : List ValType) (P Q : ℕ → Type 0) (e f : Effect) → SameEffect e f before mid
    → Q (after_effect base (base + length before) e) → (Q (base + length mid) → P (length mid)) → Follows f (length before) P
flows base before mid P Q Ends f h q go = rw h tt
flows base before mid P Q (Changes pops pushes) f (h, (left, eb, em)) q go =
    let same : max base (base + length before - pops) + pushes ≡ base + length mid = omega (arith, eb, em) in
    rw h (left, eb, subst P em (go (subst Q same q)))

module _ (b : Body) where
  -- a body that begins with its parameters alone, and leaves its results alone
  alone : (d : Context) (labels : List Target) (base at end : ℕ) (body : Code) (params results : List ValType)
      → Agrees d b.table labels at base (base + length params) body
      → (Agrees d b.table labels at base (base + length (pushed params [])) body
      → Guided d.module_contents b labels base (length (pushed params [])) (length (pushed results [])) at end body)
      → Guided d.module_contents b labels base (length params) (length results) at end body
  alone d labels base at end body params results a go =
      let p : length (pushed params []) ≡ length params = omega (arith, length-pushed params []) in
      let r : length (pushed results []) ≡ length results = omega (arith, length-pushed results []) in
      rw (r, p) at (go (rw p a))

  -- what follows a block, over what it leaves
  rest_guided : (c : Context) (labels : List Target) (base after at behind : ℕ) (rest : Code) (results below : List ValType)
      → Agrees c b.table labels at base (base + length below + length results) rest
      → (Agrees c b.table labels at base (base + length (pushed results below)) rest → Guided c.module_contents b labels base (length (pushed results below)) after at behind rest)
      → Guided c.module_contents b labels base (length results + length below) after at behind rest
  rest_guided c labels base after at behind rest results below a go =
      subst (λ (n : ℕ). Guided c.module_contents b labels base n after at behind rest) (length-pushed results below)
      (go (subst (λ (n : ℕ). Agrees c b.table labels at base n rest) (omega (arith, length-pushed results below)) a))

  pub guided : (c : Context) (labels : List Target) (base at end behind : ℕ) (close : Token) (tail : List Token) (code : Code) (before after : List ValType)
      → keeps labels ≡ arities c → Typed c code before after → Agrees c b.table labels at base (base + length before) code
      → drop at b.operations ≡ operations_to close code tail → end + 1 ≡ at + size code → ClosesTo b base (length after) end behind (Some close)
      → Guided c.module_contents b labels base (length before) (length after) at behind code
  guided c labels base at end behind close tail Done before after same t a s e closes =
      let here : slice_get b.operations at ≡ Some close = (first_at b.operations at close tail s).0 in
      let place : end ≡ at = omega (arith, e) in (
        rw here (subst (λ (n : ℕ). ClosesTo b base (length after) n behind (Some close)) place closes),
        ap (λ (ts : List ValType). length ts) t,
      )
  guided c labels base at end behind close tail (Plain i rest) before after same (mid, ti, tr) (tells, a) s e closes =
      let here = first_at b.operations at (op.Plain i) (operations_to close rest tail) s in (
        here.0,
        tells,
        rw same (flows base before mid (λ (n : ℕ). Guided c.module_contents b labels base n (length after) (at + 1) behind rest)
            (λ (n : ℕ). Agrees c b.table labels (at + 1) base n rest) (effect_of c i) (counts c.module_contents (arities c) i) (agrees c i before mid ti) a
            (λ (q : Agrees c b.table labels (at + 1) base (base + length mid) rest).
            guided c labels base (at + 1) end behind close tail rest mid after same tr q here.1 (omega (arith, e)) closes)),
      )
  guided c labels base at end behind close tail (Structured kind type body rest) before after same (t, found, below, e, tb, tr) a s es closes =
      let size_of : length before ≡ length t.params + length below = ap (λ (ts : List ValType). length ts) e ∙ length-pushed t.params below in
      let is : max base (base + length before - length t.params) ≡ base + length below = omega (arith, size_of) in
      let k = rw found at a in
      let own = label_types kind t in
      let d = inside own c in
      let to = at + 1 + size body in
      let back = led_by kind at to in
      let after_body = operations_to close rest tail in
      let here = first_at b.operations at (opening_bracket kind type) (operations_to op.End body after_body) s in
      let there : drop to b.operations ≡ after_body = behind_code b.operations op.End body (at + 1) after_body here.1 in
      let ab = rw is at k.0 in
      let ar = rw is at k.1 in (
        here.0,
        t,
        found,
        length below,
        size_of,
        alone d (target back (length own) (base + length below) ∷ labels) (base + length below) (at + 1) to body t.params t.results ab
            (λ (q : Agrees d b.table (target back (length own) (base + length below) ∷ labels) (at + 1) (base + length below) (base + length below + length (pushed t.params [])) body).
            guided d (target back (length own) (base + length below) ∷ labels) (base + length below) (at + 1) (at + size body) to op.End after_body body (pushed t.params []) (pushed t.results [])
            (ap (λ (ls : List ℕ). length own ∷ ls) same) tb q here.1 (omega arith) (omega arith)),
        rest_guided c labels base (length after) to behind rest t.results below ar
            (λ (q : Agrees c b.table labels to base (base + length (pushed t.results below)) rest).
            guided c labels base to end behind close tail rest (pushed t.results below) after same tr q there (omega (arith, es)) closes),
      )
  guided c labels base at end behind close tail (If type first second rest) before after same (t, found, below, e, tf, ts, tr) a s es closes =
      let size_of : length before ≡ length t.params + 1 + length below = omega (arith, ap (λ (ts : List ValType). length ts) e, length-pushed t.params below) in
      let is : max base (base + length before - (length t.params + 1)) ≡ base + length below = omega (arith, size_of) in
      let k = rw found at a in
      let d = inside t.results c in
      let other = at + 1 + size first in
      let to = other + size second in
      let low = base + length below in
      let after_second = operations_to close rest tail in
      let after_first = operations_to op.End second after_second in
      let here = first_at b.operations at (op.If type) (operations_to op.Else first after_first) s in
      let begins : drop other b.operations ≡ after_first = behind_code b.operations op.Else first (at + 1) after_first here.1 in
      let there : drop to b.operations ≡ after_second = behind_code b.operations op.End second other after_second begins in
      let at_if = rw is at k.0 in
      let at_else = rw is at k.1 in
      let af = rw is at k.2 in
      let as_ = rw is at k.3 in
      let ar = rw is at k.4 in
      let inner_labels = target to (length t.results) low ∷ labels in
      let results : length (pushed t.results []) ≡ length t.results = omega (arith, length-pushed t.results []) in
      let same_inside = ap (λ (ls : List ℕ). length t.results ∷ ls) same in (
        here.0,
        t,
        found,
        length below,
        size_of,
        at_if,
        alone d inner_labels low (at + 1) to first t.params t.results af
            (λ (q : Agrees d b.table inner_labels (at + 1) low (low + length (pushed t.params [])) first).
            guided d inner_labels low (at + 1) (at + size first) to op.Else after_first first (pushed t.params []) (pushed t.results [])
            same_inside tf q here.1 (omega arith)
            (omega arith, rw results at_else)),
        alone d inner_labels low other to second t.params t.results as_
            (λ (q : Agrees d b.table inner_labels other low (low + length (pushed t.params [])) second).
            guided d inner_labels low other (at + size first + size second) to op.End after_second second (pushed t.params []) (pushed t.results [])
            same_inside ts q begins (omega arith) (omega arith)),
        rest_guided c labels base (length after) to behind rest t.results below ar
            (λ (q : Agrees c b.table labels to base (base + length (pushed t.results below)) rest).
            guided c labels base to end behind close tail rest (pushed t.results below) after same tr q there (omega (arith, es)) closes),
      )
