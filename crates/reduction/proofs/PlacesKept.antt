-- Each step leads the calls to the places that the operations and the side tables tell.
use Rattle.reduction.proofs.Words.{ap, arith, AsBlock, AsLoop, at_code, Body, Bool, Br, chosen, ClosesTo, Code, code_left, Contents, Context, continuing, Done}
use Rattle.reduction.proofs.Words.{drop, false, Frame, FuncType, Goes, going_on, Guided, height_of, if◌then◌else◌, Instr, IsPlaced, jumped, keeps, Label}
use Rattle.reduction.proofs.Words.{label_for, left_with, length, length-append, length-drop, length-take-le, List, min, Move, next, None, operands_of, Option}
use Rattle.reduction.proofs.Words.{Over, pc_of, Place, receiving, refl, size, slice_get, slice_get_past, Some, StaysInBlock, stepped, Stuck, subst, suc, sym}
use Rattle.reduction.proofs.Words.{take, Target, Tells, Token, true, Value, with_locals, zero, ℕ, [], ◌++◌, ◌+◌, ◌==◌, ◌∙◌, ◌∷◌, ◌≡◌}
use Rattle.reduction.proofs.Contexts.{with_locals-height, with_locals-code}
use Rattle.syntax.specs.declared.instruction.Token.TheVariants as op
use Rattle.valid.specs.Targets.{Lists}
use Rattle.instance.specs.Store.{Store as Memory_and_globals}
use Rattle.reduction.specs.Places.{GoesOn, LeadsOn}
use Rattle.reduction.proofs.HeightsKept.{tested, called, found}
use Rattle.reduction.proofs.Rules.{Reaches, InCall, Jumps, Calling, Opening, StepRule, next_rule}
use Rattle.reduction.proofs.Rules as rule

-- the target of the label that a table of labels gives
pub listed : (chosen labels : List Target) (ls : List ℕ) (start default n : ℕ) → Lists chosen labels start (ls ++ (default ∷ []))
    → slice_get chosen (start + min n (length ls)) ≡ slice_get labels (label_for (slice_get ls n) default)
listed chosen labels [] start default n h = subst (λ (k : ℕ). slice_get chosen k ≡ slice_get labels default) (omega arith) h.0
listed chosen labels (l ∷ ls) start default zero h = subst (λ (k : ℕ). slice_get chosen k ≡ slice_get labels l) (omega arith) h.0
listed chosen labels (l ∷ ls) start default (suc n) h =
    subst (λ (k : ℕ). slice_get chosen k ≡ slice_get labels (label_for (slice_get ls n) default)) (omega arith) (listed chosen labels ls (start + 1) default n h.1)

-- an instruction that neither branches nor calls leads to the next operation
pub jumped-plain : (b : Body) (pc : ℕ) (i : Instr) (values : List Value) → StaysInBlock i → jumped b pc (op.Plain i) values ≡ pc + 1
jumped-plain b pc (Br label) values still = search
jumped-plain b pc _ values still = search

module _ (m : Contents) where
  -- a sequence at a place, by equal numbers
  reguided : (b : Body) (labels : List Target) (base base' before before' after at behind : ℕ) (code : Code) → Guided m b labels base before after at behind code
      → base ≡ base' → before ≡ before' → Guided m b labels base' before' after at behind code
  reguided b labels base base' before before' after at behind code k eb en =
      rw (eb, en) at k

module _ (m : Contents) (body : ℕ → Body) where
  over_going : (function : ℕ) (callers : List Place) (labels : List Target) (after behind : ℕ) (contexts : List Context) (values : List Value) (code : Code)
      → Over m body function callers labels after behind contexts → Over m body function callers labels after behind (going_on values code contexts)
  over_going function callers (t ∷ labels) after behind (Label arity next own rest ∷ below) values code h = h
  over_going function callers [] after behind (Frame locals arity own rest ∷ []) values code h = h
  over_going function callers [] after behind (Frame locals arity own rest ∷ top ∷ below) values code h = h
  over_going function callers _ after behind _ values code h = absurd h

  -- other locals
  goes_on_locals : (b : Body) (labels : List Target) (contexts : List Context) (locals : List Value) (more after at behind : ℕ) (code : Code)
      → GoesOn m b labels contexts more after at behind code → GoesOn m b labels (with_locals locals contexts) more after at behind code
  goes_on_locals b labels [] locals more after at behind code k = k
  goes_on_locals b labels (Label arity next values own ∷ below) locals more after at behind code k = rw (with_locals-height locals below) k
  goes_on_locals b labels (Frame old arity values own ∷ below) locals more after at behind code k = k

  over_locals : (function : ℕ) (callers : List Place) (labels : List Target) (after behind : ℕ) (contexts : List Context) (locals : List Value)
      → Over m body function callers labels after behind contexts → Over m body function callers labels after behind (with_locals locals contexts)
  over_locals function callers labels after behind [] locals h = absurd h
  over_locals function callers [] after behind (Label arity next own rest ∷ below) locals h = absurd h
  over_locals function callers (t ∷ labels) after behind (Label arity next own rest ∷ below) locals (keep, height, later, end, h, k, n) = (
    keep,
    rw (with_locals-height locals below) height,
    later,
    end,
    over_locals function callers labels later end below locals h,
    rw (with_locals-code locals below) (goes_on_locals (body function) labels below locals after later behind end (code_left below) k),
    goes_on_locals (body function) labels below locals arity later t.pc end next n,
  )
  over_locals function callers (t ∷ labels) after behind (Frame old arity own rest ∷ below) locals h = absurd h
  over_locals function callers [] after behind (Frame old arity own rest ∷ []) locals h = h
  over_locals function callers [] after behind (Frame old arity own rest ∷ top ∷ below) locals h = h

  -- the awaited operands come, and the run goes on with this sequence
  pub continues : (place : Place) (callers : List Place) (labels : List Target) (after behind more : ℕ) (contexts : List Context) (values : List Value) (code : Code)
      → Over m body place.function callers labels after behind contexts → GoesOn m (body place.function) labels contexts more after place.pc behind code
      → length values ≡ more → IsPlaced m body place callers (continuing values code contexts) 0
  continues place callers labels after behind more [] values code h k e = absurd h
  continues place callers labels after behind more (Label arity next own rest ∷ below) values code h k e =
      record {
        labels = labels;
        after = after;
        behind = behind;
        over = over_going place.function callers labels after behind (Label arity next own rest ∷ below) (values ++ own) code h;
        code = reguided m (body place.function) labels _ _ (more + length own) _ after place.pc behind code k refl (omega (arith, e, length-append values own));
      }
  continues place callers labels after behind more (Frame locals arity own rest ∷ below) values code h k e =
      record {
        labels = labels;
        after = after;
        behind = behind;
        over = over_going place.function callers labels after behind (Frame locals arity own rest ∷ below) (values ++ own) code h;
        code = (k.0, k.1, omega (arith, e, k.2, length-append values own));
      }

  -- the awaited operands come
  pub received : (place : Place) (callers : List Place) (more : ℕ) (contexts : List Context) (values : List Value) → IsPlaced m body place callers contexts more
      → length values ≡ more → IsPlaced m body place callers (receiving values contexts) 0
  received place callers more [] values w e = absurd w.over
  received place callers more (Label arity next own rest ∷ below) values w e =
      continues place callers w.labels w.after w.behind more (Label arity next own rest ∷ below) values rest w.over w.code e
  received place callers more (Frame locals arity own rest ∷ below) values w e =
      continues place callers w.labels w.after w.behind more (Frame locals arity own rest ∷ below) values rest w.over w.code e

-- one step of a call that stands within a block, whose labels lead there
module _ (m : Contents) (body : ℕ → Body) (function : ℕ) (callers : List Place) where
  abbrev here : ℕ → Place
  here pc = record { function = function; pc = pc }

  -- where a branch goes to, and the innermost call's frame
  record Target_of (label : ℕ) (labels : List Target) (arity : ℕ) (next : Code) (below : List Context) : Type 0 where
    pub pc : ℕ
    pub told : pc_of (slice_get labels label) ≡ pc
    pub outer : List Target
    pub later : ℕ
    pub end : ℕ
    pub over : Over m body function callers outer later end below
    pub code : GoesOn m (body function) outer below arity later pc end next

  reached : {label arity : ℕ} {next : Code} {contexts below : List Context} → Reaches label contexts arity next below → (labels : List Target) (after behind : ℕ)
      → Over m body function callers labels after behind contexts → Target_of label labels arity next below
  reached rule.here [] after behind h = absurd h
  reached rule.here (t ∷ labels) after behind (keep, height, later, end, h, k, n) =
      record { pc = t.pc; told = refl; outer = labels; later = later; end = end; over = h; code = n }
  reached (rule.further at) [] after behind h = absurd h
  reached (rule.further at) (t ∷ labels) after behind (keep, height, later, end, h, k, n) =
      let r = reached at labels later end h in record { pc = r.pc; told = r.told; outer = r.outer; later = r.later; end = r.end; over = r.over; code = r.code }

  framed : {locals : List Value} {arity : ℕ} {contexts below : List Context} → InCall contexts locals arity below → (labels : List Target) (after behind : ℕ)
      → Over m body function callers labels after behind contexts → (values : List Value) → length values ≡ arity
      → IsPlaced m body (here (length (body function).operations)) callers (Frame locals arity values Done ∷ below) 0
  framed (rule.further at) [] after behind h values e = absurd h
  framed (rule.further at) (t ∷ labels) after behind (keep, height, later, end, h, k, n) values e = framed at labels later end h values e
  framed rule.here (t ∷ labels) after behind h values e = absurd h
  framed (rule.here {below = []}) [] after behind h values e =
      record { labels = []; after = after; behind = behind; over = h; code = (refl, refl, omega (arith, h.0, e)) }
  framed (rule.here {below = top ∷ below}) [] after behind h values e =
      record { labels = []; after = after; behind = behind; over = h; code = (refl, refl, omega (arith, h.0, e)) }

  -- what an operation leads to
  jumped_to : {i : Instr} {values left : List Value} {label : ℕ} → Jumps i values label left → (labels : List Target) (at : ℕ) → Tells (body function).table labels at i
      → jumped (body function) at (op.Plain i) values ≡ pc_of (slice_get labels label)
  jumped_to rule.br labels at tells = rw tells refl
  jumped_to rule.br_if labels at tells = rw tells refl
  jumped_to (rule.br_table {labels = ls} {default} {n}) labels at (start, first, count_is, lists) = rw (first, listed (body function).table.chosen labels ls start.pc default n lists) refl

  jumped_behind : {i : Instr} {values left : List Value} {f : ℕ} {type : FuncType} → Calling m i values f type left → (at : ℕ) → jumped (body function) at (op.Plain i) values ≡ at + 1
  jumped_behind (rule.direct e) at = refl
  jumped_behind (rule.through e named_so params results) at = refl

  -- what stands in a block, and what its label and its end lead to
  record Opened (labels : List Target) (base after at behind : ℕ) (values : List Value) (t : FuncType) (arity : ℕ) (next inside rest : Code) (left : List Value) : Type 0 where
    pub operation : Token
    pub stands : slice_get (body function).operations at ≡ Some operation
    pub pc : ℕ
    pub end : ℕ
    pub lower : ℕ
    pub size : length left ≡ length t.params + lower
    pub within : Guided m (body function) (record { pc = pc; keep = arity; height = base + lower } ∷ labels) (base + lower) (length t.params) (length t.results)
        (jumped (body function) at operation values) end inside
    pub again : Guided m (body function) labels base (arity + lower) after pc behind next
    pub further : Guided m (body function) labels base (length t.results + lower) after end behind rest

  opened : {code next inside rest : Code} {values left : List Value} {t : FuncType} {arity : ℕ} → Opening m code values t arity next inside rest left
      → (labels : List Target) (base after at behind : ℕ) → Guided m (body function) labels base (length values) after at behind code
      → Opened labels base after at behind values t arity next inside rest left
  opened {t} (rule.a_structured {kind = AsBlock} {type} {body = inside} found) labels base after at behind (o, u, same_so, lower, e, kb, kr) =
      let same : t ≡ u = cc in
      let end = at + 1 + size inside in
      rw same (record { operation = op.Block type; stands = o; pc = end; end = end; lower = lower; size = e; within = kb; again = kr; further = kr })
  opened {t} (rule.a_structured {kind = AsLoop} {type} {body = inside} found) labels base after at behind (o, u, same_so, lower, e, kb, kr) =
      let same : t ≡ u = cc in
      rw same (record { operation = op.Loop type; stands = o; pc = at; end = at + 1 + size inside; lower = lower; size = e; within = kb; again = (o, u, same_so, lower, refl, kb, kr); further = kr })
  opened {t} (rule.an_if {type} {n = zero} {first} {second} found) labels base after at behind (o, u, same_so, lower, e, other, kf, ks, kr) =
      let same : t ≡ u = cc in
      let end = at + 1 + size first + size second in
      rw same (record { operation = op.If type; stands = o; pc = end; end = end; lower = lower; size = omega (arith, e); within = rw other ks; again = kr; further = kr })
  opened {t} (rule.an_if {type} {n = suc n} {first} {second} found) labels base after at behind (o, u, same_so, lower, e, other, kf, ks, kr) =
      let same : t ≡ u = cc in
      let end = at + 1 + size first + size second in
      rw same (record { operation = op.If type; stands = o; pc = end; end = end; lower = lower; size = omega (arith, e); within = kf; again = kr; further = kr })

  -- a block is open round what comes next
  module _ (labels : List Target) (after behind arity : ℕ) (back : Code) (own : List Value) (code : Code) (below : List Context)
      (h : Over m body function callers labels after behind (Label arity back own code ∷ below)) where
    abbrev contexts : List Context
    contexts = Label arity back own code ∷ below

    -- the innermost context goes on with these operands and this sequence
    placed : (more before at : ℕ) (values : List Value) (rest : Code) → Guided m (body function) labels (height_of below) before after at behind rest
        → before ≡ more + length values → IsPlaced m body (here at) callers (going_on values rest contexts) more
    placed more before at values rest k e = record {
      labels = labels;
      after = after;
      behind = behind;
      over = over_going m body function callers labels after behind contexts values rest h;
      code = reguided m (body function) labels _ _ before _ after at behind rest k refl e;
    }

    -- the end of the sequence
    closing : (s : Memory_and_globals) (at : ℕ) (values : List Value) (o : Option Token) → ClosesTo (body function) (height_of below) after at behind o → length values ≡ after
        → LeadsOn m body (stepped (body function) (here at) values callers o) (Goes 0 s (receiving values below))
    closing s at values o c e = by o c where
      beneath : (labels : List Target) → Over m body function callers labels after behind contexts → IsPlaced m body (here behind) callers (receiving values below) 0
      beneath [] h = absurd h
      beneath (t ∷ labels) (keep, height, later, end, h, k, n) =
          received m body (here behind) callers after below values (record { labels = labels; after = later; behind = end; over = h; code = k }) e

      by : (o : Option Token) → ClosesTo (body function) (height_of below) after at behind o → LeadsOn m body (stepped (body function) (here at) values callers o) (Goes 0 s (receiving values below))
      by None c = absurd c
      by (Some op.End) c = rw c at (beneath labels h)
      by (Some op.Else) c = rw c.1 (beneath labels h)
      by (Some o) c = absurd c

    -- what begins in the innermost context
    lead_by : {s : Memory_and_globals} {inside : Code} {values : List Value} {move : Move} → StepRule m s (Label arity back own code ∷ below) values inside move
        → (at : ℕ) → Guided m (body function) labels (height_of below) (length values) after at behind inside
        → LeadsOn m body (stepped (body function) (here at) values callers (slice_get (body function).operations at)) move
    lead_by (rule.leaves {i} {values} {ls} {vs} {rest} still t) at (o, tells, k) =
        let f = rw (t.counted (keeps labels)) at k in
        let before = ap (λ (xs : List Value). length xs) t.before ∙ length-append t.popped t.rest in
        let leaves = ap (λ (xs : List Value). length xs) t.after ∙ length-append t.pushed t.rest in
        rw (o, jumped-plain (body function) at i values still) (record {
          labels = labels;
          after = after;
          behind = behind;
          over = over_going m body function callers labels after behind (with_locals ls contexts) vs rest (over_locals m body function callers labels after behind contexts ls h);
          code =
              reguided m (body function) labels (height_of below) _ (length t.pushed + f.0) _ after (at + 1) behind rest f.2 (sym (with_locals-height ls below))
              (omega (arith, f.1, before, leaves));
        })
    lead_by (rule.passes {label} {values} {rest}) at (o, tells, k) =
        let there : Guided m (body function) labels (height_of below) (length values) after (at + 1) behind rest =
        tested m (λ (mid : ℕ). Guided m (body function) labels (height_of below) mid after (at + 1) behind rest) (length values) (slice_get (keeps labels) label) k in
        rw o (placed 0 (length values) (at + 1) values rest there (omega arith))
    lead_by (rule.branches {left} {arity = count} {next} {below = under} j to few) at (o, tells, k) =
        let r = reached to labels after behind h in
        rw (o, jumped_to j labels at tells, r.told)
        (continues m body (here r.pc) callers r.outer r.later r.end count under (take count left) next r.over r.code (length-take-le count left few))
    lead_by (rule.returns {values} {arity = count} to few) at (o, tells, k) = rw o (framed to labels after behind h (take count values) (length-take-le count values few))
    lead_by (rule.calls {left} {type} {rest} c typed) at (o, tells, k) =
        let n = length type.params in
        let room = called m c (keeps labels) (λ mid. Guided m (body function) labels (height_of below) mid after (at + 1) behind rest) k in
        rw (o, jumped_behind c at)
        (type, found c, placed (length type.results) (length type.results + room.0) (at + 1) (drop n left) rest room.2 (omega (arith, length-drop n left, room.1)))
    lead_by (rule.enters {next} {inside} {rest} {left} {type} {arity = count} way few) at k =
        let n = length type.params in
        let q = opened way labels (height_of below) after at behind k in
        let low : q.lower ≡ length (drop n left) = omega (arith, length-drop n left, q.size) in
        rw q.stands (record {
          labels = record { pc = q.pc; keep = count; height = height_of below + q.lower } ∷ labels;
          after = length type.results;
          behind = q.end;
          over = (
            refl,
            omega (arith, low),
            after,
            behind,
            over_going m body function callers labels after behind contexts (drop n left) rest h,
            reguided m (body function) labels _ _ (length type.results + q.lower) _ after q.end behind rest q.further refl (omega (arith, low)),
            reguided m (body function) labels _ _ (count + q.lower) _ after q.pc behind next q.again refl (omega (arith, low)),
          );
          code = reguided m (body function) _ (height_of below + q.lower) _ n _ (length type.results) _ q.end inside q.within (omega (arith, low)) (omega (arith, length-take-le n left few));
        })
    lead_by {s} (rule.closes {values}) at (closes, e) = closing s at values (slice_get (body function).operations at) closes e
    lead_by _ at k = tt

module _ (m : Contents) (body : ℕ → Body) where
  -- a call that has nothing more to do
  leaves : (s : Memory_and_globals) (place : Place) (callers : List Place) (labels : List Target) (locals : List Value) (arity : ℕ) (values : List Value)
      (code : Code) (below : List Context) (after behind : ℕ)
      → Over m body place.function callers labels after behind (Frame locals arity values code ∷ below) → place.pc ≡ length (body place.function).operations → length values ≡ after
      → LeadsOn m body (stepped (body place.function) place values callers (slice_get (body place.function).operations place.pc))
      (at_code m s values Done (Frame locals arity values code ∷ below))
  leaves s place callers (t ∷ labels) locals arity values code below after behind h e n = absurd h
  leaves s place callers [] locals arity values code [] after behind h e n = ended (length values == arity) where
    ended : (b : Bool) → LeadsOn m body (stepped (body place.function) place values callers (slice_get (body place.function).operations place.pc)) (if b then left_with s values [] else Stuck)
    ended true = tt
    ended false = tt
  leaves s place callers [] locals arity values code (top ∷ below) after behind (same, caller, others, is, outer, later, end, h, k) e n =
      rw (slice_get_past (body place.function).operations place.pc (omega (arith, e)), is) (ended (length values == arity)) where
        ended : (b : Bool) → LeadsOn m body (caller ∷ others) (if b then left_with s values (top ∷ below) else Stuck)
        ended true = received m body caller others after (top ∷ below) values (record { labels = outer; after = later; behind = end; over = h; code = k }) n
        ended false = tt

  -- whatever step comes next, the calls then stand where the operation and the table tell
  pub leads : (s : Memory_and_globals) (place : Place) (callers : List Place) (contexts : List Context) → IsPlaced m body place callers contexts 0
      → LeadsOn m body (stepped (body place.function) place (operands_of contexts) callers (slice_get (body place.function).operations place.pc)) (next m s contexts)
  leads s place callers [] w = tt
  leads s place callers (Label arity back values code ∷ below) w =
      lead_by m body place.function callers w.labels w.after w.behind arity back values code below w.over (next_rule m s (Label arity back values code ∷ below)) place.pc
      (reguided m (body place.function) w.labels (height_of below) _ (0 + length values) _ w.after place.pc w.behind code w.code refl (omega arith))
  leads s place callers (Frame locals arity values code ∷ below) w =
      rw w.code.0 (leaves s place callers w.labels locals arity values code below w.after w.behind w.over w.code.1 (omega (arith, w.code.2)))
