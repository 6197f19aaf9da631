-- Each step keeps the contexts within the limits of the bodies that they run.
use Rattle.reduction.proofs.Words.{ap, arith, AsBlock, AsLoop, Beneath, beneath_call, Calls, Code, code_left, Contents, Context, Counted, counts, Done, drop}
use Rattle.reduction.proofs.Words.{Follows, Frame, FuncType, Goes, GoesOn, going_on, Instr, IsWithin, Label, labels_of, length, length-append, length-drop}
use Rattle.reduction.proofs.Words.{length-map, length-take-le, List, locals_of, MAX_HEIGHT, Move, next, None, operands_of, Option, receiving, refl, reverse}
use Rattle.reduction.proofs.Words.{slice_get, Some, Structured, subst, suc, sym, take, type_of, type_of_function, ValType, Value, with_locals, zero, ℕ, []}
use Rattle.reduction.proofs.Words.{◌++◌, ◌+◌, ◌∙◌, ◌∷◌, ◌≡◌, ◌≤◌}
use Rattle.reduction.proofs.Contexts.{with_locals-labels, with_locals-base, with_locals-operands, with_locals-code, receiving-is, continuing-is}
use Rattle.instance.specs.Store.{Store as Memory_and_globals}
use Rattle.reduction.specs.Heights.{tests}
use Rattle.reduction.proofs.PlainStepHeights.{as_many}
use Rattle.reduction.proofs.Rules.{Reaches, InCall, Calling, Opening, StepRule, next_rule}
use Rattle.reduction.proofs.Rules as rule

-- what a step leads to is within the limits
abbrev pub Kept : Contents → Move → Type 0
Kept m (Goes charge s contexts) = IsWithin m contexts 0
Kept m (Calls f args below) =
    (type : FuncType) × (type_of_function m f ≡ Some type) × (length args ≡ length type.params) × IsWithin m below (length type.results)
Kept m _ = Unit {0}

-- a function that is called has its type
pub found : {m : Contents} {i : Instr} {values left : List Value} {f : ℕ} {type : FuncType} → Calling m i values f type left → type_of_function m f ≡ Some type
found (rule.direct e) = e
found (rule.through e named_so params results) = e

module _ (m : Contents) where
  -- a sequence within the limits, by equal numbers
  recounted : (labels : List ℕ) (base base' before before' after : ℕ) (code : Code) → Counted m labels base before after code → base ≡ base' → before ≡ before'
      → Counted m labels base' before' after code
  recounted labels base base' before before' after code k eb en =
      rw (eb, en) at k

  -- the innermost context may have other operands and other code
  beneath_going : (after : ℕ) (contexts : List Context) (values : List Value) (code : Code) → Beneath m after contexts → Beneath m after (going_on values code contexts)
  beneath_going after [] values code h = absurd h
  beneath_going after (Label arity next own rest ∷ below) values code h = h
  beneath_going after _ values code h = h

  -- the contexts go on with these operands and this sequence, once they get so many more
  placed : (after more before : ℕ) (contexts : List Context) (values : List Value) (code : Code) → Beneath m after contexts
      → Counted m (labels_of contexts) (beneath_call contexts) before after code → before ≡ more + length values
      → IsWithin m (going_on values code contexts) more
  placed after more before [] values code h k e = absurd h
  placed after more before (Label arity next own rest ∷ below) values code h k e =
      record { after = after; beneath = beneath_going after (Label arity next own rest ∷ below) values code h; code = recounted _ _ _ before _ after code k refl e }
  placed after more before (Frame locals arity own rest ∷ below) values code h k e =
      record { after = after; beneath = beneath_going after (Frame locals arity own rest ∷ below) values code h; code = recounted _ _ _ before _ after code k refl e }

  -- other locals, as many
  beneath_locals : (after : ℕ) (contexts : List Context) (locals : List Value) → length locals ≡ length (locals_of contexts) → Beneath m after contexts → Beneath m after (with_locals locals contexts)
  beneath_locals after [] locals e h = h
  beneath_locals after (Label arity next values code ∷ below) locals e (later, h, k, n) = (
    later,
    beneath_locals later below locals e h,
    rw (with_locals-labels locals below, with_locals-base locals below, with_locals-operands locals below, with_locals-code locals below) k,
    rw (with_locals-labels locals below, with_locals-base locals below, with_locals-operands locals below) n,
  )
  beneath_locals after (Frame own arity values code ∷ []) locals e (few, small, same) = (rw e few, small, same)
  beneath_locals after (Frame own arity values code ∷ top ∷ below) locals e (few, small, same, later, h, k) = (rw e few, small, same, later, h, k)

  -- the awaited operands come
  pub received : (more : ℕ) (contexts : List Context) (values : List Value) → IsWithin m contexts more → length values ≡ more → IsWithin m (receiving values contexts) 0
  received more contexts values w e =
      rw (receiving-is values contexts) (placed w.after 0 (more + length (operands_of contexts)) contexts (values ++ operands_of contexts) (code_left contexts) w.beneath w.code
      (omega (arith, e, length-append values (operands_of contexts))))

  -- a block stands open, to whose label a branch takes so many operands along
  within_block : (contexts : List Context) (params results arity left after : ℕ) (next body : Code) (inner outer : List Value) (rest : Code)
      → Beneath m after contexts → params ≡ length inner → length outer ≡ left
      → Counted m (arity ∷ labels_of contexts) (beneath_call contexts + left) params results body
      → Counted m (labels_of contexts) (beneath_call contexts) (arity + left) after next
      → Counted m (labels_of contexts) (beneath_call contexts) (results + left) after rest
      → IsWithin m (Label arity next inner body ∷ going_on outer rest contexts) 0
  within_block [] params results arity left after next body inner outer rest h ei eo kb kn kr = absurd h
  within_block (Label back far own code ∷ below) params results arity left after next body inner outer rest h ei eo kb kn kr =
      let here = Label back far own code ∷ below in
      record {
        after = results;
        beneath = (
          after,
          beneath_going after here outer rest h,
          recounted (labels_of here) (beneath_call here) _ (results + left) _ after rest kr refl (omega (arith, eo)),
          recounted (labels_of here) (beneath_call here) _ (arity + left) _ after next kn refl (omega (arith, eo)),
        );
        code = recounted (arity ∷ labels_of here) (beneath_call here + left) _ params _ results body kb (omega (arith, eo)) (omega (arith, ei));
      }
  within_block (Frame locals count own code ∷ below) params results arity left after next body inner outer rest h ei eo kb kn kr =
      let here = Frame locals count own code ∷ below in
      record {
        after = results;
        beneath = (
          after,
          beneath_going after here outer rest h,
          recounted (labels_of here) (beneath_call here) _ (results + left) _ after rest kr refl (omega (arith, eo)),
          recounted (labels_of here) (beneath_call here) _ (arity + left) _ after next kn refl (omega (arith, eo)),
        );
        code = recounted (arity ∷ labels_of here) (beneath_call here + left) _ params _ results body kb (omega (arith, eo)) (omega (arith, ei));
      }

  -- where a branch goes to, and the innermost call's frame
  reached : {label arity : ℕ} {next : Code} {contexts below : List Context} → Reaches label contexts arity next below → (after : ℕ) → Beneath m after contexts
      → (later : ℕ) × Beneath m later below × GoesOn m below arity later next
  reached rule.here after (later, h, k, n) = (later, h, n)
  reached (rule.further at) after (later, h, k, n) = reached at later h

  framed : {locals : List Value} {arity : ℕ} {contexts below : List Context} → InCall contexts locals arity below → (after : ℕ) → Beneath m after contexts
      → (arity ≤ MAX_HEIGHT) × ((values : List Value) → Beneath m arity (Frame locals arity values Done ∷ below))
  framed (rule.further at) after (later, h, k, n) = framed at later h
  framed (rule.here {below = []}) after (few, small, same) = (small, λ values. (few, small, refl))
  framed (rule.here {below = top ∷ below}) after (few, small, same, later, h, k) =
      (small, λ values. (few, small, refl, later, h, rw same at k))

  -- what a call finds beneath its arguments
  pub called : {i : Instr} {values left : List Value} {f : ℕ} {type : FuncType} → Calling m i values f type left → (labels : List ℕ) (P : ℕ → Type 0)
      → Follows (counts m labels i) (length values) P → (lower : ℕ) × (length left ≡ length type.params + lower) × P (length type.results + lower)
  called {type} (rule.direct {values} found) labels P k =
      let f = rw found at k in (f.0, omega (arith, f.1), f.2)
  called {type} (rule.through {wanted} {values} found named_so params results) labels P k =
      let f = rw named_so at k in
      (f.0, omega (arith, f.1, ap (λ (ts : List ValType). length ts) params), rw results f.2)

  -- what stands in a block, and what its label and its end lead to
  opened : {code next inside rest : Code} {values left : List Value} {t : FuncType} {arity : ℕ} → Opening m code values t arity next inside rest left
      → (labels : List ℕ) (base after : ℕ) → Counted m labels base (length values) after code
      → (lower : ℕ) × (length left ≡ length t.params + lower) × Counted m (arity ∷ labels) (base + lower) (length t.params) (length t.results) inside
      × Counted m labels base (arity + lower) after next × Counted m labels base (length t.results + lower) after rest
  opened {t} (rule.a_structured {kind = AsBlock} at) labels base after (fits, u, named_so, lower, e, kb, kr) = let same : t ≡ u = cc in rw same (lower, e, kb, kr, kr)
  opened {t} (rule.a_structured {kind = AsLoop} {type} {body} {rest} at) labels base after (fits, u, named_so, lower, e, kb, kr) =
      let same : t ≡ u = cc in
      let again : Counted m labels base (length u.params + lower) after (Structured AsLoop type body rest) = (rw e at fits, u, named_so, lower, refl, kb, kr) in
      rw same (lower, e, kb, again, kr)
  opened {t} (rule.an_if {n = zero} at) labels base after (fits, u, named_so, lower, e, kf, ks, kr) = let same : t ≡ u = cc in rw same (lower, omega (arith, e), ks, kr, kr)
  opened {t} (rule.an_if {n = suc n} at) labels base after (fits, u, named_so, lower, e, kf, ks, kr) = let same : t ≡ u = cc in rw same (lower, omega (arith, e), kf, kr, kr)

  -- an operand that is tested
  pub tested : (P : ℕ → Type 0) (n : ℕ) (o : Option ℕ) → Follows (tests o) (suc n) P → P n
  tested P n None (left, e, p) = subst P (omega (arith, e)) p
  tested P n (Some arity) (left, e, p) = subst P (omega (arith, e)) p

  -- what comes next is within the limits
  kept_by : {s : Memory_and_globals} {contexts : List Context} {values : List Value} {code : Code} {move : Move} → StepRule m s contexts values code move
      → (after : ℕ) → Beneath m after contexts → Counted m (labels_of contexts) (beneath_call contexts) (length values) after code → Kept m move
  kept_by (rule.leaves {values} {ls} {vs} {rest} {contexts} still t) after h (fits, k) =
      let f = rw (t.counted (labels_of contexts)) at k in
      let before = ap (λ (xs : List Value). length xs) t.before ∙ length-append t.popped t.rest in
      let behind = ap (λ (xs : List Value). length xs) t.after ∙ length-append t.pushed t.rest in
      let there = with_locals ls contexts in
      placed after 0 (length t.pushed + f.0) there vs rest (beneath_locals after contexts ls (as_many (locals_of contexts) ls t.locals_left) h)
      (rw (with_locals-labels ls contexts, with_locals-base ls contexts) f.2) (omega (arith, f.1, before, behind))
  kept_by (rule.passes {label} {values} {rest} {contexts}) after h (fits, k) =
      let there : Counted m (labels_of contexts) (beneath_call contexts) (length values) after rest =
      tested (λ (mid : ℕ). Counted m (labels_of contexts) (beneath_call contexts) mid after rest) (length values) (slice_get (labels_of contexts) label) k in
      placed after 0 (length values) contexts values rest h there (omega arith)
  kept_by (rule.branches {left} {arity} {next} {below} j at few) after h k =
      let r = reached at after h in
      let size : length (take arity left) ≡ arity = length-take-le arity left few in
      rw (continuing-is (take arity left) next below)
      (placed r.0 0 (arity + length (operands_of below)) below (take arity left ++ operands_of below) next r.1 r.2 (omega (arith, size, length-append (take arity left) (operands_of below))))
  kept_by (rule.returns {values} {locals} {arity} {below} at few) after h k =
      let f = framed at after h in
      let size : length (take arity values) ≡ arity = length-take-le arity values few in
      record { after = arity; beneath = f.1 (take arity values); code = (record { height = omega (arith, f.0, size); nesting = omega arith }, omega (arith, size)) }
  kept_by (rule.calls {left} {f} {type} {rest} {contexts} c typed) after h (fits, k) =
      let n = length type.params in
      let room = called c (labels_of contexts) (λ mid. Counted m (labels_of contexts) (beneath_call contexts) mid after rest) k in
      let size : length (reverse (take n left)) ≡ n = sym (length-map (reverse (take n left)) type_of) ∙ ap (λ (ts : List ValType). length ts) typed in
      let low : length (drop n left) ≡ room.0 = omega (arith, length-drop n left, room.1) in
      (type, found c, size, placed after (length type.results) (length type.results + room.0) contexts (drop n left) rest h room.2 (omega (arith, low)))
  kept_by (rule.enters {inside} {rest} {left} {type} {arity} {contexts} o few) after h k =
      let n = length type.params in
      let room = opened o (labels_of contexts) (beneath_call contexts) after k in
      within_block contexts (length type.params) (length type.results) arity room.0 after _ inside (take n left) (drop n left) rest h
      (sym (length-take-le n left few)) (omega (arith, length-drop n left, room.1)) room.2 room.3 room.4
  kept_by (rule.closes {values} {below}) after (later, h, k, n) (fits, e) = received after below values (record { after = later; beneath = h; code = k }) e
  kept_by (rule.answers {values} {top} {below}) after (few, small, same, later, h, k) (fits, e) =
      received after (top ∷ below) values (record { after = later; beneath = h; code = k }) e
  kept_by _ after h k = tt

  -- whatever step comes next, what it leads to is within the limits
  pub kept : (s : Memory_and_globals) (contexts : List Context) → IsWithin m contexts 0 → Kept m (next m s contexts)
  kept s contexts w =
      kept_by (next_rule m s contexts) w.after w.beneath
      (recounted (labels_of contexts) (beneath_call contexts) _ (0 + length (operands_of contexts)) _ w.after (code_left contexts) w.code refl (omega arith))
