-- A call of a function of a valid module begins within the limits, and its run stays within them.
use Rattle.reduction.proofs.Words.{ap, arith, Arrives, as_operands, asks, Beneath, body_context, Calls, calls, Contents, Context, Counted, Done, entered, Frame}
use Rattle.reduction.proofs.Words.{Func, function_types, FuncType, get_or_from_slice_get, goes, HasFunctionType, here, IsDefined, IsReached, IsWithin, length}
use Rattle.reduction.proofs.Words.{length-append, length-map, List, map, MAX_LOCALS, Move, next, None, Option, pushed, receiving, refl, slice_get}
use Rattle.reduction.proofs.Words.{slice_get_within, Some, Store, subst, sym, type_of, type_of_function, types_of, ValidFunc, ValidModule, ValType, Value}
use Rattle.reduction.proofs.Words.{value_of, ℕ, [], ◌++◌, ◌+◌, ◌∙◌, ◌∷◌, ◌≡◌, ◌≤◌}
use Rattle.std.proofs.Common.{option_and_then}
use Rattle.reduction.specs.Hosting.{Answers}
use Rattle.reduction.proofs.Lists.{length-pushed}
use Rattle.reduction.proofs.CallsAreTyped.{valid_function, defined_type}
use Rattle.reduction.proofs.Heights.{counted}
use Rattle.reduction.proofs.HeightsKept.{Kept, received, kept}

module _ (m : Contents) where
  found_type : (f : ℕ) (type : FuncType) (o : Option ℕ) → slice_get (function_types m) f ≡ o → option_and_then (slice_get m.types) o ≡ Some type → HasFunctionType m f type
  found_type f type None a b = absurd (cc)
  found_type f type (Some t) a b = (t, a, b)

  -- a function of this type that is defined is of that type
  pub same_type : (function : ℕ) (type found : FuncType) (f : Func) → IsDefined m function type f → type_of_function m function ≡ Some found → type ≡ found
  same_type function type found f defined e = defined_type m function type found f defined (found_type function found (slice_get (function_types m) function) refl e)

  pub its_type : (f : Func) (w : ValidFunc m f) (type : FuncType) → slice_get m.types f.type_index ≡ Some type → w.type ≡ type
  its_type f w type known = let h : Some w.type ≡ Some type = sym w.known ∙ known in cc

  -- the body of a call takes no operand to its results, and its locals are few
  abbrev Runs : Func → FuncType → Type 0
  Runs f type = (length type.params + length f.locals ≤ MAX_LOCALS) × Counted m (length type.results ∷ []) 0 0 (length type.results) f.body

  valid_runs : (f : Func) (w : ValidFunc m f) → Runs f w.type
  valid_runs f w =
      let k = counted (body_context m w.type f) 0 f.body [] (pushed w.type.results []) w.body w.height (omega (arith, w.nested)) in
      let e : length (pushed w.type.results []) ≡ length w.type.results = omega (arith, length-pushed w.type.results []) in
      (w.few_locals, rw e at k)

  -- the contexts of a call within the limits, over some or over none
  abbrev pub Awaited : List Context → (more : ℕ) → Type 0
  Awaited [] more = Unit {0}
  Awaited (top ∷ below) more = IsWithin m (top ∷ below) more

  enters : (type : FuncType) (f : Func) (args : List Value) (below : List Context) → Runs f type → length type.results ≤ 16 → length args ≡ length type.params → Awaited below (length type.results)
      → IsWithin m (entered type f args below) 0
  enters type f args below (few, k) small e w =
      record { after = length type.results; beneath = (length type.results, frame below w, done, done); code = k } where
        locals : List Value
        locals = args ++ map (λ t. value_of t 0) f.locals

        few_locals : length locals ≤ MAX_LOCALS
        few_locals = omega (arith, few, e, length-append args (map (λ t. value_of t 0) f.locals), length-map f.locals (λ t. value_of t 0))

        done : Counted m [] 0 (length type.results + 0) (length type.results) Done
        done = (record { height = omega (arith, small); nesting = omega arith }, omega arith)

        frame : (below : List Context) → Awaited below (length type.results) → Beneath m (length type.results) (Frame locals (length type.results) [] Done ∷ below)
        frame [] w = (few_locals, omega (arith, small), refl)
        frame (top ∷ below) w = (few_locals, omega (arith, small), refl, w.after, w.beneath, w.code)

  module _ (valid : ValidModule m) where
    few_results : (type : FuncType) (index : ℕ) → slice_get m.types index ≡ Some type → length type.results ≤ 16
    few_results type index known =
        rw (get_or_from_slice_get m.types index type type known) at (valid.types index type (slice_get_within m.types index type known))

    pub few_locals_of : (type : FuncType) (f : Func) (index : ℕ) → slice_get m.functions index ≡ Some f → slice_get m.types f.type_index ≡ Some type
        → length type.params + length f.locals ≤ MAX_LOCALS
    few_locals_of type f index at known =
        let w = valid_function m valid index f at in
        rw (its_type f w type known) at w.few_locals

    -- a call of a defined function
    pub entered_within : (function : ℕ) (type : FuncType) (f : Func) (args : List Value) (below : List Context) → IsDefined m function type f
        → length args ≡ length type.params → Awaited below (length type.results) → IsWithin m (entered type f args below) 0
    entered_within function type f args below (index, e, at, known) size w =
        let v = valid_function m valid index f at in
        enters type f args below (rw (its_type f v type known) at (valid_runs f v)) (few_results type f.type_index known) size w

    -- the answer of the host
    pub answered_within : (function : ℕ) (below : List Context) (answer : Option Value) (type : FuncType) → type_of_function m function ≡ Some type
        → Answers (type_of_function m function) answer → IsWithin m below (length type.results) → IsWithin m (receiving (as_operands answer) below) 0
    answered_within function below answer type found a w =
        let a' : types_of (as_operands answer) ≡ pushed type.results [] = rw found at a in
        let size : length (as_operands answer) ≡ length type.results =
        omega (arith, length-map (as_operands answer) type_of, ap (λ (ts : List ValType). length ts) a', length-pushed type.results []) in
        received m (length type.results) below (as_operands answer) w size

    called_within : (s : Store) (contexts : List Context) (function : ℕ) (args : List Value) (below : List Context) (type : FuncType) (f : Func)
        → next m s contexts ≡ Calls function args below → IsDefined m function type f → IsWithin m contexts 0 → IsWithin m (entered type f args below) 0
    called_within s contexts function args below type f e d w =
        let k : Kept m (Calls function args below) = rw e at (kept m s contexts w) in
        let same : type ≡ k.0 = same_type function type k.0 f d k.1 in
        entered_within function type f args below d (omega (arith, k.2, ap (λ (t : FuncType). length t.params) same)) (awaited below k.3 same) where
          awaited : {found : FuncType} (below : List Context) → IsWithin m below (length found.results) → type ≡ found → Awaited below (length type.results)
          awaited [] w same = tt
          awaited {found} (top ∷ below) w same = rw same w

    pub arrives_within : {depth : ℕ} {s t : Store} {contexts there : List Context} → Arrives m depth s contexts t there → IsWithin m contexts 0 → IsWithin m there 0
    arrives_within here w = w
    arrives_within (goes charge e rest) w = arrives_within rest (subst (λ (o : Move). Kept m o) e (kept m _ _ w))
    arrives_within (calls function args below type f e d few rest) w = arrives_within rest (called_within _ _ function args below type f e d w)
    arrives_within (asks call below e imported memory answer rest) w =
        let k : Kept m (Calls call.function call.args below) = subst (λ (o : Move). Kept m o) e (kept m _ _ w) in
        arrives_within rest (answered_within call.function below call.answer k.0 k.1 answer k.3)

    pub reached_within : (depth : ℕ) (contexts : List Context) → IsReached m depth contexts → IsWithin m contexts 0
    reached_within depth contexts r =
        arrives_within r.arrives (entered_within r.function r.type r.func r.args [] r.defined (omega (arith, length-map r.args type_of, ap (λ (ts : List ValType). length ts) r.typed)) tt)
