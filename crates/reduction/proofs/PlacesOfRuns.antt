-- The calls of a run stand at places that the side tables tell.
use Rattle.reduction.proofs.Words.{ap, AreBodies, arith, Arrives, as_operands, asks, Body, body_context, Calls, calls, Code, Contents, Context, Done, entered}
use Rattle.reduction.proofs.Words.{Frame, Func, FuncType, goes, Guided, here, If, IsDefined, IsPlaced, IsReached, length, length-map, length-operations, List}
use Rattle.reduction.proofs.Words.{map, Move, next, operands_of, Over, Place, Plain, pushed, receiving, refl, size, slice_get, Some, stepped, Store, Structured}
use Rattle.reduction.proofs.Words.{Target, Token, type_of, types_of, ValidModule, Value, value_of, ℕ, [], ◌++◌, ◌+◌, ◌∷◌, ◌≡◌}
use Rattle.syntax.specs.declared.instruction.Token.TheVariants as op
use Rattle.reduction.specs.Places.{ArePlaced, LeadsOn}
use Rattle.reduction.proofs.Lists.{length-pushed}
use Rattle.reduction.proofs.CallsAreTyped.{valid_function, body_typed}
use Rattle.reduction.proofs.HeightsOfRuns.{same_type}
use Rattle.reduction.proofs.PlacesKept.{received, leads}
use Rattle.reduction.proofs.PlacesGuided.{guided}

pub some_size : (c : Code) → (n : ℕ) × (size c ≡ n + 1)
some_size Done = (0, refl)
some_size (Plain i rest) = (size rest, omega arith)
some_size (Structured kind t body rest) = (size body + size rest, omega arith)
some_size (If t first second rest) = (size first + size second + size rest, omega arith)

module _ (m : Contents) (body : ℕ → Body) (valid : ValidModule m) (bodies : AreBodies m body) where
  -- the body of a defined function begins at its first operation
  whole : (index : ℕ) (f : Func) (type : FuncType) → slice_get m.functions index ≡ Some f → slice_get m.types f.type_index ≡ Some type
      → Guided m (body index) (record { pc = size f.body; keep = length type.results; height = 0 } ∷ []) 0 0 (length type.results) 0 (size f.body) f.body
  whole index f type at known =
      let b = bodies index f type at known in
      let typed = body_typed m type f (valid_function m valid index f at) known in
      let labels : List Target = record { pc = size f.body; keep = length type.results; height = 0 } ∷ [] in
      let last = some_size f.body in
      let e : length (pushed type.results []) ≡ length type.results = omega (arith, length-pushed type.results []) in
      rw e at (guided (body index) (body_context m type f) labels 0 0 last.0 (size f.body) op.End [] f.body [] (pushed type.results []) refl typed b.1 b.0
      (omega (arith, last.1)) (omega (arith, last.1)))

  -- the calls that await so many operands, if there are any
  abbrev pub Awaiting : List Place → List Context → (more : ℕ) → Type 0
  Awaiting places [] more = places ≡ []
  Awaiting places (top ∷ below) more = ArePlaced m body places (top ∷ below) more

  -- a call of a defined function begins at its first operation
  pub enters : (function : ℕ) (type : FuncType) (f : Func) (args : List Value) (places : List Place) (below : List Context) (defined : IsDefined m function type f)
      → Awaiting places below (length type.results) → IsPlaced m body (record { function = defined.0; pc = 0 }) places (entered type f args below) 0
  enters function type f args places below (index, e, at, known) w =
      let size_of : size f.body ≡ length (body index).operations =
      omega (arith, length-operations op.End f.body [], ap (λ (ops : List Token). length ops) (bodies index f type at known).0) in
      record {
        labels = record { pc = size f.body; keep = length type.results; height = 0 } ∷ [];
        after = length type.results;
        behind = size f.body;
        over = (refl, refl, length type.results, 0, frame places below w, (refl, size_of, omega arith), (refl, size_of, omega arith));
        code = whole index f type at known;
      } where
        locals : List Value
        locals = args ++ map (λ t. value_of t 0) f.locals

        frame : (places : List Place) (below : List Context) → Awaiting places below (length type.results)
            → Over m body index places [] (length type.results) 0 (Frame locals (length type.results) [] Done ∷ below)
        frame places [] w = (refl, w)
        frame [] (top ∷ below) w = absurd w
        frame (caller ∷ others) (top ∷ below) w = (refl, caller, others, refl, w.labels, w.after, w.behind, w.over, w.code)

  -- some places at which the calls stand
  abbrev pub Somewhere : List Context → Type 0
  Somewhere contexts = (places : List Place) × ArePlaced m body places contexts 0

  led : (s : Store) (contexts : List Context) (move : Move) → next m s contexts ≡ move → Somewhere contexts → (places : List Place) × LeadsOn m body places move
  led s contexts move e ([], w) = absurd w
  led s contexts move e (place ∷ callers, w) =
      let places = stepped (body place.function) place (operands_of contexts) callers (slice_get (body place.function).operations place.pc) in
      (places, rw e at (leads m body s place callers contexts w))

  awaiting : (type found : FuncType) (places : List Place) (below : List Context) → type ≡ found → ArePlaced m body places below (length found.results)
      → Awaiting places below (length type.results)
  awaiting type found [] [] same w = absurd w
  awaiting type found (place ∷ callers) [] same w = absurd w.over
  awaiting type found places (top ∷ below) same w = rw same w

  answers : (places : List Place) (below : List Context) (more : ℕ) (values : List Value) → ArePlaced m body places below more → length values ≡ more → Somewhere (receiving values below)
  answers [] below more values w e = absurd w
  answers (place ∷ callers) below more values w e = (place ∷ callers, received m body place callers more below values w e)

  arrives : {depth : ℕ} {s t : Store} {contexts there : List Context} → Arrives m depth s contexts t there → Somewhere contexts → Somewhere there
  arrives here w = w
  arrives {depth} {s} {t} {contexts} (goes charge e rest) w = arrives rest (led s contexts _ e w)
  arrives {depth} {s} {t} {contexts} (calls function args below type f e d few rest) w =
      let k = led s contexts (Calls function args below) e w in
      let same : type ≡ k.1.0 = same_type m function type k.1.0 f d k.1.1 in
      arrives rest (record { function = d.0; pc = 0 } ∷ k.0, enters function type f args k.0 below d (awaiting type k.1.0 k.0 below same k.1.2))
  arrives {depth} {s} {t} {contexts} (asks call below e imported memory answer rest) w =
      let k = led s contexts (Calls call.function call.args below) e w in
      let a : types_of (as_operands call.answer) ≡ pushed k.1.0.results [] = rw k.1.1 at answer in
      let n : length (as_operands call.answer) ≡ length k.1.0.results =
      omega (arith, length-map (as_operands call.answer) type_of, ap (λ ts. length ts) a, length-pushed k.1.0.results []) in
      arrives rest (answers k.0 below (length k.1.0.results) (as_operands call.answer) k.1.2 n)

  -- whatever a call from outside comes to, its calls stand at places that the side tables tell
  pub reached_placed : (depth : ℕ) (contexts : List Context) → IsReached m depth contexts → Somewhere contexts
  reached_placed depth contexts r =
      arrives r.arrives (record { function = r.defined.0; pc = 0 } ∷ [], enters r.function r.type r.func r.args [] [] r.defined refl)
