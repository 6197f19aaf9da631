-- A call of a function of a valid module is typed.
use Rattle.reduction.proofs.Words.{ap, arith, body_context, code_left, Contents, Context, Done, entered, Func, function_types, FuncType, get_or_from_slice_get}
use Rattle.reduction.proofs.Words.{HasFunctionType, Import, inside, IsDefined, length, length-map, List, map, operands_of, option_map, pushed, receiving, refl}
use Rattle.reduction.proofs.Words.{slice_get, slice_get-map, slice_get_within, Some, suc, sym, Typed, types_of, ValidFunc, ValidModule, ValType, Value}
use Rattle.reduction.proofs.Words.{value_of, ℕ, [], ◌++◌, ◌+◌, ◌∙◌, ◌∷◌, ◌≡◌}
use Rattle.reduction.specs.Typed.{call_typing, in_label, in_call, outermost, Awaits, Configured}
use Rattle.reduction.proofs.Lists.{types_of-append, type_of-value_of, pushed-split}
use Rattle.reduction.proofs.Soundness.{receives}

zeros_typed : (types : List ValType) → types_of (map (λ t. value_of t 0) types) ≡ types
zeros_typed [] = refl
zeros_typed (t ∷ types) = rw (type_of-value_of, zeros_typed types) refl

-- an element behind the front
pub behind : {A : Type 0} (front back : List A) (k : ℕ) → slice_get (front ++ back) (length front + k) ≡ slice_get back k
behind [] back k = let e : 0 + k ≡ k = omega arith in rw e refl
behind (x ∷ front) back k = let e : length (x ∷ front) + k ≡ suc (length front + k) = omega arith in rw e (behind front back k)

module _ (m : Contents) where
  -- a defined function has the type that stands at its index
  pub defined_type : (function : ℕ) (type other : FuncType) (f : Func) → IsDefined m function type f → HasFunctionType m function other → type ≡ other
  defined_type function type other f (index, e, at, known) (t, a, b) =
      let front = map (λ (i : Import). i.type_index) m.imports in
      let back = map (λ (g : Func). g.type_index) m.functions in
      let n : length front ≡ length m.imports = length-map m.imports (λ (i : Import). i.type_index) in
      let here : slice_get (function_types m) function ≡ slice_get back index =
      rw (ap (λ (k : ℕ). k + index) n ∙ sym e) at (behind front back index) in
      let found : slice_get back index ≡ Some f.type_index = slice_get-map (λ (g : Func). g.type_index) m.functions index ∙ ap (option_map (λ (g : Func). g.type_index)) at in
      let same : f.type_index ≡ t = let q = sym found ∙ sym here ∙ a in cc in
      let last : Some type ≡ Some other = sym known ∙ ap (λ (k : ℕ). slice_get m.types k) same ∙ b in cc

  pub valid_function : ValidModule m → (index : ℕ) (f : Func) → slice_get m.functions index ≡ Some f → ValidFunc m f
  valid_function v index f at = rw (get_or_from_slice_get m.functions index f f at) at (v.functions index f (slice_get_within m.functions index f at))

  locals_of_call : (type : FuncType) (f : Func) (args : List Value) → types_of args ≡ type.params
      → types_of (args ++ map (λ t. value_of t 0) f.locals) ≡ type.params ++ f.locals
  locals_of_call type f args e =
      types_of-append args (map (λ t. value_of t 0) f.locals) ∙ ap (λ (ts : List ValType). ts ++ types_of (map (λ t. value_of t 0) f.locals)) e
      ∙ ap (λ (ts : List ValType). type.params ++ ts) (zeros_typed f.locals)

  pub body_typed : (type : FuncType) (f : Func) → ValidFunc m f → slice_get m.types f.type_index ≡ Some type → Typed (body_context m type f) f.body [] (pushed type.results [])
  body_typed type f v e = let h : Some v.type ≡ Some type = sym v.known ∙ e in let k : v.type ≡ type = cc in
      rw k at v.body

  -- a call over contexts that await its results
  pub enters_call : (answers : List ValType) (function : ℕ) (type : FuncType) (f : Func) (args : List Value) (below : List Context) → ValidModule m → IsDefined m function type f
      → types_of args ≡ type.params → Awaits m answers below (pushed type.results []) → Configured m answers (entered type f args below)
  enters_call answers function type f args below v (index, e, at, known) ea w =
      let locals = args ++ map (λ t. value_of t 0) f.locals in
      let el : types_of locals ≡ type.params ++ f.locals = locals_of_call type f args ea in
      let t : Typed w.typing (code_left below) (pushed type.results (types_of (operands_of below))) w.ends = rw (pushed-split type.results (types_of (operands_of below))) w.code in
      record {
        typing = inside type.results (call_typing m (types_of locals) type.results);
        ends = pushed type.results [];
        under = in_label type.results (pushed type.results []) (length type.results) Done [] f.body refl
            (in_call type.results locals (length type.results) [] Done refl w.under t) (rw (← pushed-split type.results []) refl) refl;
        code =
            rw el (body_typed type f (valid_function v index f at) known);
      }

  -- the outermost call
  pub starts_call : (function : ℕ) (type : FuncType) (f : Func) (args : List Value) → ValidModule m → IsDefined m function type f
      → types_of args ≡ type.params → Configured m type.results (entered type f args [])
  starts_call function type f args v (index, e, at, known) ea =
      let locals = args ++ map (λ t. value_of t 0) f.locals in
      let el : types_of locals ≡ type.params ++ f.locals = locals_of_call type f args ea in
      record {
        typing = inside type.results (call_typing m (types_of locals) type.results);
        ends = pushed type.results [];
        under = in_label type.results (pushed type.results []) (length type.results) Done [] f.body refl
            (outermost locals (length type.results) [] Done refl) (rw (← pushed-split type.results []) refl) refl;
        code =
            rw el (body_typed type f (valid_function v index f at) known);
      }

  -- the answer of the host
  pub answers_call : (answers : List ValType) (below : List Context) (results : List ValType) (values : List Value) → types_of values ≡ pushed results []
      → Awaits m answers below (pushed results []) → Configured m answers (receiving values below)
  answers_call answers below results values e w = receives m answers values (pushed results []) e w.under w.code
