-- Soundness: a typed configuration has a next step, and stays typed (WebAssembly Core 1.0, appendix, soundness).
use Rattle.reduction.proofs.Words.{CallIndirect, function_types, HasFunctionType, HaveGlobalTypes, if◌then◌else◌, on_contexts, same_valtypes, type_of_function}
use Rattle.reduction.proofs.Words.{and_parts, AsLoop, code_left, continuing, label_for, length-map, locals_of, operands_of, plain_step, Structured, with_locals}
use Rattle.reduction.proofs.Words.{ap, AsBlock, at_code, branched, Contents, FuncType, going_on, PlainStep, receiving, returned, same_type, slice_get, types_of}
use Rattle.reduction.proofs.Words.{arith, BrTable, chosen, Context, inside, Leaves, length, nat_le, Option, pushed, Return, reverse, turned, type_of, ValType}
use Rattle.reduction.proofs.Words.{Bool, BrIf, Call, Code, Done, drop, Fails, false, Frame, Instr, Label, Lacks, List, next, Plain, plain, Traps, Typed, Value}
use Rattle.reduction.proofs.Words.{Br, I32, I64, If, None, refl, Some, suc, sym, take, true, zero, ℕ, [], ◌&&◌, ◌++◌, ◌==◌, ◌∙◌, ◌∷◌, ◌≡◌}
use Rattle.reduction.proofs.Contexts.{with_locals-operands, with_locals-code}
use Rattle.std.proofs.Common.{option_and_then, eq-eqb}
use Rattle.syntax.specs.declared.types.ValType.TheVariants as type
use Rattle.valid.specs.Typing.{Context as Typing, InstrTyped, type_of_block}
use Rattle.instance.specs.Store.{Store as Memory_and_globals}
use Rattle.reduction.specs.Step.{takes_topmost, call_typed, call_element, entering}
use Rattle.reduction.specs.Typed.{Under, in_label, in_call, outermost, Configured, Sound}
use Rattle.reduction.proofs.Lists.{types_of-append, pushed-split, topmost_types, in_order, pushed-last, label_holds, length-pushed}
use Rattle.valid.proofs.SameTypes.{same_valtypes-is, same_valtypes-of}
use Rattle.reduction.proofs.PlainStepsSound.{PlainStepTyped, plain_step_typed, there}

module _ (m : Contents) (answers : List ValType) where
  -- the innermost context may have other operands and other code
  pub under_going : {c : Typing} {ends : List ValType} {contexts : List Context} (values : List Value) (code : Code) → Under m answers c ends contexts
      → Under m answers c ends (going_on values code contexts)
  under_going values code (in_label types ends arity next v0 c0 e u t1 t2) = in_label types ends arity next values code e u t1 t2
  under_going values code (in_call results locals arity v0 c0 e u t) = in_call results locals arity values code e u t
  under_going values code (outermost locals arity v0 c0 e) = outermost locals arity values code e

  going-code : {c : Typing} {ends : List ValType} {contexts : List Context} (values : List Value) (code : Code) → Under m answers c ends contexts → code_left (going_on values code contexts) ≡ code
  going-code values code (in_label types ends arity next v0 c0 e u t1 t2) = refl
  going-code values code _ = refl

  going-operands : {c : Typing} {ends : List ValType} {contexts : List Context} (values : List Value) (code : Code) → Under m answers c ends contexts
      → operands_of (going_on values code contexts) ≡ values
  going-operands values code (in_label types ends arity next v0 c0 e u t1 t2) = refl
  going-operands values code _ = refl

  -- the innermost context gets typed operands
  pub receives : {c : Typing} {ends : List ValType} {contexts : List Context} (values : List Value) (more : List ValType) → types_of values ≡ more
      → Under m answers c ends contexts → Typed c (code_left contexts) (more ++ types_of (operands_of contexts)) ends → Configured m answers (receiving values contexts)
  receives {c} {ends} values more ev (in_label types es arity next own code e u t1 t2) t =
      record { typing = c; ends = ends; under = in_label types es arity next (values ++ own) code e u t1 t2; code = rw (types_of-append, ev) t }
  receives {c} {ends} values more ev (in_call results locals arity own code e u t1) t =
      record { typing = c; ends = ends; under = in_call results locals arity (values ++ own) code e u t1; code = rw (types_of-append, ev) t }
  receives {c} {ends} values more ev (outermost locals arity own code e) t =
      record { typing = c; ends = ends; under = outermost locals arity (values ++ own) code e; code = rw (types_of-append, ev) t }

  -- the innermost context goes on elsewhere with more operands
  continues : {c : Typing} {ends : List ValType} {contexts : List Context} (values : List Value) (types : List ValType) (next : Code) → types_of values ≡ pushed types []
      → Under m answers c ends contexts → Typed c next (pushed types (types_of (operands_of contexts))) ends → Configured m answers (continuing values next contexts)
  continues {c} {ends} values types next ev (in_label ts es arity back own code e u t1 t2) t =
      record { typing = c; ends = ends; under = in_label ts es arity back (values ++ own) next e u t1 t2; code = rw (types_of-append, ev, ← pushed-split types (types_of own)) t }
  continues {c} {ends} values types next ev (in_call results locals arity own code e u t1) t =
      record { typing = c; ends = ends; under = in_call results locals arity (values ++ own) next e u t1; code = rw (types_of-append, ev, ← pushed-split types (types_of own)) t }
  continues {c} {ends} values types next ev (outermost locals arity own code e) t =
      record { typing = c; ends = ends; under = outermost locals arity (values ++ own) next e; code = rw (types_of-append, ev, ← pushed-split types (types_of own)) t }

  module_of : {c : Typing} {ends : List ValType} {contexts : List Context} → Under m answers c ends contexts → c.module_contents ≡ m
  module_of (in_label types ends arity next v0 c0 e u t1 t2) = module_of u
  module_of (in_call results locals arity v0 c0 e u t) = refl
  module_of (outermost locals arity v0 c0 e) = refl

  locals_typed : {c : Typing} {ends : List ValType} {contexts : List Context} → Under m answers c ends contexts → types_of (locals_of contexts) ≡ c.locals
  locals_typed (in_label types ends arity next v0 c0 e u t1 t2) = locals_typed u
  locals_typed (in_call results locals arity v0 c0 e u t) = refl
  locals_typed (outermost locals arity v0 c0 e) = refl

  -- other locals of the same types
  under_locals : {c : Typing} {ends : List ValType} {contexts : List Context} (locals : List Value) → types_of locals ≡ c.locals
      → Under m answers c ends contexts → Under m answers c ends (with_locals locals contexts)
  under_locals locals el (in_label {around} {after} {below} types ends arity next values code e u t1 t2) =
      in_label types ends arity next values code e (under_locals locals el u)
      (rw (with_locals-code locals below, with_locals-operands locals below) t1)
      (rw (with_locals-operands locals below) t2)
  under_locals locals el (in_call {around} {after} {below} results own arity values code e u t) =
      rw el at (in_call results locals arity values code e u t)
  under_locals locals el (outermost own arity values code e) =
      rw (sym el) (outermost locals arity values code e)

  -- a branch to a label that takes the types on top
  branches : {c : Typing} {ends : List ValType} {contexts : List Context} (label : ℕ) (values : List Value) (types rest : List ValType) → Under m answers c ends contexts
      → slice_get c.labels label ≡ Some types → types_of values ≡ pushed types rest
      → (there : List Context) × (branched label values contexts ≡ Some there) × Configured m answers there
  branches zero values types rest (in_label {below} ts es arity next own code e u t1 t2) at ev =
      let same : ts ≡ types = cc in
      let r = topmost_types types rest values ev in
      let n : length types ≡ arity = ap length (sym same) ∙ sym e in
      let t : nat_le arity (length values) ≡ true = rw n at r.2 in
      let kept : types_of (take arity values) ≡ pushed ts [] = (rw n at r.0) ∙ ap (λ (x : List ValType). pushed x []) (sym same) in
      (continuing (take arity values) next below, rw t refl, continues (take arity values) ts next kept u t2)
  branches (suc label) values types rest (in_label ts es arity next own code e u t1 t2) at ev = branches label values types rest u at ev
  branches label values types rest (in_call results locals arity own code e u t) at ev = absurd (cc)
  branches label values types rest (outermost locals arity own code e) at ev = absurd (cc)

  -- a return with the results on top
  returns : {c : Typing} {ends : List ValType} {contexts : List Context} (values : List Value) (rest : List ValType) → Under m answers c ends contexts
      → types_of values ≡ pushed c.results rest
      → (there : List Context) × (returned values contexts ≡ Some there) × Configured m answers there
  returns values rest (in_label ts es arity next own code e u t1 t2) ev = returns values rest u ev
  returns {c} values rest (in_call {below} results locals arity own code e u t) ev =
      let r = topmost_types results rest values ev in
      let k : nat_le arity (length values) ≡ true = rw e r.2 in (
        Frame locals arity (take arity values) Done ∷ below,
        rw k refl,
        record { typing = c; ends = pushed results []; under = in_call results locals arity (take arity values) Done e u t; code = rw e r.0 },
      )
  returns {c} values rest (outermost locals arity own code e) ev =
      let r = topmost_types answers rest values ev in
      let k : nat_le arity (length values) ≡ true = rw e r.2 in (
        Frame locals arity (take arity values) Done ∷ [],
        rw k refl,
        record { typing = c; ends = pushed answers []; under = outermost locals arity (take arity values) Done e; code = rw e r.0 },
      )

  turned_sound : (c : Typing) (ends : List ValType) (contexts : List Context) (s : Memory_and_globals) (o : PlainStep) (rest : Code) (mid : List ValType)
      → Under m answers c ends contexts → PlainStepTyped m c.locals mid o → Typed c rest mid ends → Sound m answers (turned o rest contexts)
  turned_sound c ends contexts s (Leaves s' locals values) rest mid u o t =
      let v = under_locals locals o.1 u in (
        o.0,
        record {
          typing = c;
          ends = ends;
          under = under_going values rest v;
          code = rw (going-code values rest v, going-operands values rest v, o.2) t;
        },
      )
  turned_sound c ends contexts s (Fails trap) rest mid u o t = tt
  turned_sound c ends contexts s Lacks rest mid u o t = absurd o

  -- a call of a function of this type, with its parameters on top
  call_sound : (c : Typing) (ends : List ValType) (contexts : List Context) (s : Memory_and_globals) (f : ℕ) (type : FuncType) (values : List Value) (rest : Code) (below : List ValType)
      → Under m answers c ends contexts → HasFunctionType m f type → types_of values ≡ pushed type.params below → Typed c rest (pushed type.results below) ends
      → Sound m answers (call_typed f (Some type) values rest contexts)
  call_sound c ends contexts s f type values rest below u h e t =
      let r = topmost_types type.params below values e in
      let n = length type.params in
      let v = drop n values in
      let fit : types_of (reverse (take n values)) ≡ type.params = in_order (take n values) type.params r.0 in
      let k : takes_topmost type values ≡ true = same_valtypes-of (types_of (reverse (take n values))) type.params fit in
      rw k (
        type,
        h,
        fit,
        record {
          typing = c;
          ends = ends;
          under = under_going v rest u;
          code = rw (going-code v rest u, going-operands v rest u, r.1, ← pushed-split type.results below) t;
        },
      )

  -- a block whose label takes these types, and to which a branch goes on there
  enters : (c : Typing) (ends : List ValType) (contexts : List Context) (s : Memory_and_globals) (params results types : List ValType) (next body : Code)
      (values : List Value) (rest : Code) (below : List ValType)
      → HaveGlobalTypes m s.globals → Under m answers c ends contexts → types_of values ≡ pushed params below
      → Typed (inside types c) body (pushed params []) (pushed results [])
      → Typed c next (pushed types below) ends → Typed c rest (pushed results below) ends
      → Sound m answers (entering s (length params) (length types) next body values rest contexts)
  enters c ends contexts s params results types next body values rest below fit u e tb tn tr =
      let r = topmost_types params below values e in
      let n = length params in
      let v = drop n values in
      let k : nat_le n (length values) ≡ true = r.2 in
      let a : Typed c (code_left (going_on v rest contexts)) (pushed results [] ++ types_of (operands_of (going_on v rest contexts))) ends =
      rw (going-code v rest u, going-operands v rest u, r.1, ← pushed-split results below) tr in
      let b : Typed c next (pushed types (types_of (operands_of (going_on v rest contexts)))) ends =
      rw (going-operands v rest u, r.1) tn in
      rw k (
        fit,
        record {
          typing = inside types c;
          ends = pushed results [];
          under = in_label types (pushed results []) (length types) next (take n values) body refl (under_going v rest u) a b;
          code = rw r.0 tb;
        },
      )

  jump_sound : (s : Memory_and_globals) (o : Option (List Context)) → HaveGlobalTypes m s.globals
      → ((there : List Context) × (o ≡ Some there) × Configured m answers there) → Sound m answers (on_contexts s o)
  jump_sound s o fit (there, e, k) = rw e (fit, k)

  pub type_of_function-is : (f : ℕ) (type : FuncType) → HasFunctionType m f type → type_of_function m f ≡ Some type
  type_of_function-is f type (t, a, b) = rw a b

  function_type_found : (f : ℕ) (type : FuncType) (o : Option ℕ) → slice_get (function_types m) f ≡ o → option_and_then (slice_get m.types) o ≡ Some type → HasFunctionType m f type
  function_type_found f type None a b = absurd (cc)
  function_type_found f type (Some t) a b = (t, a, b)

  -- a call through the table
  element_sound : (c : Typing) (ends : List ValType) (contexts : List Context) (s : Memory_and_globals) (t : ℕ) (type : FuncType) (values : List Value)
      (rest : Code) (below : List ValType) (o : Option (Option ℕ))
      → Under m answers c ends contexts → slice_get m.types t ≡ Some type → types_of values ≡ pushed type.params below → Typed c rest (pushed type.results below) ends
      → Sound m answers (call_element m t o values rest contexts)
  element_sound c ends contexts s t type values rest below None u at e k = tt
  element_sound c ends contexts s t type values rest below (Some None) u at e k = tt
  element_sound c ends contexts s t type values rest below (Some (Some f)) u at e k =
      rw at (by_type (type_of_function m f) refl) where
        by_test : (b : Bool) (other : FuncType) → (same_valtypes other.params type.params && same_valtypes other.results type.results) ≡ b → type_of_function m f ≡ Some other
            → Sound m answers (if b then call_typed f (type_of_function m f) values rest contexts else Traps 7)
        by_test false other eb eo = tt
        by_test true other eb eo =
            let q = and_parts _ _ eb in
            let p = same_valtypes-is other.params type.params q.0 in
            let r = same_valtypes-is other.results type.results q.1 in
            rw eo (call_sound c ends contexts s f other values rest below u (function_type_found f other (slice_get (function_types m) f) refl eo)
            (e ∙ ap (λ (ts : List ValType). pushed ts below) (sym p)) (rw r k))

        by_type : (o : Option FuncType) → type_of_function m f ≡ o → Sound m answers (if same_type o (Some type) then call_typed f (type_of_function m f) values rest contexts else Traps 7)
        by_type None eo = tt
        by_type (Some other) eo = by_test _ other refl eo

  -- an instruction that contains no other
  plain_sound : (c : Typing) (ends : List ValType) (contexts : List Context) (s : Memory_and_globals) (i : Instr) (values : List Value) (rest : Code) (mid : List ValType)
      → HaveGlobalTypes m s.globals → Under m answers c ends contexts → InstrTyped c i (types_of values) mid → Typed c rest mid ends
      → Sound m answers (plain m s i values rest contexts)
  plain_sound c ends contexts s (Br label) values rest mid fit u (types, (at, below, e)) k =
      jump_sound s _ fit (branches label values types below u at e)
  plain_sound c ends contexts s (BrIf label) (I32 zero ∷ values) rest mid fit u (types, at, (below, e, a)) k =
      let f = e ∙ pushed-last types type.I32 below in
      let g : types_of values ≡ mid = let h : types_of values ≡ pushed types below = cc in h ∙ sym a in
      (fit, record { typing = c; ends = ends; under = under_going values rest u; code = rw (going-code values rest u, going-operands values rest u, g) k })
  plain_sound c ends contexts s (BrIf label) (I32 (suc n) ∷ values) rest mid fit u (types, at, (below, e, a)) k =
      let f = e ∙ pushed-last types type.I32 below in
      let h : types_of values ≡ pushed types below = cc in
      jump_sound s _ fit (branches label values types below u at h)
  plain_sound c ends contexts s (BrIf label) _ rest mid fit u (types, at, (below, e, a)) k = absurd (let f = e ∙ pushed-last types type.I32 below in cc)
  plain_sound c ends contexts s (BrTable labels default) (I32 n ∷ values) rest mid fit u (types, each, at, below, e) k =
      let f = e ∙ pushed-last types type.I32 below in
      let h : types_of values ≡ pushed types below = cc in
      jump_sound s _ fit (branches (label_for (slice_get labels n) default) values types below u
      (label_holds (λ (l : ℕ). slice_get c.labels l ≡ Some types) labels n default each at (slice_get labels n) refl) h)
  plain_sound c ends contexts s (BrTable labels default) _ rest mid fit u (types, each, at, below, e) k = absurd (let f = e ∙ pushed-last types type.I32 below in cc)
  plain_sound c ends contexts s Return values rest mid fit u (below, e) k = jump_sound s _ fit (returns values below u e)
  plain_sound c ends contexts s (Call f) values rest mid fit u (ft, h, (below, e, a)) k =
      let h' : HasFunctionType m f ft = rw (module_of u) at h in
      let q = type_of_function-is f ft h' in
      rw q (call_sound c ends contexts s f ft values rest below u h' e (rw a at k))
  plain_sound c ends contexts s (CallIndirect t) (I32 n ∷ values) rest mid fit u (table, ft, at, (below, e, a)) k =
      let f = e ∙ pushed-last ft.params type.I32 below in
      let h : types_of values ≡ pushed ft.params below = cc in
      let at' = ap (λ (n : Contents). slice_get n.types t) (sym (module_of u)) ∙ at in
      rw (there c.module_contents.table m.table (ap (λ (k : Contents). k.table) (module_of u)) table)
      (element_sound c ends contexts s t ft values rest below (slice_get s.table n) u at' h (rw a at k))
  plain_sound c ends contexts s (CallIndirect t) _ rest mid fit u (table, ft, at, (below, e, a)) k = absurd (let f = e ∙ pushed-last ft.params type.I32 below in cc)
  plain_sound c ends contexts s i values rest mid fit u t k =
      turned_sound c ends contexts s (plain_step m s (locals_of contexts) i values) rest mid u
      (plain_step_typed m s fit (locals_of contexts) c.locals (locals_typed u) c i (types_of values) mid values (module_of u) refl tt t refl) k

  choice_typed : (c : Typing) (n : ℕ) (first second : Code) (before after : List ValType) → Typed c first before after → Typed c second before after → Typed c (chosen n first second) before after
  choice_typed c zero first second before after a b = b
  choice_typed c (suc n) first second before after a b = a

  -- no context is left under none
  pub nowhere : {c : Typing} {ends : List ValType} → Under m answers c ends [] → ⊥
  nowhere u = elim u [ ]

  -- as many results as the frame has
  all_results : (values : List Value) (results : List ValType) (arity : ℕ) → arity ≡ length results → types_of values ≡ pushed results [] → (length values == arity) ≡ true
  all_results values results arity e ev =
      let n : length (types_of values) ≡ length (pushed results []) = ap length ev in
      eq-eqb (length values) arity (omega (arith, length-map values type_of, length-pushed results []))

  results_sound : {around : Typing} {after : List ValType} (s : Memory_and_globals) (values : List Value) (results : List ValType) (locals : List Value)
      (arity : ℕ) (own : List Value) (code : Code) (below : List Context)
      → HaveGlobalTypes m s.globals → arity ≡ length results → Under m answers around after below
      → Typed around (code_left below) (pushed results (types_of (operands_of below))) after → types_of values ≡ pushed results []
      → Sound m answers (at_code m s values Done (Frame locals arity own code ∷ below))
  results_sound s values results locals arity own code [] fit e u t ev = absurd (nowhere u)
  results_sound s values results locals arity own code (top ∷ below) fit e u t ev =
      rw (all_results values results arity e ev) (fit, receives values (pushed results []) ev u (rw (← pushed-split results (types_of (operands_of (top ∷ below)))) t))

  ends_sound : {c : Typing} {ends : List ValType} {contexts : List Context} (s : Memory_and_globals) (values : List Value) → HaveGlobalTypes m s.globals
      → Under m answers c ends contexts → types_of values ≡ ends
      → Sound m answers (at_code m s values Done contexts)
  ends_sound s values fit (in_label types es arity next own code e u t1 t2) ev = (fit, receives values es ev u t1)
  ends_sound s values fit (in_call {below} results locals arity own code e u t) ev = results_sound s values results locals arity own code below fit e u t ev
  ends_sound s values fit (outermost locals arity own code e) ev = rw (all_results values answers arity e ev) ev

  code_sound : (c : Typing) (ends : List ValType) (contexts : List Context) (s : Memory_and_globals) (code : Code) (values : List Value) (types : List ValType)
      → HaveGlobalTypes m s.globals → Under m answers c ends contexts → types_of values ≡ types → Typed c code types ends → Sound m answers (at_code m s values code contexts)
  code_sound c ends contexts s Done values types fit u e t = ends_sound s values fit u (e ∙ t)
  code_sound c ends contexts s (Plain i rest) values types fit u e (mid, t, k) =
      plain_sound c ends contexts s i values rest mid fit u (rw e t) k
  code_sound c ends contexts s (Structured AsBlock type body rest) values types fit u e (t, at, below, a, tb, tr) =
      let at' : type_of_block m type ≡ Some t = ap (λ (n : Contents). type_of_block n type) (sym (module_of u)) ∙ at in
      rw at' (enters c ends contexts s t.params t.results t.results rest body values rest below fit u (e ∙ a) tb tr tr)
  code_sound c ends contexts s (Structured AsLoop type body rest) values types fit u e (t, at, below, a, tb, tr) =
      let at' : type_of_block m type ≡ Some t = ap (λ (n : Contents). type_of_block n type) (sym (module_of u)) ∙ at in
      rw at' (enters c ends contexts s t.params t.results t.params (Structured AsLoop type body rest) body values rest below fit u (e ∙ a) tb (t, at, below, refl, tb, tr) tr)
  code_sound c ends contexts s (If type first second rest) [] types fit u e (t, at, below, a, tb, tc, tr) = absurd (cc)
  code_sound c ends contexts s (If type first second rest) (I64 n ∷ values) types fit u e (t, at, below, a, tb, tc, tr) = absurd (cc)
  code_sound c ends contexts s (If type first second rest) (I32 n ∷ values) types fit u e (t, at, below, a, tb, tc, tr) =
      let at' : type_of_block m type ≡ Some t = ap (λ (n : Contents). type_of_block n type) (sym (module_of u)) ∙ at in
      let ev : types_of values ≡ pushed t.params below = cc in
      rw at' (enters c ends contexts s t.params t.results t.results rest (chosen n first second) values rest below fit u ev
      (choice_typed (inside t.results c) n first second (pushed t.params []) (pushed t.results []) tb tc) tr tr)

  -- whatever step comes next, a rule applies, and what it leads to is typed
  pub sound : (s : Memory_and_globals) (contexts : List Context) → HaveGlobalTypes m s.globals → Configured m answers contexts → Sound m answers (next m s contexts)
  sound s [] fit a = absurd (nowhere a.under)
  sound s (Label arity back values code ∷ below) fit a = code_sound a.typing a.ends (Label arity back values code ∷ below) s code values (types_of values) fit a.under refl a.code
  sound s (Frame locals arity values code ∷ below) fit a = code_sound a.typing a.ends (Frame locals arity values code ∷ below) s code values (types_of values) fit a.under refl a.code
