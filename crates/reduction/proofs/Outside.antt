-- Calls of imported functions from outside.
use Rattle.reduction.proofs.Words.{ap, as_operands, Contents, FuncType, HasFunctionType, HostCall, imported, IsImported, IsStoreOf, length, List, None, Option}
use Rattle.reduction.proofs.Words.{pushed, refl, reverse, slice_get, Some, Store, sym, type_of_function, types_of, Value, ℕ, [], ◌∙◌, ◌∷◌, ◌≡◌}
use Rattle.instance.specs.Store.{with_memory_instance, MemoryInstance}
use Rattle.events.specs.declared.ended.Ending.TheVariants.{Return}
use Rattle.reduction.specs.Hosting.{Names, Answers}
use Rattle.reduction.specs.Invoking.{TakesArguments}
use Rattle.reduction.specs.Leading.{Leads, calling, scene}
use Rattle.reduction.proofs.Lists.{in_order}
use Rattle.reduction.proofs.Stores.{with_memory_of}

module _ (m : Contents) (function : ℕ) (args : List Value) (takes : TakesArguments m function args) where
  type_known : type_of_function m function ≡ Some takes.type
  type_known = rw (takes.known.1, takes.known.2) refl

  module _ (types : List FuncType) (names : Names m types) (i : IsImported m function) (answer : Option Value) (typed : Answers (slice_get types function) answer) where
    answer_typed : types_of (as_operands answer) ≡ pushed takes.type.results []
    answer_typed = rw (names function i, type_known) at typed

    one_or_none : (o : Option Value) → reverse (as_operands o) ≡ as_operands o
    one_or_none None = refl
    one_or_none (Some v) = refl

    pub answer_returns : (values : List Value) → values ≡ as_operands answer → (type : FuncType) → HasFunctionType m function type → types_of values ≡ type.results
    answer_returns values e type has =
        let k : type_of_function m function ≡ Some type = rw (has.1, has.2) refl in
        let same : Some takes.type ≡ Some type = sym type_known ∙ k in
        let q : takes.type ≡ type = cc in
        let t : types_of (reverse (as_operands answer)) ≡ takes.type.results = in_order (as_operands answer) takes.type.results answer_typed in
        rw e (rw one_or_none at t ∙ ap (λ (x : FuncType). x.results) q)

    pub invoked_import : {H : Type 0} (depth fuel : ℕ) (moves : H → HostCall → H → Type 0) (s : Store) (before after : H) (memory : MemoryInstance) (values : List Value)
        → values ≡ as_operands answer → memory.limit ≡ s.limit
        → moves before (record { function = function; args = args; before = s.memory; answer = answer; after = memory.bytes }) after
        → Leads moves (calling m function args fuel depth) (scene s before) (record { ending = Return values; used = 0 }) None (scene (with_memory_instance memory s) after)
    invoked_import depth fuel moves s before after memory values e el k =
        let call : HostCall = record { function = function; args = args; before = s.memory; answer = answer; after = memory.bytes } in
        let r : reverse values ≡ as_operands answer = ap (λ (vs : List Value). reverse vs) e ∙ one_or_none answer in
        record { asked = call ∷ []; ran = rw (r, el) (imported call i refl refl refl); answered = (after, k, refl); stopped = refl }

    pub memory_kept : (s : Store) (memory : MemoryInstance) → memory.limit ≡ s.limit → length memory.bytes ≡ length s.memory → IsStoreOf m s → IsStoreOf m (with_memory_instance memory s)
    memory_kept s memory el en fit = rw el (with_memory_of m s memory.bytes en fit)
