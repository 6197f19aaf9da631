-- An order that ran in slices.
use Rattle.order.proofs.Words.{AreResults, Computes, ExportsFunction, HasFunctionType, type_of_call, type_of_entry, type_of_function, ValidModule, WorkAnswered}
use Rattle.order.proofs.Words.{ComputesTo, Contents, end_of_run, FuncType, HostCall, I32, imported, IsLinked, Returned, StartRun, WorkHost, WorkOrder, WorkStop}
use Rattle.order.proofs.Words.{arith, Caller, defined, Ending, EndsAs, Invokes, IsFresh, Now, Option, Paused, Return, reverse, RunEnd, Serves, ValType, WorkEnd}
use Rattle.order.proofs.Words.{ap, Call, codes, Ended, Halt, List, None, refl, Some, Store, subst, sym, Value, Work, ℕ, [], ◌+◌, ◌-◌, ◌∙◌, ◌∷◌, ◌≡◌}
use Rattle.std.proofs.Common.{◌*◌, ◌<◌, ◌≤◌, length, inl, inr}
use Rattle.std.proofs.lemmas.Bool.{cases_lt}
use Rattle.limits.specs.declared.TheConstants.{MAX_BYTES}
use Rattle.reduction.specs.Invoking.{TakesArguments}
use Rattle.reduction.proofs.OneRun.{not_both}
use Rattle.interp.specs.Slices.{RunIsOver, RunIsPaused}
use Rattle.order.specs.Slices.{OrderGoesOn}
use Rattle.order.specs.declared.running.OrderGoing.{OrderGoing}
use Rattle.order.specs.declared.running.OrderGoing.TheVariants.{Over, Paused as PausedAgain}
use Rattle.valid.specs.Targets.{AreTables}
use Rattle.valid.specs.declared.side_table.SideTable.{SideTable}
use Rattle.interp.proofs.Slots.OtherHosts.{came_by}
use Rattle.order.specs.Work as work
use Rattle.order.specs.Stopping as stopping
use Rattle.order.specs.Inner.Going.{StartIsOver}
use Rattle.order.proofs.ImportTypes.{import_known}
use Rattle.order.proofs.FunctionTypes.{has_type, known_as}
use Rattle.order.proofs.WorkHostAnswers.{work_stops, work_serves, not_returned, served}

module _ (o : WorkOrder) (fuel : ℕ) (s t : Store) (old new : WorkHost) (serves : Serves old o) (function : ℕ) (args : List Value) (ended : Ended) (stop : Option Halt)
    (over : RunIsOver o.loaded.contents o.depth WorkAnswered function s old args fuel ended t new stop) where
  -- a call in slices is a call of the order's
  pub over_stops : WorkStop o fuel s old.reply.items function args ended t new.reply.items stop
  over_stops = work_stops o fuel o.loaded refl s t old new serves function args ended stop over.leads

  pub over_serves : Serves new o
  over_serves = work_serves o fuel o.loaded refl s t old new serves function args ended stop over.leads

-- the start function is over
module _ (o : WorkOrder) (s t : Store) (old reply : List ℕ) (function : ℕ) (ended : Ended) (stop : Option Halt)
    (is_start : o.loaded.contents.start ≡ Some function) (empty : old ≡ []) (ran : WorkStop o o.fuel s old function [] ended t reply stop) where
  pub start_stops : WorkStop o o.fuel s [] function [] ended t reply stop
  start_stops = subst (λ (bytes : List ℕ). WorkStop o o.fuel s bytes function [] ended t reply stop) empty ran

  -- it has run as the start function does
  pub start_ran : StartRun o o.loaded.contents.start s (end_of_run ended.ending) ended.used t reply
  start_ran = subst (λ (f : Option ℕ). StartRun o f s (end_of_run ended.ending) ended.used t reply) (sym is_start) start_stops.run

  -- it doesn't return: so the order is computed
  pub start_computes : IsFresh o.loaded.contents s → (e : WorkEnd) → ((values : List Value) → ended.ending ≡ Return values → ⊥) → EndsAs (end_of_run ended.ending) reply e
      → Computes o e ended.used × ComputesTo o e ended.used stop
  start_computes fresh e not end = (
    work.stops s t (end_of_run ended.ending) reply fresh start_ran (not_returned ended.ending not) end,
    stopping.stops s t ended reply function fresh is_start start_stops (not_returned ended.ending not) refl end,
  )

  -- it returns
  pub start_returns : IsFresh o.loaded.contents s → (values : List Value) → ended.ending ≡ Return values → ended.used ≤ o.fuel → StartIsOver o ended.used t reply
  start_returns fresh values returned within = record {
    s = s;
    results = reverse values;
    fresh = fresh;
    run = subst (λ (x : Ending). StartRun o o.loaded.contents.start s (end_of_run x) ended.used t reply) returned start_ran;
    within = within;
  }

-- there is none
pub no_start : (o : WorkOrder) (s : Store) (reply : List ℕ) → IsFresh o.loaded.contents s → o.loaded.contents.start ≡ None → reply ≡ [] → StartIsOver o 0 s reply
no_start o s reply fresh none empty = record {
  s = s;
  results = [];
  fresh = fresh;
  run = subst (λ (f : Option ℕ). StartRun o f s (Returned []) 0 s reply) (sym none) (refl, refl, refl, empty);
  within = omega arith;
}

-- `uv_work`, in slices, is over: so the order is computed
pub work_computes : (o : WorkOrder) (mid t : Store) (old reply : List ℕ) (first function : ℕ) (ended : Ended) (stop : Option Halt) → StartIsOver o first mid old
    → ExportsFunction o.loaded.contents (codes "uv_work") function
    → WorkStop o (o.fuel - first) mid old function (I32 o.op ∷ []) ended t reply stop
    → (e : WorkEnd) → EndsAs (end_of_run ended.ending) reply e
    → Computes o e (first + ended.used) × ComputesTo o e (first + ended.used) stop
work_computes o mid t old reply first function ended stop started exported ran e end = (
  work.works started.s mid t started.results (end_of_run ended.ending) first ended.used old reply function started.fresh started.run exported ran.run refl end,
  stopping.works started.s mid t started.results ended first old reply function started.fresh started.run exported ran refl end,
)

-- an import is asked for nothing
pub asks_for_nothing : (m : Contents) (depth fuel : ℕ) (s t : Store) (function : ℕ) (args : List Value) (trace : List HostCall) (outcome : RunEnd) (used : ℕ) → function < length m.imports
    → Invokes m depth fuel s function args trace outcome used t → used ≡ 0
asks_for_nothing m depth fuel s t function args trace outcome used within (defined type f is run) = absurd (not_both m function type f is within)
asks_for_nothing m depth fuel s _ function args _ _ _ within (imported call is named given from) = refl

-- each function of the host has a result, so none is a start function
one_result : (c : Call) → length (type_of_call c).results ≡ 1
one_result Now = refl
one_result _ = refl

import_has_result : (m : Contents) → IsLinked m → (function : ℕ) → function < length m.imports → (type : FuncType) → HasFunctionType m function type → length type.results ≡ 1
import_has_result m linked function within type has =
    let it = import_known m linked function within in
    let known : type_of_function m function ≡ Some (type_of_call it.0) = it.1 in
    let same : Some type ≡ Some (type_of_call it.0) = sym (known_as m function type has) ∙ known in
    let type_is : type ≡ type_of_call it.0 = cc in
    ap (λ (t : FuncType). length t.results) type_is ∙ one_result it.0

-- nor is any without results
pub bare_is_defined : (m : Contents) → IsLinked m → (function : ℕ) (type : FuncType) → HasFunctionType m function type → type.results ≡ [] → length m.imports ≤ function
bare_is_defined m linked function type has none = elim (cases_lt function (length m.imports)) [
  | inl within ↦ absurd (let one = import_has_result m linked function within type has in let zero = ap (λ (ts : List ValType). length ts) none in omega (arith, one, zero))
  | inr behind ↦ behind
]

pub start_is_defined : (m : Contents) → ValidModule m → IsLinked m → (function : ℕ) → m.start ≡ Some function → length m.imports ≤ function
start_is_defined m valid linked function is =
    bare_is_defined m linked function (record { params = []; results = [] }) (rw is at valid.start) refl

-- a function of that type takes the operation
pub work_takes : (m : Contents) (function op : ℕ) → type_of_function m function ≡ Some (type_of_entry Work) → TakesArguments m function (I32 op ∷ [])
work_takes m function op typed = record { type = type_of_entry Work; known = has_type m function (type_of_entry Work) typed; fit = refl }

-- the start function takes nothing
pub start_takes : (m : Contents) → ValidModule m → (function : ℕ) → m.start ≡ Some function → TakesArguments m function []
start_takes m valid function is = record { type = record { params = []; results = [] }; known = rw is at valid.start; fit = refl }

-- what doesn't return has results of any types
pub no_results : (how : Ending) → ((values : List Value) → how ≡ Return values → ⊥) → (types : List ValType) → AreResults how types
no_results (Return values) not types = absurd (not values refl)
no_results _ not types = tt

-- a call that is under way has come to its host by a lawful trace
pub came_to : (o : WorkOrder) → ValidModule o.loaded.contents → (tables : List SideTable) → AreTables o.loaded.contents tables → (s t : Store) (old new : WorkHost)
    (args : List Value) (fuel : ℕ) (paused : Paused) (slots : List ℕ) (frames : List Caller) → Serves old o
    → RunIsPaused o.loaded.contents tables WorkAnswered s old args fuel paused slots frames t new → Serves new o
came_to o valid tables agree s t old new args fuel paused slots frames serves c =
    let it = came_by o.loaded.contents valid tables agree WorkAnswered s t old new args fuel paused slots frames c in
    (served o it.0 old new serves it.1).serves

-- an order that went on with what was left of a slice went on for the whole slice
module _ (o : WorkOrder) (used now copied copied' units rest : ℕ) (s t : Store) (later : used ≤ now) (within : now ≤ used + units) (is : rest ≡ units - (now - used))
    (more : copied ≤ copied') (few : MAX_BYTES * used + copied' ≤ MAX_BYTES * now + copied) where
  pub goes_on_from : (going : OrderGoing) → OrderGoesOn (record { order = o; used = now; copied = copied'; store = t }) rest going
      → OrderGoesOn (record { order = o; used = used; copied = copied; store = s }) units going
  goes_on_from (Over told) h =
      let since = h.since in
      let slice = h.slice in
      record {
        order = h.order;
        memory = h.memory;
        uses = h.uses;
        leaves = h.leaves;
        since = omega (arith, later, since);
        slice = omega (arith, slice, is, later, within);
        within = h.within;
      }
  goes_on_from (PausedAgain after) h =
      let some = h.some in
      let most = h.most in
      let all = h.all in
      let paid = h.few in
      record {
        order = h.order;
        some = omega (arith, some, is, later, within);
        most = omega (arith, most, is, later, within);
        all = omega (arith, all, is, later, within, more);
        few = omega (arith, paid, few);
        left = h.left;
      }

-- so many units and bytes, however they are written, and whatever the instance was before
pub goes_on_same : (o : WorkOrder) (used used' copied copied' units : ℕ) (s t : Store) (going : OrderGoing) → used' ≡ used → copied' ≡ copied
    → OrderGoesOn (record { order = o; used = used'; copied = copied'; store = t }) units going
    → OrderGoesOn (record { order = o; used = used; copied = copied; store = s }) units going
goes_on_same o used used' copied copied' units s t (Over told) same also h =
    subst (λ (n : ℕ). OrderGoesOn (record { order = o; used = n; copied = copied; store = s }) units (Over told)) same h
goes_on_same o used used' copied copied' units s t (PausedAgain after) same also h =
    let some = h.some in
    let most = h.most in
    let all = h.all in
    let few = h.few in
    record {
      order = h.order;
      some = omega (arith, some, same);
      most = omega (arith, most, same);
      all = omega (arith, all, same, also);
      few = omega (arith, few, same, also);
      left = h.left;
    }
