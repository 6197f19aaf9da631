-- A call of an instance in slices is a call of it.
use Rattle.resident.proofs.Words.{ap, arc_value, arith, call_underway, Caller, CallPlace, CallsInstance, CallUnderway, Ended, Halt, IfSome, Import, Inside, IsSomeCall, KeptInstance}
use Rattle.resident.proofs.Words.{List, memory_of, Names, None, Option, Paused, refl, SideTable, slice_get, Some, stop_of, Store, sym, Value, ℕ, ◌∙◌, ◌≡◌, ◌≤◌}
use Rattle.std.proofs.Common.{◌<◌, length}
use Rattle.limits.specs.declared.TheConstants.{MAX_DEPTH}
use Rattle.syntax.specs.Loaded.{Loaded}
use Rattle.instance.specs.declared.stack.Last.{Last}
use Rattle.events.specs.declared.ended.Ending.TheVariants.{Return, Spent}
use Rattle.reduction.specs.Run.{as_operands}
use Rattle.reduction.specs.Hosting.{Answers}
use Rattle.reduction.specs.Invoking.{ReturnsTyped}
use Rattle.reduction.proofs.Outside.{invoked_import, answer_returns}
use Rattle.interp.specs.Slices.{RunIsPaused, IsSomePaused, RunIsOver, RunStandsAt}
use Rattle.resident.specs.NoHost.{IsMinusOne, types_of_imports}
use Rattle.resident.specs.Underway.{HasCome, ComesTo, used_at, used_by}
use Rattle.resident.specs.Slices.{CallIsOver as IsOverCall, CallStandsAt}
use Rattle.resident.specs.Inner.Going.{last_at, paused_at}
use Rattle.interp.specs.declared.machine.Machine.{Machine}
use Rattle.interp.specs.Lent.{result_count}
use Rattle.interp.proofs.CountsOfResults.{count_is}
use Rattle.std.specs.Prelude.{map}
use Rattle.std.proofs.lemmas.List.{length-map}
use Rattle.syntax.specs.declared.types.ValType.{ValType}
use Rattle.valid.specs.Typing.{type_of}
use Rattle.resident.proofs.AnyHost.{refuses, paused_seen, paused_unseen}
use Rattle.resident.proofs.Refused.{called}

pub inside_of : (place : CallPlace) (paused : Paused) → paused_at place ≡ Some paused → place ≡ Inside paused
inside_of (Import function depth) paused is = absurd (cc)
inside_of (Inside at) paused is = cc

-- a call of this function, with so many calls opened, is one of that function, with as many opened
module _ (loaded : Loaded) (function depth : ℕ) (ended : Ended) (b : KeptInstance) (fuel : ℕ) (args : List Value) where
  pub as_told : (a : KeptInstance) (d f : ℕ) → loaded ≡ a.loaded → function ≡ f → depth ≡ d
      → CallsInstance (record { loaded = loaded; store = a.store; stop = a.stop }) depth fuel function args ended b → CallsInstance a d fuel f args ended b
  as_told a d f same named deep calls =
      rw (← same, ← deep, ← named) calls

-- A call over a host of whatever state, at a place.
module _ (loaded : Loaded) (tables : List SideTable) (slots : List ℕ) (frames : List Caller) (store : Store) (paused : Paused) where
  abbrev pub now : CallUnderway
  now = record {
    loaded = loaded;
    tables = tables;
    function = paused.function;
    depth = paused.depth;
    place = Some paused;
    slots = slots;
    callers = frames;
    store = store;
  }

  -- where a call that has come here stands
  pub stands_so : (a : KeptInstance) (d fuel f : ℕ) (args : List Value) → HasCome a d fuel f args now
      → RunStandsAt loaded.contents paused.depth (refuses {H = Unit {0}}) paused.function a.store tt args paused.used store tt paused.last frames
  stands_so a d fuel f args come = (paused_seen loaded.contents tables a.store store args fuel paused slots frames tt come.comes.2).stands

  by_last : (last : Option Last) → IsSomeCall now
      → ((a : KeptInstance) (d fuel f : ℕ) (args : List Value) → HasCome a d fuel f args now
      → RunStandsAt loaded.contents paused.depth (refuses {H = Unit {0}}) paused.function a.store tt args paused.used store tt last frames)
      → CallStandsAt now (stop_of last frames)
  by_last None (a, d, fuel, f, args, come) says = says a d fuel f args come
  by_last (Some last) some says = λ a d fuel f args come.
      let it = (says a d fuel f args come).1 in
      let spent : Ended = record { ending = Spent; used = paused.used } in
      let b : KeptInstance = record { loaded = loaded; store = store; stop = stop_of (Some last) frames } in
      let own : KeptInstance = record { loaded = loaded; store = a.store; stop = a.stop } in
      as_told loaded paused.function paused.depth spent b paused.used args a d f come.same come.named come.deep
      (called own paused.depth paused.used paused.function args tt tt spent b refl it.leads it.within (λ type has. tt))

  pub stands_at : IsSomeCall now → CallStandsAt now (stop_of paused.last frames)
  stands_at some = by_last paused.last some stands_so

  shallow_by : (last : Option Last) (s : Store) (args : List Value)
      → RunStandsAt loaded.contents paused.depth (refuses {H = Unit {0}}) paused.function s tt args paused.used store tt last frames
      → MAX_DEPTH ≤ length frames → IfSome last (λ l. l.depth ≤ length frames)
  shallow_by None s args stands room = tt
  shallow_by (Some last) s args stands room = omega (arith, stands.0, room)

  pub stands_within : IsSomeCall now → MAX_DEPTH ≤ length frames → IfSome paused.last (λ l. l.depth ≤ length frames)
  stands_within (a, d, fuel, f, args, come) room = shallow_by paused.last a.store args (stands_so a d fuel f args come) room

  module _ {H : Type 0} (h : H) where
    -- a call that has come here is paused here, over whatever host
    here : (a : KeptInstance) (d fuel f : ℕ) (args : List Value) → HasCome a d fuel f args now
        → RunIsPaused loaded.contents tables refuses a.store h args fuel paused slots frames store h
    here a d fuel f args come = paused_seen loaded.contents tables a.store store args fuel paused slots frames h come.comes.2

    pub some_paused : IsSomeCall now → IsSomePaused loaded.contents tables refuses paused slots frames store h
    some_paused (a, d, fuel, f, args, come) = (a.store, h, args, fuel, here a d fuel f args come)

    module _ (h' : H) where
      pub over_calls : (ended : Ended) (t : Store) (stop : Option Halt)
          → ((s : Store) (before : H) (args : List Value) (fuel : ℕ) → RunIsPaused loaded.contents tables refuses s before args fuel paused slots frames store h
          → RunIsOver loaded.contents paused.depth refuses paused.function s before args fuel ended t h' stop)
          → ReturnsTyped loaded.contents paused.function ended.ending
          → (a : KeptInstance) (d fuel f : ℕ) (args : List Value) → HasCome a d fuel f args now
          → CallsInstance a d fuel f args ended (record { loaded = loaded; store = t; stop = stop })
      over_calls ended t stop over typed a d fuel f args come =
          let it : RunIsOver loaded.contents paused.depth refuses paused.function a.store h args fuel ended t h' stop =
          over a.store h args fuel (here a d fuel f args come) in
          let b : KeptInstance = record { loaded = loaded; store = t; stop = stop } in
          let own : KeptInstance = record { loaded = loaded; store = a.store; stop = a.stop } in
          as_told loaded paused.function paused.depth ended b fuel args a d f come.same come.named come.deep
          (called own paused.depth fuel paused.function args h h' ended b refl it.leads it.within typed)

      pub goes_on : (next : Paused) (ts : List SideTable) (after : List ℕ) (callers : List Caller) (t : Store)
          → (next.function ≡ paused.function) × (next.depth ≡ paused.depth)
          → ((s : Store) (before : H) (args : List Value) (fuel : ℕ) → RunIsPaused loaded.contents tables refuses s before args fuel paused slots frames store h
          → RunIsPaused loaded.contents ts refuses s before args fuel next after callers t h')
          → 1 ≤ next.left
          → (a : KeptInstance) (d fuel f : ℕ) (args : List Value) → HasCome a d fuel f args now
          → HasCome a d fuel f args (record {
            loaded = loaded;
            tables = ts;
            function = next.function;
            depth = next.depth;
            place = Some next;
            slots = after;
            callers = callers;
            store = t;
          })
          × (next.used < fuel)
      goes_on next ts after callers t call going left a d fuel f args come =
          let there : RunIsPaused loaded.contents ts refuses a.store h args fuel next after callers t h' =
          going a.store h args fuel (here a d fuel f args come) in (
            record {
              same = come.same;
              named = call.0 ∙ come.named;
              deep = call.1 ∙ come.deep;
              comes = (refl, refl, paused_unseen loaded.contents ts a.store t args fuel next after callers h h' there);
            },
            omega (arith, there.paid, left),
          )

-- where a call stands, whatever it is of
module _ (loaded : Loaded) (state : Store) (machine : Machine) where
  pub place_stands : (place : CallPlace) → IsSomeCall (call_underway loaded state machine place)
      → CallStandsAt (call_underway loaded state machine place) (stop_of (last_at place) machine.frames.items)
  place_stands (Import function depth) some = refl
  place_stands (Inside paused) some = stands_at loaded (arc_value machine.tables) machine.slots machine.frames.items state paused some

  pub place_shallow : (place : CallPlace) → IsSomeCall (call_underway loaded state machine place) → MAX_DEPTH ≤ length machine.frames.items
      → IfSome (last_at place) (λ l. l.depth ≤ MAX_DEPTH)
  place_shallow (Import function depth) some room = tt
  place_shallow (Inside paused) (a, d, fuel, f, args, come) room =
      shallow paused.last a.store args
      (stands_so loaded (arc_value machine.tables) machine.slots machine.frames.items state paused a d fuel f args come) where
        shallow : (last : Option Last) (s : Store) (args : List Value)
            → RunStandsAt loaded.contents paused.depth (refuses {H = Unit {0}}) paused.function s tt args paused.used state tt last machine.frames.items
            → IfSome last (λ l. l.depth ≤ MAX_DEPTH)
        shallow None s args stands = tt
        shallow (Some last) s args stands = stands.0

-- An import is asked. Its instance stays as it was.
module _ (c : CallUnderway) (none : c.place ≡ None) (v : Loaded) (same : v ≡ c.loaded) (number : ℕ) (is : number ≡ c.function)
    (names : Names v.contents (types_of_imports v.contents)) (answer : Option Value) (minus : IsMinusOne answer)
    (typed : Answers (slice_get (types_of_imports v.contents) number) answer) where
  abbrev pub answered : Ended
  answered = record { ending = Return (as_operands answer); used = 0 }

  abbrev pub left : KeptInstance
  left = record { loaded = c.loaded; store = c.store; stop = None }

  import_calls : (a : KeptInstance) (d fuel f : ℕ) (args : List Value) → HasCome a d fuel f args c → CallsInstance a d fuel f args answered left
  import_calls a d fuel f args come =
      let at_first : ComesTo c None a.store fuel args = rw none at come.comes in
      let m = c.loaded.contents in
      let types = types_of_imports m in
      let named : Names m types = rw (← same) names in
      let fits : Answers (slice_get types c.function) answer =
      rw (← is, ← same) typed in
      let own : KeptInstance = record { loaded = c.loaded; store = c.store; stop = a.stop } in
      let calls : CallsInstance own c.depth fuel c.function args answered left =
      called own c.depth fuel c.function args tt tt answered left refl
      (invoked_import m c.function args at_first.0 types named at_first.1 answer fits c.depth fuel (refuses {H = Unit {0}}) c.store tt tt (memory_of c.store) (as_operands answer)
      refl refl ((minus, refl), refl))
      (omega arith) (answer_returns m c.function args at_first.0 types named at_first.1 answer fits (as_operands answer) refl) in
      as_told c.loaded c.function c.depth answered left fuel args a d f come.same come.named come.deep
      (rw (← at_first.2) calls)

  -- the answer is as many results as its function has
  pub import_count : IsSomeCall c → result_count c.loaded.contents c.function ≡ length (as_operands answer)
  import_count (a, d, fuel, f, args, come) =
      let at_first : ComesTo c None a.store fuel args = rw none at come.comes in
      let m = c.loaded.contents in
      let types = types_of_imports m in
      let named : Names m types = rw (← same) names in
      let fits : Answers (slice_get types c.function) answer =
      rw (← is, ← same) typed in
      let takes = at_first.0 in
      let results : map type_of (as_operands answer) ≡ takes.type.results =
      answer_returns m c.function args takes types named at_first.1 answer fits (as_operands answer) refl takes.type takes.known in
      count_is m c.function takes.type takes.known ∙ ap (λ (ts : List ValType). length ts) (sym results) ∙ length-map (as_operands answer) type_of

  pub import_over : (ended : Ended) (b : KeptInstance) → ended ≡ answered → b ≡ left → (units : ℕ) → IsOverCall c units b ended
  import_over ended b e eb units =
      let unused : used_by c ≡ 0 = ap (λ (p : Option Paused). used_at p) none in
      let over : IsOverCall c units left answered = record { calls = import_calls; since = omega (arith, unused); slice = omega (arith, unused) } in
      rw (eb, e) over
