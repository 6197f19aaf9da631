-- What comes of a call of a function on an instance that is kept.
use Rattle.std.specs.Prelude.{◌≡◌, ◌≢◌, ℕ, ◌≤◌, List, [], ◌∷◌, slice_get, Option, Some, None}
use Rattle.syntax.specs.Loaded.{Loaded}
use Rattle.syntax.specs.Exporting.{IsFirst}
use Rattle.syntax.specs.declared.contents.Contents.{Contents}
use Rattle.syntax.specs.declared.contents.FuncType.{FuncType}
use Rattle.valid.specs.Typing.{HasFunctionType}
use Rattle.syntax.specs.declared.contents.ExternKind.TheVariants.{Func, Global}
use Rattle.syntax.specs.declared.export.Export.{Export}
use Rattle.syntax.specs.declared.types.Value.{Value}
use Rattle.instance.specs.Store.{Store}
use Rattle.instance.specs.Fresh.{IsFresh}
use Rattle.instance.specs.Stops.{Halt}
use Rattle.reduction.specs.Run.{HostCall}
use Rattle.reduction.specs.Running.{end_of_run}
use Rattle.reduction.specs.Invoking.{Invokes, ReturnsTyped}
use Rattle.reduction.specs.Stopping.{StopsAt}
use Rattle.events.specs.declared.ended.Ended.{Ended}
use Rattle.events.specs.declared.ended.Ending.{Ending}
use Rattle.events.specs.declared.ended.Ending.TheVariants.{Return, Trap, Depth, Spent}
use Rattle.resident.specs.NoHost.{AnswersMinusOne}

-- An instance that is kept: its module, its store, and where its last call stopped, innermost first, unless that returned.
pub record KeptInstance : Type 0 where
  pub loaded : Loaded
  pub store : Store
  pub stop : Option Halt

-- each of the calls is answered with -1
abbrev pub AllRefused : List HostCall → Type 0
AllRefused [] = Unit {0}
AllRefused (call ∷ calls) = AnswersMinusOne call × AllRefused calls

-- A function runs so from one store to another, while every import answers -1, and stops there, if it doesn't return: at this
-- operation, within these calls.
pub record Runs (m : Contents) (depth fuel : ℕ) (before : Store) (function : ℕ) (args : List Value) (ended : Ended) (after : Store)
    (stop : Option Halt) : Type 0 where
  pub asked : List HostCall
  pub refused : AllRefused asked
  pub ran : Invokes m depth fuel before function args asked (end_of_run ended.ending) ended.used after
  pub stopped : StopsAt m depth before function args asked ended.ending ended.used after stop

-- A call of a function on an instance. Its store is that of a run from the store as it stood, whatever the ending.
pub record CallsInstance (a : KeptInstance) (depth fuel function : ℕ) (args : List Value) (ended : Ended) (b : KeptInstance) : Type 0 where
  pub same : b.loaded ≡ a.loaded
  pub runs : Runs a.loaded.contents depth fuel a.store function args ended b.store b.stop
  pub within : ended.used ≤ fuel
  pub typed : ReturnsTyped a.loaded.contents function ended.ending

-- a new instance, before its start function
pub record IsNew (loaded : Loaded) (a : KeptInstance) : Type 0 where
  pub same : a.loaded ≡ loaded
  pub fresh : IsFresh loaded.contents a.store
  pub stop : a.stop ≡ None

-- the start function, where there is one, is called
abbrev pub StartsBy : Option ℕ → KeptInstance → (depth fuel : ℕ) → Ended → KeptInstance → Type 0
StartsBy None a depth fuel ended b = (ended ≡ record { ending = Return []; used = 0 }) × (b ≡ a)
StartsBy (Some start) a depth fuel ended b = CallsInstance a depth fuel start [] ended b

abbrev pub StartsInstance : KeptInstance → (depth fuel : ℕ) → Ended → KeptInstance → Type 0
StartsInstance a depth fuel ended b = StartsBy a.loaded.contents.start a depth fuel ended b

abbrev pub HasReturned : Ending → Type 0
HasReturned (Return values) = Unit {0}
HasReturned (Trap trap) = ⊥
HasReturned Depth = ⊥
HasReturned Spent = ⊥

-- the first export of this name is this function (a valid module exports a name once)
abbrev pub ExportsFirst : Contents → (name : List ℕ) → (function : ℕ) → Type 0
ExportsFirst m name function = IsFirst m.exports name (Some (record { kind = Func; index = function }))

-- it is no function, or there is none
abbrev pub ExportsNoFunction : Contents → (name : List ℕ) → Type 0
ExportsNoFunction m name =
    (found : Option Export) × IsFirst m.exports name found
    × ((function : ℕ) (type : FuncType) → HasFunctionType m function type → found ≢ Some (record { kind = Func; index = function }))

-- the first export of this name is a global with this value
abbrev pub ExportsGlobal : Contents → (name : List ℕ) → (globals : List Value) → (value : Value) → Type 0
ExportsGlobal m name globals value =
    (index : ℕ) × IsFirst m.exports name (Some (record { kind = Global; index = index })) × (slice_get globals index ≡ Some value)

-- it is no global that has a value, or there is none
abbrev pub ExportsNoGlobal : Contents → (name : List ℕ) → (globals : List Value) → Type 0
ExportsNoGlobal m name globals =
    (found : Option Export) × IsFirst m.exports name found
    × ((index : ℕ) (value : Value) → slice_get globals index ≡ Some value → found ≢ Some (record { kind = Global; index = index }))
