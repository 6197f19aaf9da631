-- What is true of a call under way.
use Rattle.std.specs.Prelude.{ℕ, Option, Some, None}
use Rattle.std.specs.Arc.{arc_value}
use Rattle.syntax.specs.Loaded.{Loaded}
use Rattle.instance.specs.Store.{Store}
use Rattle.instance.specs.Storing.{IsStoreOf}
use Rattle.instance.specs.Stops.{stop_of}
use Rattle.instance.specs.declared.stack.Last.{Last}
use Rattle.interp.specs.declared.machine.Machine.{Machine}
use Rattle.interp.specs.declared.paused.Paused.{Paused}
use Rattle.interp.specs.Machines.{MachineFits}
use Rattle.resident.specs.Calls.{KeptInstance}
use Rattle.resident.specs.Underway.{CallUnderway, IsSomeCall}
use Rattle.resident.specs.declared.kept.CallPlace.{CallPlace}
use Rattle.resident.specs.declared.kept.CallPlace.TheVariants.{Import, Inside}

-- of which function it is, with how many calls open at most, and where it goes on
abbrev pub called_function : CallPlace → ℕ
called_function (Import function depth) = function
called_function (Inside paused) = paused.function

abbrev pub depth_of : CallPlace → ℕ
depth_of (Import function depth) = depth
depth_of (Inside paused) = paused.depth

abbrev pub paused_at : CallPlace → Option Paused
paused_at (Import function depth) = None
paused_at (Inside paused) = Some paused

-- where it stands, once something of it has run
abbrev pub last_at : CallPlace → Option Last
last_at (Import function depth) = None
last_at (Inside paused) = paused.last

-- a machine that says that its last call was over there
abbrev pub on_machine : Machine → Option Last → Machine
on_machine machine last = record { tables = machine.tables; slots = machine.slots; frames = machine.frames; last = last }

-- what contracts see of it
abbrev pub call_underway : Loaded → Store → Machine → CallPlace → CallUnderway
call_underway loaded store machine place = record {
  loaded = loaded;
  tables = arc_value machine.tables;
  function = called_function place;
  depth = depth_of place;
  place = paused_at place;
  slots = machine.slots;
  callers = machine.frames.items;
  store = store;
}

-- the same, where a function of the module is under way
abbrev pub inside_call : Loaded → Store → Machine → Paused → CallUnderway
inside_call loaded store machine paused = call_underway loaded store machine (Inside paused)

-- and of the instance, where it is over
abbrev pub at_rest : Loaded → Store → Machine → KeptInstance
at_rest loaded store machine = record { loaded = loaded; store = store; stop = stop_of machine.last machine.frames.items }

-- The machine fits the module, the store is one of the module, and some call has come there.
pub record CallIsGoing (loaded : Loaded) (store : Store) (machine : Machine) (place : CallPlace) : Type 0 where
  pub runs : MachineFits loaded.contents machine
  pub fit : IsStoreOf loaded.contents store
  pub some : IsSomeCall (call_underway loaded store machine place)

-- The machine fits the module, and the store is one of the module.
pub record IsResting (loaded : Loaded) (store : Store) (machine : Machine) : Type 0 where
  pub runs : MachineFits loaded.contents machine
  pub fit : IsStoreOf loaded.contents store
