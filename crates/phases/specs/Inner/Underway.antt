-- What is true of a step under way.
use Rattle.std.specs.Prelude.{◌≡◌, ℕ, false, List, Option}
use Rattle.std.specs.Arc.{arc_value}
use Rattle.syntax.specs.Loaded.{Loaded}
use Rattle.syntax.specs.declared.types.Value.{Value}
use Rattle.events.specs.declared.phase.EntryKind.{EntryKind}
use Rattle.reduction.specs.Hosting.{Names}
use Rattle.reduction.specs.Invoking.{HasNoResults}
use Rattle.interp.specs.declared.paused.Paused.{Paused}
use Rattle.interp.specs.Machines.{MachineFits}
use Rattle.order.specs.ImportTypes.{import_types}
use Rattle.phases.specs.declared.shared.Shared.{Ghosts}
use Rattle.phases.specs.declared.machine.LoopMachine.{LoopMachine}
use Rattle.phases.specs.Outside.{is_failed}
use Rattle.phases.specs.Settings.{setting_of}
use Rattle.phases.specs.State.{Setting, Loop}
use Rattle.phases.specs.Underway.{StepInSlices, IsCallback}

module _ {S : Type 0} {gh : Ghosts S} where
  -- what contracts see of it
  abbrev pub step_in_slices : Loaded → EntryKind → (number : ℕ) → LoopMachine S gh → Paused → StepInSlices S
  step_in_slices loaded kind number machine paused = record {
    loaded = loaded;
    setting = setting_of machine.host.setting;
    kind = kind;
    number = number;
    tables = arc_value machine.machine.tables;
    paused = paused;
    slots = machine.machine.slots;
    callers = machine.machine.frames.items;
    loop = record { state = machine.host.state; store = machine.store; shared = machine.host.shared };
    copied = machine.host.copied;
  }

  -- The machine fits the module, and the host knows the module's imports.
  pub record LoopMachineFits (loaded : Loaded) (machine : LoopMachine S gh) : Type 0 where
    pub runs : MachineFits loaded.contents machine.machine
    pub names : Names loaded.contents (import_types (setting_of machine.host.setting).loaded.contents)

  -- So it is, and some callback has come there, which has no results.
  pub record IsStepping (loaded : Loaded) (kind : EntryKind) (number : ℕ) (machine : LoopMachine S gh) (paused : Paused) : Type 0 where
    pub fits : LoopMachineFits loaded machine
    pub g : Setting
    pub mid : Loop S
    pub args : List Value
    pub reply : Option (List ℕ)
    pub callback : IsCallback gh.calls g mid args reply (step_in_slices loaded kind number machine paused) machine.host
    pub unfailed : is_failed mid.state.status ≡ false
    pub bare : HasNoResults loaded.contents paused.function
