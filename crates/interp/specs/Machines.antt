-- Machines on which calls in slices run.
use Rattle.std.specs.Prelude.{ℕ, ◌≤◌, List, length, IfSome}
use Rattle.std.specs.Arc.{arc_value}
use Rattle.limits.specs.declared.TheConstants.{MAX_DEPTH}
use Rattle.syntax.specs.declared.types.Value.{Value}
use Rattle.syntax.specs.declared.contents.Contents.{Contents}
use Rattle.valid.specs.Targets.{AreTables}
use Rattle.valid.specs.Valid.{ValidModule}
use Rattle.instance.specs.Store.{Store}
use Rattle.reduction.specs.Run.{HostCall}
use Rattle.interp.specs.declared.machine.Machine.{Machine}
use Rattle.interp.specs.declared.paused.Paused.{Paused}
use Rattle.interp.specs.Slices.{RunIsPaused, IsSomePaused}

-- the module is valid, the machine's side tables are its, and there is room for all callers
pub record MachineFits (m : Contents) (machine : Machine) : Type 0 where
  pub valid : ValidModule m
  pub agree : AreTables m (arc_value machine.tables)
  pub room : MAX_DEPTH ≤ length machine.frames.items
  pub shallow : IfSome machine.last (λ l. l.depth ≤ MAX_DEPTH)

-- on it a call is under way
abbrev pub IsPausedOn : {H : Type 0} → Contents → Machine → (H → HostCall → H → Type 0) → Store → H → List Value → (fuel : ℕ) → Paused → Store → H → Type 0
IsPausedOn m machine moves s before args fuel paused t after =
    RunIsPaused m (arc_value machine.tables) moves s before args fuel paused machine.slots machine.frames.items t after

-- some call is
abbrev pub IsSomePausedOn : {H : Type 0} → Contents → Machine → (H → HostCall → H → Type 0) → Paused → Store → H → Type 0
IsSomePausedOn m machine moves paused t after = IsSomePaused m (arc_value machine.tables) moves paused machine.slots machine.frames.items t after
