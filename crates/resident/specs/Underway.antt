-- A call of an instance under way, between two slices.
use Rattle.std.specs.Prelude.{◌≡◌, ℕ, List, Option, Some, None}
use Rattle.syntax.specs.Loaded.{Loaded}
use Rattle.syntax.specs.declared.types.Value.{Value}
use Rattle.valid.specs.declared.side_table.SideTable.{SideTable}
use Rattle.instance.specs.Store.{Store}
use Rattle.instance.specs.declared.stack.Caller.{Caller}
use Rattle.reduction.specs.Run.{HostCall, IsImported}
use Rattle.reduction.specs.Invoking.{TakesArguments}
use Rattle.interp.specs.declared.paused.Paused.{Paused}
use Rattle.interp.specs.Slices.{RunIsPaused}
use Rattle.resident.specs.NoHost.{AnswersMinusOne}
use Rattle.resident.specs.Calls.{KeptInstance}

-- A call under way: of which function of which module, with which side tables it began, and how many calls may stand open. Then where it
-- goes on, or nothing where it is of an import, which is not asked yet; over these slots and callers, and this store.
pub record CallUnderway : Type 0 where
  pub loaded : Loaded
  pub tables : List SideTable
  pub function : ℕ
  pub depth : ℕ
  pub place : Option Paused
  pub slots : List ℕ
  pub callers : List Caller
  pub store : Store

-- a host that answers every import with -1, of which nothing else is seen
abbrev pub answers : Unit {0} → HostCall → Unit {0} → Type 0
answers before call after = AnswersMinusOne call

-- the units of fuel that are used
abbrev pub used_at : Option Paused → ℕ
used_at None = 0
used_at (Some paused) = paused.used

abbrev pub used_by : CallUnderway → ℕ
used_by c = used_at c.place

-- A call with these arguments and so much fuel, which began with this store, has come to there: an import is not asked; of a function
-- of the module the run's first steps are taken.
abbrev pub ComesTo : CallUnderway → Option Paused → Store → (fuel : ℕ) → List Value → Type 0
ComesTo c None s fuel args = TakesArguments c.loaded.contents c.function args × IsImported c.loaded.contents c.function × (c.store ≡ s)
ComesTo c (Some paused) s fuel args =
    (paused.function ≡ c.function) × (paused.depth ≡ c.depth)
    × RunIsPaused c.loaded.contents c.tables answers s tt args fuel paused c.slots c.callers c.store tt

-- The call of this function that began on the instance as it stood has come to there.
pub record HasCome (a : KeptInstance) (depth fuel function : ℕ) (args : List Value) (c : CallUnderway) : Type 0 where
  pub same : c.loaded ≡ a.loaded
  pub named : c.function ≡ function
  pub deep : c.depth ≡ depth
  pub comes : ComesTo c c.place a.store fuel args

-- some call has
abbrev pub IsSomeCall : CallUnderway → Type 0
IsSomeCall c = (a : KeptInstance) × (depth : ℕ) × (fuel : ℕ) × (function : ℕ) × (args : List Value) × HasCome a depth fuel function args c
