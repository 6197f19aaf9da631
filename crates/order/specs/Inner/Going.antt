-- An order under way, between two slices.
use Rattle.std.specs.Prelude.{◌≡◌, ℕ, ◌+◌, ◌-◌, ◌≤◌, List, [], ◌∷◌, Some, codes, IsSome}
use Rattle.syntax.specs.declared.types.Value.{Value}
use Rattle.syntax.specs.declared.types.Value.TheVariants.{I32}
use Rattle.instance.specs.Store.{Store}
use Rattle.instance.specs.Fresh.{IsFresh}
use Rattle.instance.specs.Storing.{IsStoreOf}
use Rattle.reduction.specs.Run.{Returned}
use Rattle.valid.specs.Typing.{type_of_function}
use Rattle.imports.specs.Linking.{ExportsFunction}
use Rattle.imports.specs.Uv.{type_of_entry}
use Rattle.imports.specs.declared.entry_point.EntryPoint.TheVariants.{Work}
use Rattle.interp.specs.declared.paused.Paused.{Paused}
use Rattle.interp.specs.Machines.{MachineFits, IsPausedOn}
use Rattle.order.specs.declared.host.WorkHost.{WorkHost}
use Rattle.order.specs.declared.machine.WorkMachine.{WorkMachine}
use Rattle.order.specs.declared.stage.RunStage.{RunStage}
use Rattle.order.specs.declared.stage.RunStage.TheVariants.{Fresh, Starting, Working}
use Rattle.order.specs.Inner.Serving.{Serves}
use Rattle.order.specs.Inner.WorkHosting.{WorkAnswered}
use Rattle.order.specs.Runnable.{CanRun}
use Rattle.order.specs.Work.{WorkOrder, StartRun}

-- On this machine a call of a function of the order's module is under way, which began with this store and these bytes of the reply.
pub record IsCallingOn (o : WorkOrder) (m : WorkMachine) (s : Store) (old : WorkHost) (paused : Paused) (fuel : ℕ) (args : List Value) : Type 0 where
  pub serves : Serves old o
  pub deep : paused.depth ≡ o.depth
  pub under_way : IsPausedOn o.loaded.contents m.machine WorkAnswered s old args fuel paused m.state m.host

-- a machine that runs the order: it fits its module
pub record RunsOrder (o : WorkOrder) (m : WorkMachine) : Type 0 where
  pub can : CanRun o
  pub fits : MachineFits o.loaded.contents m.machine

-- nothing has run
pub record IsUnbegun (o : WorkOrder) (m : WorkMachine) : Type 0 where
  pub fresh : IsFresh o.loaded.contents m.state
  pub store : IsStoreOf o.loaded.contents m.state
  pub serves : Serves m.host o
  pub empty : m.host.reply.items ≡ []

-- the start function is under way
pub record IsStarting (o : WorkOrder) (m : WorkMachine) (paused : Paused) : Type 0 where
  pub s : Store
  pub old : WorkHost
  pub fresh : IsFresh o.loaded.contents s
  pub is_start : o.loaded.contents.start ≡ Some paused.function
  pub empty : old.reply.items ≡ []
  pub calling : IsCallingOn o m s old paused o.fuel []

-- the start function is over, or there is none, and so much fuel is used
pub record StartIsOver (o : WorkOrder) (first : ℕ) (t : Store) (reply : List ℕ) : Type 0 where
  pub s : Store
  pub results : List Value
  pub fresh : IsFresh o.loaded.contents s
  pub run : StartRun o o.loaded.contents.start s (Returned results) first t reply
  pub within : first ≤ o.fuel

-- then `uv_work` is under way, with the fuel that was left
pub record IsWorking (o : WorkOrder) (m : WorkMachine) (first : ℕ) (paused : Paused) : Type 0 where
  pub t : Store
  pub old : WorkHost
  pub started : StartIsOver o first t old.reply.items
  pub exported : ExportsFunction o.loaded.contents (codes "uv_work") paused.function
  pub typed : type_of_function o.loaded.contents paused.function ≡ Some (type_of_entry Work)
  pub calling : IsCallingOn o m t old paused (o.fuel - first) (I32 o.op ∷ [])

abbrev pub IsAtStage : WorkOrder → WorkMachine → RunStage → Type 0
IsAtStage o m Fresh = IsUnbegun o m
IsAtStage o m (Starting paused) = IsStarting o m paused
IsAtStage o m (Working first paused) = IsWorking o m first paused × IsSome paused.last

pub record IsGoing (o : WorkOrder) (m : WorkMachine) (stage : RunStage) : Type 0 where
  pub runs : RunsOrder o m
  pub at : IsAtStage o m stage

-- the fuel that is used
abbrev pub used_in_stage : RunStage → ℕ
used_in_stage Fresh = 0
used_in_stage (Starting paused) = paused.used
used_in_stage (Working first paused) = first + paused.used
