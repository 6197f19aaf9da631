-- The words that several proofs of this crate use, from where they are defined.
pub use Rattle.events.specs.Bare.{whole, whole_ending}
pub use Rattle.events.specs.declared.ended.BareEnding.{BareEnding}
pub use Rattle.events.specs.declared.ended.Ended.{Ended}
pub use Rattle.events.specs.declared.ended.Ending.{Ending}
pub use Rattle.events.specs.declared.ended.Ending.TheVariants.{Return}
pub use Rattle.imports.specs.Linking.{ExportsFunction, Imports, IsLinked}
pub use Rattle.imports.specs.Uv.{AreNamedApart, type_of_call, type_of_entry}
pub use Rattle.imports.specs.declared.call.Call.{Call}
pub use Rattle.imports.specs.declared.call.Call.TheVariants.{InCopy, InLen, Now, OutSet}
pub use Rattle.imports.specs.declared.entry_point.EntryPoint.TheVariants.{Work}
pub use Rattle.instance.specs.Fresh.{IsFresh}
pub use Rattle.instance.specs.Stops.{Halt, stop_of}
pub use Rattle.instance.specs.Store.{Store}
pub use Rattle.instance.specs.declared.stack.Caller.{Caller}
pub use Rattle.interp.specs.Lent.{ended_in, ended_with}
pub use Rattle.interp.specs.declared.paused.Paused.{Paused}
pub use Rattle.order.specs.Inner.Going.{IsAtStage, IsStarting, IsWorking, used_in_stage}
pub use Rattle.order.specs.Inner.Serving.{Serves}
pub use Rattle.order.specs.Inner.WorkHosting.{WorkAnswered}
pub use Rattle.order.specs.Orders.{end_of, order_of}
pub use Rattle.order.specs.Stopping.{ComputesTo, WorkStop}
pub use Rattle.order.specs.Work.{Computes, EndsAs, NoMemory, StartRun, WorkEnd, WorkOrder}
pub use Rattle.order.specs.declared.host.WorkHost.{WorkHost}
pub use Rattle.order.specs.declared.stage.RunStage.{RunStage}
pub use Rattle.reduction.specs.Hosting.{Lawful, Names}
pub use Rattle.reduction.specs.Invoking.{defined, imported, Invokes}
pub use Rattle.reduction.specs.Run.{HostCall, Returned, RunEnd}
pub use Rattle.reduction.specs.Running.{AreResults, end_of_run}
pub use Rattle.std.proofs.Common.{ap, arith, codes, List, None, Option, refl, reverse, Some, subst, sym, ℕ, [], ◌+◌, ◌-◌, ◌∙◌, ◌∷◌, ◌≡◌, ◌≢◌}
pub use Rattle.std.specs.Arc.{arc_value}
pub use Rattle.std.specs.List.{slice_get}
pub use Rattle.std.specs.Option.{option_map}
pub use Rattle.syntax.specs.Loaded.{Loaded}
pub use Rattle.syntax.specs.declared.contents.Contents.{Contents}
pub use Rattle.syntax.specs.declared.contents.FuncType.{FuncType}
pub use Rattle.syntax.specs.declared.contents.Import.{Import}
pub use Rattle.syntax.specs.declared.types.ValType.{ValType}
pub use Rattle.syntax.specs.declared.types.Value.{Value}
pub use Rattle.syntax.specs.declared.types.Value.TheVariants.{I32}
pub use Rattle.valid.specs.Typing.{function_types, HasFunctionType, type_of_function}
pub use Rattle.valid.specs.Valid.{ValidModule}
