-- The words that several proofs of this crate use, from where they are defined.
pub use Rattle.events.specs.declared.ended.Ended.{Ended}
pub use Rattle.instance.specs.Stops.{Halt, stop_of}
pub use Rattle.instance.specs.Store.{memory_of, Store}
pub use Rattle.instance.specs.declared.stack.Caller.{Caller}
pub use Rattle.interp.specs.declared.paused.Paused.{Paused}
pub use Rattle.reduction.specs.Hosting.{Lawful, Names}
pub use Rattle.reduction.specs.Run.{HostCall}
pub use Rattle.resident.specs.Calls.{CallsInstance, ExportsNoFunction, KeptInstance}
pub use Rattle.resident.specs.Inner.Going.{call_underway, inside_call}
pub use Rattle.resident.specs.NoHost.{AnswersMinusOne}
pub use Rattle.resident.specs.Underway.{CallUnderway, IsSomeCall}
pub use Rattle.resident.specs.declared.kept.CallPlace.{CallPlace}
pub use Rattle.resident.specs.declared.kept.CallPlace.TheVariants.{Import, Inside}
pub use Rattle.std.proofs.Common.{ap, arith, List, None, Option, refl, Some, subst, sym, ℕ, ◌∙◌, ◌≡◌, ◌≤◌}
pub use Rattle.std.specs.Arc.{arc_value}
pub use Rattle.std.specs.Prelude.{IfSome, slice_get}
pub use Rattle.syntax.specs.declared.contents.Contents.{Contents}
pub use Rattle.syntax.specs.declared.contents.FuncType.{FuncType}
pub use Rattle.syntax.specs.declared.types.Value.{Value}
pub use Rattle.valid.specs.Typing.{HasFunctionType, type_of_function}
pub use Rattle.valid.specs.declared.side_table.SideTable.{SideTable}
