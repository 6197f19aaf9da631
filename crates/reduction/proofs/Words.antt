-- The words that several proofs of this crate use, from where they are defined.
pub use Rattle.instance.specs.Stops.{Halt}
pub use Rattle.instance.specs.Store.{Store, value_of, with_memory}
pub use Rattle.instance.specs.Storing.{HaveGlobalTypes, IsStoreOf}
pub use Rattle.limits.specs.declared.TheConstants.{MAX_HEIGHT, MAX_LOCALS}
pub use Rattle.reduction.specs.Configuration.{branched, Context, continuing, entered, Frame, frames, going_on, Label, locals_of, receiving, returned, types_of}
pub use Rattle.reduction.specs.Configuration.{with_locals}
pub use Rattle.reduction.specs.Heights.{Beneath, beneath_call, Counted, counts, FitsHeights, Follows, GoesOn, height_of, IsWithin, labels_of}
pub use Rattle.reduction.specs.HeightsOfRuns.{Arrives, asks, calls, goes, here, IsReached}
pub use Rattle.reduction.specs.HeightsTyped.{AwaitsWithin, Bounded, SoundWithin}
pub use Rattle.reduction.specs.Hosting.{IsDetermined, Lawful}
pub use Rattle.reduction.specs.Inner.Plainly.{StaysInBlock}
pub use Rattle.reduction.specs.Invoking.{defined, imported, Invokes}
pub use Rattle.reduction.specs.Operators.{Computed, Number, TrapOf}
pub use Rattle.reduction.specs.Places.{AreBodies, Body, call_of, ClosesTo, Guided, IsPlaced, jumped, keeps, Over, Place, stepped}
pub use Rattle.reduction.specs.Run.{as_operands, HostCall, IsCharged, IsDefined, IsImported, OutOfFuel, Returned, Run, RunEnd, TooDeep, Trapped}
pub use Rattle.reduction.specs.Step.{at_code, Calls, chosen, computed, Ends, Fails, giving, Goes, is_of, label_for, Lacks, Leaves, left_with, loaded, Move}
pub use Rattle.reduction.specs.Step.{next, on_contexts, plain, plain_step, PlainStep, replaces, stored, Stuck, Traps, turned}
pub use Rattle.reduction.specs.Stopping.{behind_first, behind_instruction, branched_to, Called, Inside, marks_entered, moved, returned_to}
pub use Rattle.reduction.specs.Typed.{code_left, operands_of}
pub use Rattle.std.proofs.Common.{ap, arith, Bool, drop, false, length, length-append, length-drop, List, map, max, min, nat_le, None, Option, refl, replicate}
pub use Rattle.std.proofs.Common.{reverse, Some, subst, suc, sym, take, true, zero, ℕ, [], ◌&&◌, ◌*◌, ◌++◌, ◌+◌, ◌-◌, ◌<◌, ◌==◌, ◌∙◌, ◌∷◌, ◌≡◌, ◌≤◌}
pub use Rattle.std.proofs.lemmas.Bool.{and_parts}
pub use Rattle.std.proofs.lemmas.List.{append_assoc, length-map, length-take-le}
pub use Rattle.std.proofs.lemmas.Option.{get_or_from_slice_get, slice_get-map, slice_get_past, slice_get_within}
pub use Rattle.std.specs.Option.{option_map}
pub use Rattle.std.specs.Prelude.{All, if◌then◌else◌, is_some, slice_get, slice_set}
pub use Rattle.syntax.specs.Code.{AsBlock, AsLoop, BlockKind, Code, Done, If, led_by, opening_bracket, operations, operations_to, Plain, Structured}
pub use Rattle.syntax.specs.declared.contents.Contents.{Contents}
pub use Rattle.syntax.specs.declared.contents.Func.{Func}
pub use Rattle.syntax.specs.declared.contents.FuncType.{FuncType}
pub use Rattle.syntax.specs.declared.contents.Import.{Import}
pub use Rattle.syntax.specs.declared.instruction.Instr.{Instr}
pub use Rattle.syntax.specs.declared.instruction.Instr.TheVariants.{Br, BrIf, BrTable, Call, CallIndirect, LocalGet, LocalSet, LocalTee, MemoryGrow, MemorySize}
pub use Rattle.syntax.specs.declared.instruction.Instr.TheVariants.{Return, Select, StoreNarrow, Unary, Unreachable}
pub use Rattle.syntax.specs.declared.instruction.Token.{Token}
pub use Rattle.syntax.specs.declared.operator.Conversion.{Conversion}
pub use Rattle.syntax.specs.declared.operator.Conversion.TheVariants.{I32WrapI64, I64ExtendI32S, I64ExtendI32U}
pub use Rattle.syntax.specs.declared.operator.Extension.{Extension}
pub use Rattle.syntax.specs.declared.operator.Extension.TheVariants.{Unsigned}
pub use Rattle.syntax.specs.declared.types.BlockType.{BlockType}
pub use Rattle.syntax.specs.declared.types.ValType.{ValType}
pub use Rattle.syntax.specs.declared.types.Value.{Value}
pub use Rattle.syntax.specs.declared.types.Value.TheVariants.{I32, I64}
pub use Rattle.validate.proofs.Tables.{length-operations}
pub use Rattle.valid.specs.SameTypes.{same_type, same_valtypes}
pub use Rattle.valid.specs.Segments.{number_in}
pub use Rattle.valid.specs.Stack.{pushed}
pub use Rattle.valid.specs.Targets.{Agrees, pc_of, size, Tells}
pub use Rattle.valid.specs.Typing.{bytes_of_type, bytes_of_width, function_types, HasFunctionType, inside, label_types, type_of, type_of_function, Typed}
pub use Rattle.valid.specs.Valid.{body_context, ValidFunc, ValidModule}
pub use Rattle.valid.specs.declared.side_table.Target.{Target}
