-- The words that several proofs of this crate use, from where they are defined.
pub use Rattle.engine.specs.Jumping.{jump, landing, popped, returning_to, target_at}
pub use Rattle.engine.specs.Programs.{Function, Program, program_of}
pub use Rattle.engine.specs.Reaching.{Allows, beside, reach, Reached}
pub use Rattle.engine.specs.Reading.{IsSmall, Reads}
pub use Rattle.engine.specs.Slots.{IsOn, number, on_by, second, top}
pub use Rattle.engine.specs.Stepping.{between_calls, cost, EndsWith, follow, in_call, led, MachineState, standing, StandsReady, Step, Stops}
pub use Rattle.engine.specs.declared.at.At.{At}
pub use Rattle.engine.specs.declared.at.Flow.{Flow}
pub use Rattle.events.specs.Bare.{whole_ending}
pub use Rattle.events.specs.declared.ended.BareEnding.{BareEnding}
pub use Rattle.events.specs.declared.ended.Ended.{Ended}
pub use Rattle.events.specs.declared.ended.Ending.{Ending}
pub use Rattle.instance.specs.Stops.{Halt, no_frame, stop_of}
pub use Rattle.instance.specs.Store.{MemoryInstance, pages}
pub use Rattle.instance.specs.declared.stack.Caller.{Caller}
pub use Rattle.instance.specs.declared.stack.Last.{Last}
pub use Rattle.instance.specs.declared.stack.Site.{Site}
pub use Rattle.interp.specs.Inner.ArgumentsHeld.{held_values}
pub use Rattle.interp.specs.Inner.Calling.{CallDoes}
pub use Rattle.interp.specs.Inner.Slots.PlainSteps.{DoesAs, HasRoomForOperands, Left, LocalsLie, TrapOf}
pub use Rattle.interp.specs.Inner.Slots.ValuesRead.{ended_on, topmost_values, typed_values}
pub use Rattle.interp.specs.Lent.{ending_with, result_count}
pub use Rattle.interp.specs.Slices.{RunIsPaused, RunStandsAt}
pub use Rattle.interp.specs.Slots.Holding.{AreSmall, erased, Holds, onto}
pub use Rattle.interp.specs.Slots.Hosted.{address_told, ComesFromAny, EndsAt, EndSo, EndsSo, given_up, IsGranted, IsUnderWay, last_of}
pub use Rattle.interp.specs.Slots.Lying.{AllSmall, AreCallers, arity_of, AwaitsAtCall, callers_in, first_local, here, IsFunctionOf, last, Lies, place_of_caller}
pub use Rattle.interp.specs.Slots.Lying.{stacked, StandsForContexts}
pub use Rattle.interp.specs.Slots.Resuming.{before_first, laid}
pub use Rattle.interp.specs.Slots.Simulating.{IsProgramOf, LeadsTo, places_at, Represents}
pub use Rattle.interp.specs.declared.host.Held.{Held}
pub use Rattle.interp.specs.declared.paused.Paused.{Paused}
pub use Rattle.limits.specs.declared.TheConstants.{MAX_DEPTH, MAX_HEIGHT, MAX_SLOTS}
pub use Rattle.numeric.specs.Integer.{signed}
pub use Rattle.numeric.specs.declared.trap.Trap.{Trap}
pub use Rattle.numeric.specs.declared.trap.Trap.TheVariants.{DivideByZero, Overflow}
pub use Rattle.reduction.proofs.Begins.{Begins, begins_with, in_frame}
pub use Rattle.reduction.proofs.CallsAreTyped.{defined_type}
pub use Rattle.reduction.proofs.Contexts.{call-going, call-receiving, locals-receiving}
pub use Rattle.reduction.proofs.Functions.{is_defined}
pub use Rattle.reduction.proofs.HeightsOfRuns.{few_locals_of}
pub use Rattle.reduction.proofs.PlacesCut.{at_plain}
pub use Rattle.reduction.proofs.PlacesKept.{jumped-plain, leads}
pub use Rattle.reduction.proofs.PlacesOfRuns.{enters}
pub use Rattle.reduction.proofs.PlainStepHeights.{Counts, plain_step_counts}
pub use Rattle.reduction.proofs.PlainStepsOver.{plain-turned}
pub use Rattle.reduction.proofs.Stores.{Safe, safe}
pub use Rattle.reduction.proofs.Walked.{as_run}
pub use Rattle.reduction.proofs.Words.{ap, append_assoc, AreBodies, arith, as_operands, AsBlock, AsLoop, BlockKind, Body, Bool, Bounded, Br, BrIf, BrTable}
pub use Rattle.reduction.proofs.Words.{Calls, Code, code_left, Contents, Context, continuing, Done, drop, entered, Fails, false, Frame, Func, FuncType, Goes}
pub use Rattle.reduction.proofs.Words.{going_on, HasFunctionType, height_of, I32, I64, If, if◌then◌else◌, Instr, IsDefined, IsPlaced, IsStoreOf, Label}
pub use Rattle.reduction.proofs.Words.{label_types, Lacks, Leaves, length, length-append, length-map, List, locals_of, map, Move, nat_le, next, None, number_in}
pub use Rattle.reduction.proofs.Words.{opening_bracket, operands_of, Option, Over, Place, Plain, PlainStep, receiving, refl, replicate, reverse, slice_get}
pub use Rattle.reduction.proofs.Words.{slice_get_past, slice_get_within, slice_set, Some, StaysInBlock, Store, Structured, Stuck, subst, suc, sym, take, Target}
pub use Rattle.reduction.proofs.Words.{Token, Traps, true, type_of, type_of_function, types_of, ValidModule, ValType, Value, value_of, with_locals, zero, ℕ, []}
pub use Rattle.reduction.proofs.Words.{◌++◌, ◌+◌, ◌-◌, ◌<◌, ◌==◌, ◌∙◌, ◌∷◌, ◌≡◌, ◌≤◌}
pub use Rattle.reduction.specs.Configuration.{branched, frames}
pub use Rattle.reduction.specs.Heights.{counts, IsWithin}
pub use Rattle.reduction.specs.Invoking.{ReturnsTyped, TakesArguments}
pub use Rattle.reduction.specs.Leading.{calling, Leads, scene}
pub use Rattle.reduction.specs.Places.{call_of, ClosesTo, jumped, LeadsOn, stepped}
pub use Rattle.reduction.specs.Run.{HostCall, IsCharged, OutOfFuel, Returned, RunEnd}
pub use Rattle.reduction.specs.Running.{AreResults, end_of_run}
pub use Rattle.reduction.specs.Step.{call_element, call_typed, giving, label_for, left_with, plain, replaces, turned}
pub use Rattle.reduction.specs.Stopping.{ending_address}
pub use Rattle.reduction.specs.Walks.{Arrival, arriving, stepped_from, Walks}
pub use Rattle.std.proofs.Common.{Err, get_or, inl, inr, length-drop, length-set, length-take, min, Ok, Result, ◌%◌, ◌*◌, ◌^◌, ◌⊎◌}
pub use Rattle.std.proofs.Math.Seq.{drop-append_seam, paste, take-append_seam}
pub use Rattle.std.proofs.lemmas.Bool.{cases_lt}
pub use Rattle.std.proofs.lemmas.Bool.Decides.{nat_tests}
pub use Rattle.std.proofs.lemmas.List.{append-nil, length-replicate, length-take-le, reverse-append, take-append-drop, take_all}
pub use Rattle.std.proofs.lemmas.Nat.{mod_below, pow_pos}
pub use Rattle.std.proofs.lemmas.Option.{get_or_from_slice_get, slice_get-map}
pub use Rattle.std.specs.List.{copy_within}
pub use Rattle.std.specs.Option.{option_map}
pub use Rattle.std.specs.Prelude.{IfSome, is_some, IsSome, slice_index, slice_index_or}
pub use Rattle.syntax.specs.declared.instruction.Instr.TheVariants.{Return}
pub use Rattle.syntax.specs.declared.operator.IntCompare.{IntCompare}
pub use Rattle.syntax.specs.declared.operator.IntUnary.{IntUnary}
pub use Rattle.syntax.specs.declared.operator.MemArg.{MemArg}
pub use Rattle.syntax.specs.declared.types.BlockType.{BlockType}
pub use Rattle.valid.specs.Spread.{KeepsTold, kept_target}
pub use Rattle.valid.specs.Targets.{AreTables, pc_of}
pub use Rattle.valid.specs.declared.side_table.SideTable.{SideTable}
pub use Rattle.valid.specs.declared.side_table.TheConstants.{MAX_TOLD_LABELS}
