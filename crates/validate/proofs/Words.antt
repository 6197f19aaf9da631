-- The words that several proofs of this crate use, from where they are defined.
pub use Rattle.limits.specs.declared.TheConstants.{MAX_HEIGHT, MAX_NESTING}
pub use Rattle.std.proofs.Common.{All, ap, append-nil, append_assoc, arith, Bool, drop, false, get_or, IfSome, inl, inr, IsSome, length, List, map, max, min}
pub use Rattle.std.proofs.Common.{None, Option, refl, rules, set, slice_get, Some, subst, suc, sym, take, true, zero, ℕ, [], ◌++◌, ◌+◌, ◌-◌, ◌<◌, ◌^◌, ◌∙◌, ◌∷◌}
pub use Rattle.std.proofs.Common.{◌≡◌, ◌≤◌, ◌⊎◌}
pub use Rattle.std.proofs.lemmas.List.{drop_all, drop_at, drop_more, length-append, length-drop, length-map, length-take, length_push, take-append-drop}
pub use Rattle.std.proofs.lemmas.List.{take_all, take_at, take_more}
pub use Rattle.std.proofs.lemmas.List.Elements.{All-push}
pub use Rattle.std.proofs.lemmas.Option.{get_or_from_slice_get, slice_get_read, slice_get_within}
pub use Rattle.std.proofs.lemmas.Result.{err_from_is_err_and}
pub use Rattle.syntax.specs.Code.{AsBlock, AsLoop, BlockKind, Code, Done, If, led_by, opening_bracket, operations, operations_to, Plain, Structured}
pub use Rattle.syntax.specs.declared.contents.Contents.{Contents}
pub use Rattle.syntax.specs.declared.contents.Data.{Data}
pub use Rattle.syntax.specs.declared.contents.Element.{Element}
pub use Rattle.syntax.specs.declared.contents.Func.{Func}
pub use Rattle.syntax.specs.declared.contents.FuncType.{FuncType}
pub use Rattle.syntax.specs.declared.contents.Import.{Import}
pub use Rattle.syntax.specs.declared.instruction.Instr.{Instr}
pub use Rattle.syntax.specs.declared.instruction.Instr.TheVariants.{Br, BrIf, BrTable, Call, Const, GlobalGet, GlobalSet, Load, LoadNarrow, LocalGet, LocalSet}
pub use Rattle.syntax.specs.declared.instruction.Instr.TheVariants.{LocalTee, MemoryGrow, MemorySize, Store, StoreNarrow}
pub use Rattle.syntax.specs.declared.instruction.Token.{Token}
pub use Rattle.syntax.specs.declared.types.BlockType.{BlockType}
pub use Rattle.syntax.specs.declared.types.ValType.{ValType}
pub use Rattle.syntax.specs.declared.types.ValType.TheVariants.{I32, I64}
pub use Rattle.valid.specs.Height.{after_effect, effect_of, greatest_height, nesting, shape_of, type_or_none}
pub use Rattle.validate.specs.Inner.Brackets.{IsNoted, open_around, pcs_of, SameFrom}
pub use Rattle.validate.specs.Inner.Checking.{Checks, context_at, context_in, extent_at, extent_of, height_in_all, innermost_type, StaysInside}
pub use Rattle.validate.specs.Inner.Frames.{label_of}
pub use Rattle.validate.specs.Inner.Operands.{Exchanges, Fits, FitsList, Held, held_around, held_of, Matches, Takes, with_left}
pub use Rattle.valid.specs.Spread.{all_kept, SameAtBranches}
pub use Rattle.validate.specs.Inner.Rejecting.{BeginsBlock, Obeys, Rejects}
pub use Rattle.validate.specs.Inner.Steps.{AreStacked, Begins, body_frame, IsBegun, LeavesBlock, Steps, TurnsToElse}
pub use Rattle.validate.specs.Inner.Writing.{after_instr, after_op, leads_to, target, with_chosen, with_entry, WrittenTable}
pub use Rattle.validate.specs.Refusals.{DataNames, ElementNames, HasFew, IsLow, IsNamed, IsShallow, IsTyped, KeptIn, Refutes, RefutesFunc}
pub use Rattle.validate.specs.Rules.{Alignments, Indexes, KeepsType, Kept, Labels, Mutabilities, NamesLabels, Rule}
pub use Rattle.valid.specs.Spread.{landed}
pub use Rattle.valid.specs.Stack.{pushed}
pub use Rattle.valid.specs.Targets.{Agrees, size, TableView, Tells, TellsSizes}
pub use Rattle.valid.specs.Typing.{Context, function_types, inside, InstrTyped, label_types, type_of, type_of_block, type_of_function, Typed}
pub use Rattle.valid.specs.Valid.{body_context, DistinctNames, IsConstant, NamesExtern, ValidData, ValidElement, ValidFunc, ValidImport, ValidModule}
pub use Rattle.validate.specs.declared.checker.Checker.{Checker}
pub use Rattle.validate.specs.declared.fault.BodyFault.{BodyFault}
pub use Rattle.validate.specs.declared.fault.ValidFault.{ValidFault}
pub use Rattle.validate.specs.declared.frames.ControlFrame.{ControlFrame}
pub use Rattle.validate.specs.declared.operands.Enclosing.{Enclosing}
pub use Rattle.validate.specs.declared.operands.Operand.{Operand}
pub use Rattle.validate.specs.declared.operands.Operand.TheVariants.{Known}
pub use Rattle.validate.specs.declared.scope.Extent.{Extent}
pub use Rattle.validate.specs.declared.scope.Scope.{Scope}
pub use Rattle.valid.specs.declared.side_table.Target.{Target}
