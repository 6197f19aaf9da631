-- The words that several proofs of this crate use, from where they are defined.
pub use Rattle.indexmap.specs.IndexMap.{get_by}
pub use Rattle.std.proofs.Common.{ap, arith, Bool, cond, drop, false, get_or, IfSome, inl, inr, is_some, length, length-append, List, map, min, nat_eq, None}
pub use Rattle.std.proofs.Common.{Option, refl, rules, Some, subst, suc, sym, true, zero, ℕ, [], ◌++◌, ◌+◌, ◌-◌, ◌<◌, ◌∙◌, ◌∷◌, ◌≡◌, ◌≤◌, ◌⊎◌}
pub use Rattle.std.proofs.lemmas.Bool.{cases_lt}
pub use Rattle.std.proofs.lemmas.Int.{ints}
pub use Rattle.std.proofs.lemmas.List.{length-map, take-map}
pub use Rattle.std.proofs.lemmas.Option.{slice_get_read}
pub use Rattle.std.specs.Cmp.Lexicographic.{pointwise}
pub use Rattle.std.specs.Prelude.{option_to_list, slice_get, take}
pub use Rattle.syntax.specs.Branching.{branch_number, branches, branches_in, CarriesNumber, LabelsThere, Numbered}
pub use Rattle.syntax.specs.Code.{AsBlock, AsLoop, BlockKind, Code, code_of, Done, If, opening_bracket, operations, operations_to, Plain, Structured}
pub use Rattle.syntax.specs.Inner.Beside.{stand_in, with_branch_number}
pub use Rattle.syntax.specs.Inner.See.{AreFirst, telling, untold}
pub use Rattle.syntax.specs.Inner.Tokens.{open_after, token}
pub use Rattle.syntax.specs.Instructions.{block_type, expr, immediates, opcode, plain, sequence, spelled_residue, structured_opcode, type_index}
pub use Rattle.syntax.specs.Language.{byte, exactly, IsPrefixFree, items, Language, Leaves, only_if, u32, vec, ◌∣◌, ◌⨾◌}
pub use Rattle.syntax.specs.Notes.{kind_at, TellsNext}
pub use Rattle.syntax.specs.Operations.{accessing, long_index, long_instr, operation_in, operations_in}
pub use Rattle.syntax.specs.Rows.{row_of, TellsRows}
pub use Rattle.syntax.specs.declared.contents.ExternKind.{ExternKind}
pub use Rattle.syntax.specs.declared.contents.ModuleExport.{ModuleExport}
pub use Rattle.syntax.specs.declared.contents.Mutability.{Mutability}
pub use Rattle.syntax.specs.declared.instruction.Instr.{Instr}
pub use Rattle.syntax.specs.declared.instruction.Instr.TheVariants.{Const}
pub use Rattle.syntax.specs.declared.instruction.Token.{Token}
pub use Rattle.syntax.specs.declared.long.Long.{Long}
pub use Rattle.syntax.specs.declared.notes.OpKind.{OpKind}
pub use Rattle.syntax.specs.declared.op.Op.{Op}
pub use Rattle.syntax.specs.declared.operator.MemArg.{MemArg}
pub use Rattle.syntax.specs.declared.types.BlockType.{BlockType}
pub use Rattle.syntax.specs.declared.types.ValType.{ValType}
pub use Rattle.syntax.specs.declared.types.ValType.TheVariants.{I32, I64}
pub use Rattle.syntax.specs.declared.types.Value.{Value}
