-- The words that several proofs of this crate use, from where they are defined.
pub use Rattle.decode.specs.Inner.Assembly.{entry_of, index_of, NoStart}
pub use Rattle.decode.specs.Inner.Locals.{as_pair, held}
pub use Rattle.decode.specs.Inner.Reading.{NoneIs, NoneLeaves, ReadsText, Refuses, StopsInside}
pub use Rattle.decode.specs.Inner.Sections.{all_seen, first_section, following, Gathers, IdFollows, seen, TellBehind}
pub use Rattle.decode.specs.declared.stop.ReadingStop.{ReadingStop}
pub use Rattle.limits.specs.declared.TheConstants.{MAX_LABELS, MAX_LOCALS, MAX_MODULE_BYTES}
pub use Rattle.std.proofs.Common.{ap, append-nil, append_assoc, arith, Bool, drop, Err, false, IfSome, if◌then◌else◌, inl, inr, length, length-append, List}
pub use Rattle.std.proofs.Common.{map, nat_eq, None, Ok, Option, pos, refl, Result, Some, subst, sym, take, true, ℕ, ℤ, [], ◌*◌, ◌++◌, ◌+◌, ◌-◌, ◌<◌, ◌^◌, ◌∙◌}
pub use Rattle.std.proofs.Common.{◌∷◌, ◌≡◌, ◌≤◌, ◌⊎◌}
pub use Rattle.std.proofs.lemmas.Bool.Decides.{nat_tests}
pub use Rattle.std.proofs.lemmas.List.{length-drop, take_all}
pub use Rattle.std.specs.Borrow.{Bor}
pub use Rattle.std.specs.Prelude.{option_map, option_to_list, reverse, unwrap_or, ◌≢◌}
pub use Rattle.std.specs.Result.{IsErrAnd}
pub use Rattle.syntax.proofs.ExprLaws.{free_expr, free_token}
pub use Rattle.syntax.proofs.Joins.{apart, first_byte, free_byte, free_counted, free_u32, free_vec_upto, items_few, items_none, joined, leaves_only_if}
pub use Rattle.syntax.proofs.Joins.{leaves_sized, no_items, only_if_leaves, shorter, whole, whole_text}
pub use Rattle.syntax.proofs.ModuleLaws.{free_group, free_section, leaves_locals}
pub use Rattle.syntax.proofs.TypeLaws.{flagged, free_limits, free_val_type}
pub use Rattle.syntax.specs.Binary.{body, contents_of, Locals, memory_type, Section, section, section_of, start, table_type}
pub use Rattle.syntax.specs.Code.{Code}
pub use Rattle.syntax.specs.Instructions.{expr, spelled_residue}
pub use Rattle.syntax.specs.Language.{byte, counted, exactly, IsPrefixFree, items, Language, Leaves, u32, vec, vec_upto, ◌⨾◌}
pub use Rattle.syntax.specs.declared.contents.Contents.{Contents}
pub use Rattle.syntax.specs.declared.instruction.Token.{Token}
pub use Rattle.syntax.specs.declared.types.Limits.{Limits}
pub use Rattle.syntax.specs.declared.types.ValType.{ValType}
