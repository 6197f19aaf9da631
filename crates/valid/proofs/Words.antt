-- The words that several proofs of this crate use, from where they are defined.
pub use Rattle.std.proofs.Common.{All, Bool, List, None, Option, Some, [], ap, append-nil, append_assoc, arith, drop, false, get_or, inl, inr, length, map, min, refl, rules, set, slice_get, subst, suc, sym, take, true, zero, ℕ, ◌++◌, ◌+◌, ◌<◌, ◌∙◌, ◌∷◌, ◌≡◌, ◌≤◌, ◌⊎◌}
pub use Rattle.std.proofs.lemmas.List.{drop_all, drop_more, length-map, take_all, take_more}
pub use Rattle.std.proofs.lemmas.List.Elements.{All-push}
pub use Rattle.std.proofs.lemmas.Option.{get_or_from_slice_get, slice_get_within}
pub use Rattle.std.specs.Prelude.{if◌then◌else◌}
pub use Rattle.syntax.specs.Code.{Code, operations}
pub use Rattle.syntax.specs.declared.contents.Contents.{Contents}
pub use Rattle.syntax.specs.declared.contents.FuncType.{FuncType}
pub use Rattle.syntax.specs.declared.instruction.Token.{Token}
pub use Rattle.syntax.specs.declared.types.ValType.{ValType}
pub use Rattle.syntax.specs.declared.types.ValType.TheVariants.{I32, I64}
pub use Rattle.valid.specs.Inner.Packing.{target_of_near, targets_of_branches}
pub use Rattle.valid.specs.Segments.{DataFits}
pub use Rattle.valid.specs.Spread.{SameAtBranches, all_kept, kept_target, landed, target_or_none}
pub use Rattle.valid.specs.Typing.{function_types, type_of_function}
pub use Rattle.valid.specs.declared.side_table.Target.{Target}
