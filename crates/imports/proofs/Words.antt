-- The words that several proofs of this crate use, from where they are defined.
pub use Rattle.imports.specs.Linking.{AreCalls, HasWrongImport, IsCallable, IsKnown}
pub use Rattle.imports.specs.Uv.{name_of_call, name_of_entry}
pub use Rattle.imports.specs.declared.call.Call.{Call}
pub use Rattle.imports.specs.declared.call.Call.TheVariants.{Now}
pub use Rattle.imports.specs.declared.entry_point.EntryPoint.{EntryPoint}
pub use Rattle.std.proofs.Common.{All, arith, false, get_or, length, refl, rules, Some, subst, sym, take, true, ℕ, ◌<◌, ◌∙◌, ◌≡◌, ◌≢◌}
pub use Rattle.std.proofs.lemmas.List.{take_all}
pub use Rattle.std.proofs.lemmas.List.Elements.{All-more}
pub use Rattle.std.proofs.lemmas.Option.{slice_get_read}
pub use Rattle.std.proofs.lemmas.Result.{err_from_is_err_and}
pub use Rattle.std.proofs.lemmas.Slice.Eq.{bytes_eq-Decides}
pub use Rattle.std.specs.Prelude.{slice_get}
pub use Rattle.syntax.specs.declared.contents.Contents.{Contents}
pub use Rattle.syntax.specs.declared.contents.ModuleExport.{ModuleExport}
