-- The words that several proofs of this crate use, from where they are defined.
pub use Rattle.places.specs.Lengths.{immediates_of, integer, operation}
pub use Rattle.places.specs.Spans.{BodyAt, FirstSectionAt, StandsBetween}
pub use Rattle.places.specs.Told.{IsLinking}
pub use Rattle.places.specs.Walks.{FirstOf, FirstSection, IsTheOne, LeavesNone, NoneBegins, repeated}
pub use Rattle.std.proofs.Common.{arith, drop, get_or, length, List, None, refl, rules, sym, zero, ℕ, [], ◌++◌, ◌+◌, ◌∷◌, ◌≡◌, ◌≤◌}
pub use Rattle.std.proofs.lemmas.Bool.{ltb_from_iff}
pub use Rattle.std.proofs.lemmas.List.{drop_all, drop_more, length-append, length-drop}
pub use Rattle.std.proofs.lemmas.List.Elements.{All-push}
pub use Rattle.std.proofs.lemmas.Option.{get_or_from_slice_get, slice_get-get_or, slice_get_read, slice_get_within}
pub use Rattle.std.specs.Prelude.{IsTrue, slice_range, suc}
pub use Rattle.syntax.proofs.Joins.{Apart, apart, free_byte, free_counted, free_pair, free_u32, items_none, joined, no_items}
pub use Rattle.syntax.proofs.ModuleLaws.{free_section}
pub use Rattle.syntax.specs.Binary.{Section, section}
pub use Rattle.syntax.specs.Language.{byte, counted, IsPrefixFree, items, Language, Leaves, u32, ◌⨾◌}
