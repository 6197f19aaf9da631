-- The words that several proofs of this crate use, from where they are defined.
pub use Rattle.atomic_table.proofs.Lists.{at_last, at_longer}
pub use Rattle.board.specs.Boards.{AreNumbered, GatheringView, IsNewPass}
pub use Rattle.board.specs.Rule.{AllGiven, given_by, given_count, is_name, IsBelow, IsGiven, IsInOrder, IsLive, knows, LineIsKept, maker_of, NamesRise, pass_of}
pub use Rattle.board.specs.Rule.{taken_count, taken_times, TakesItem, times_named, unit_if}
pub use Rattle.board.specs.Views.{HandView, IsIdle, IsWhole, LineView, maker_at, makers_at, MakerView, one_later, with_hand}
pub use Rattle.board.specs.declared.line.LineKnowledge.{LineKnowledge}
pub use Rattle.board.specs.declared.line.Named.{Named}
pub use Rattle.board.specs.declared.line.PassKnowledge.{PassKnowledge}
pub use Rattle.limits.specs.declared.TheConstants.{MAX_REPLIES}
pub use Rattle.order.specs.declared.reply.Reply.{Reply}
pub use Rattle.std.proofs.Common.{add-one, All, ap, arith, Bool, count_by, drop, get_or, length, length-append, length-set, List, map, nat_lt, None, refl, set}
pub use Rattle.std.proofs.Common.{slice_get, Some, subst, suc, sym, take, zero, ℕ, [], ⊎_elim, ◌&&◌, ◌++◌, ◌+◌, ◌<◌, ◌==◌, ◌∙◌, ◌∷◌, ◌≡◌, ◌≢◌, ◌≤◌}
pub use Rattle.std.proofs.lemmas.Bool.{cases_eq}
pub use Rattle.std.proofs.lemmas.Bool.Decides.{nat_tests}
pub use Rattle.std.proofs.lemmas.List.{length-map, map-append}
pub use Rattle.std.proofs.lemmas.List.Elements.{All-head, All-push, All-tail}
pub use Rattle.std.proofs.lemmas.List.Sums.{sum_by_push}
pub use Rattle.std.proofs.lemmas.Option.{same_Some, slice_get_read}
pub use Rattle.tallies.proofs.Lists.{get_or_here, within}
pub use Rattle.tallies.proofs.Places.{set_same}
pub use lib.ListN.{get_elem?}
pub use mathlib.Core.Option.{some, some-injective, some-ne-none}
