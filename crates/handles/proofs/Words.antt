-- The words that several proofs of this crate use, from where they are defined.
pub use Rattle.handles.specs.Inner.Lists.{ActiveLists, how_many_listed, list, lists_of, PartsRise, with_list}
pub use Rattle.handles.specs.Inner.Parts.{count, part, Parts, parts_of, with_part}
pub use Rattle.handles.specs.Place.{members, place_cmp, PlaceSet, relisted, set_of_sorted, with}
pub use Rattle.handles.specs.Table.{in_order, IsInactiveOnceClosing, listed, place_in, place_of, record_of, Table}
pub use Rattle.handles.specs.declared.handle.Kind.{Kind}
pub use Rattle.handles.specs.declared.handle.Kind.TheVariants.{Async, Check, Idle, Timer}
pub use Rattle.handles.specs.declared.handle.Record.{Record}
pub use Rattle.handles.specs.declared.sorted.ListPlace.{ListPlace}
pub use Rattle.limits.specs.declared.TheConstants.{MAX_HANDLES}
pub use Rattle.slab.specs.Slab.{Slab, slab_len, Updates}
pub use Rattle.std.proofs.Common.{ap, arith, cond, eqb, false, get_or, inl, inr, is_some, IsSome, length, List, None, Option, refl, rules, Some, subst, suc}
pub use Rattle.std.proofs.Common.{sym, true, zero, zero-add, ℕ, [], ◌+◌, ◌-◌, ◌<◌, ◌∙◌, ◌∷◌, ◌≡◌, ◌≢◌, ◌≤◌}
pub use Rattle.std.proofs.lemmas.Bool.{cases_eq, cases_lt, lt-ltb, true≢false}
pub use Rattle.std.specs.Cmp.{Equal-is, nat_cmp_total, tied_itself, unsigned_tied}
pub use Rattle.std.specs.FinMap.{entries, entries_sorted, FinMap, from_sorted, get, IsAntisymmetric, keys, len}
pub use Rattle.std.specs.FinMap.Entries.{below_all, find, is_sorted}
pub use Rattle.std.specs.List.{insert, remove}
pub use Rattle.std.specs.List.Sorted.{IsNonDecreasingBy, IsPartitionPoint}
pub use Rattle.std.specs.Option.{option_and_then}
pub use Rattle.std.specs.Ordering.{eq_by_cmp, is_eq, is_lt, nat_cmp, ordering_index}
pub use Rattle.std.specs.declared.cmp.Ordering.{Ordering}
pub use Rattle.std.specs.declared.cmp.Ordering.TheVariants.{Equal, Greater, Less}
