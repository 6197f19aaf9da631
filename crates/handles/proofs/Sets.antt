-- The lists of all kinds, and the parts of a room that they are made of.
use Rattle.handles.proofs.Words.{ActiveLists, arith, Async, Check, cond, count, false, how_many_listed, Idle, Kind, len, List, list, ListPlace, lists_of, None}
use Rattle.handles.proofs.Words.{Option, part, Parts, PartsRise, place_cmp, PlaceSet, refl, set_of_sorted, Some, Timer, true, with, with_list, with_part, ℕ}
use Rattle.handles.proofs.Words.{◌+◌, ◌≡◌, ◌≢◌, ◌≤◌}
use Rattle.std.specs.FinMap as set
use Rattle.handles.specs.Place.{PlacesRise}
use Rattle.handles.proofs.Places.{places_total}
use Rattle.handles.proofs.RisingLists.{HasGap, len_of, len_with_new}

-- the list of a kind is that of its part
pub list_of_part : (kind : Kind) (p : Parts) → kind ≢ Async → list kind (lists_of p) ≡ set_of_sorted (part kind p)
list_of_part Async p listed = absurd (listed refl)
list_of_part _ p listed = refl

pub part_rises : (kind : Kind) (p : Parts) → PartsRise p → PlacesRise (part kind p)
part_rises Timer p rise = rise.0
part_rises Idle p rise = rise.1
part_rises Check p rise = rise.2
part_rises Async p rise = refl

pub parts_rise : (kind : Kind) (p : Parts) (places : List ListPlace) → PartsRise p → PlacesRise places → PartsRise (with_part kind places p)
parts_rise Timer p places rise new = (new, rise.1, rise.2)
parts_rise Idle p places rise new = (rise.0, new, rise.2)
parts_rise Check p places rise new = (rise.0, rise.1, new)
parts_rise Async p places rise new = rise

pub lists_of-with_part : (kind : Kind) (p : Parts) (places : List ListPlace) → lists_of (with_part kind places p) ≡ with_list kind (set_of_sorted places) (lists_of p)
lists_of-with_part Timer p places = refl
lists_of-with_part _ p places = refl

pub with_own_list : (kind : Kind) (l : ActiveLists) → with_list kind (list kind l) l ≡ l
with_own_list Timer l = refl
with_own_list _ l = refl

-- a place that comes in is one more
pub one_more : (kind : Kind) (p : Parts) (place : ListPlace) (at : ℕ) → kind ≢ Async → PartsRise p → HasGap place_cmp (part kind p) place at
    → how_many_listed (with_list kind (set.insert (list kind (lists_of p)) place tt) (lists_of p)) ≡ count p + 1
one_more Timer p place at listed rise gap = omega (arith, len_with_new places_total p.timers at place rise.0 gap, len_of places_total p.idle rise.1, len_of places_total p.check rise.2)
one_more Idle p place at listed rise gap = omega (arith, len_with_new places_total p.idle at place rise.1 gap, len_of places_total p.timers rise.0, len_of places_total p.check rise.2)
one_more Check p place at listed rise gap = omega (arith, len_with_new places_total p.check at place rise.2 gap, len_of places_total p.timers rise.0, len_of places_total p.idle rise.1)
one_more Async p place at listed rise gap = absurd (listed refl)

not_fewer : (there : _) (n : ℕ) → n ≤ cond there n (n + 1)
not_fewer true n = omega arith
not_fewer false n = omega arith

-- a list with one place more is no shorter
pub no_shorter : (o : Option ListPlace) (places : PlaceSet) → len places ≤ len (with o places)
no_shorter None places = omega arith
no_shorter (Some place) places = rw (set.len-insert places_total places place tt) (not_fewer (set.contains_key places place) (len places))
