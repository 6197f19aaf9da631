-- The handles of a loop, and what the calls return that create, start, stop or close one.
use Rattle.std.specs.Prelude.{◌≡◌, ℕ, ◌^◌, ◌<◌, ◌==◌, Bool, true, false, ◌&&◌, not, MatchBool, List, [], ◌∷◌, ◌++◌, length, map}
use Rattle.std.specs.Prelude.{filter, Option, Some, None, slice_get, if◌then◌else◌}
use Rattle.std.specs.Option.{option_map_or, is_some}
use Rattle.std.specs.List.{position_or_len}
use Rattle.std.specs.FinMap as finite
use Rattle.limits.specs.declared.TheConstants.{MAX_HANDLES, MAX_ASYNCS}
use Rattle.syntax.specs.declared.types.ValType.{ValType}
use Rattle.syntax.specs.declared.types.ValType.TheVariants as type
use Rattle.syntax.specs.declared.contents.Contents.{Contents}
use Rattle.valid.specs.Typing.{type_of_function}
use Rattle.instance.specs.Fresh.{fresh_store}
use Rattle.handles.specs.declared.handle.Kind.{Kind}
use Rattle.handles.specs.declared.handle.Kind.TheVariants as kind
use Rattle.handles.specs.Table.{Table, empty_table, record_of, new_record, with_record, same_kind, was_started, after_start}
use Rattle.handles.specs.Table.{after_stop, after_again, after_close, after_remove}
use Rattle.order.specs.declared.uv.answers.TheConstants.{NO_ROOM, INVALID, NONE_LEFT}

-- The handles by their numbers; for each async made, in order, its handle, until that is removed; the closing
-- handles in the order of their closing; and the functions that callbacks name.
pub record Roster : Type 0 where
  pub handles : Table
  pub asyncs : List (Option ℕ)
  pub closing : List ℕ
  pub callbacks : List (Option ℕ)

-- A callback is an index of the instance's table, of a function that takes one i32 and gives nothing. No instruction
-- changes the table.
abbrev pub takes_one_number : (params results : List ValType) → Bool
takes_one_number (type.I32 ∷ []) [] = true
takes_one_number _ _ = false

abbrev pub callback_in : Contents → Option ℕ → Option ℕ
callback_in m None = None
callback_in m (Some f) = if option_map_or (λ t. takes_one_number t.params t.results) (type_of_function m f) false then Some f else None

abbrev pub callbacks_of : Contents → List (Option ℕ)
callbacks_of m = map (callback_in m) (fresh_store m).table

abbrev pub opening_roster : Contents → Roster
opening_roster m = record { handles = empty_table; asyncs = []; closing = []; callbacks = callbacks_of m }

-- the function with an index of the table, where there is one
abbrev pub in_table : Option (Option ℕ) → Option ℕ
in_table None = None
in_table (Some element) = element

abbrev pub callback_function : List (Option ℕ) → ℕ → Option ℕ
callback_function callbacks index = in_table (slice_get callbacks index)

abbrev pub is_callback : Roster → ℕ → Bool
is_callback r index = is_some (callback_function r.callbacks index)

-- the handle is there and not closing; and is of this kind
abbrev pub is_open : Roster → ℕ → Bool
is_open r handle = option_map_or (λ it. not it.closing) (record_of r.handles handle) false

abbrev pub is_open_of : Kind → Roster → ℕ → Bool
is_open_of k r handle = option_map_or (λ it. same_kind it.kind k && not it.closing) (record_of r.handles handle) false

abbrev pub is_handle : ℕ → Option ℕ → Bool
is_handle handle None = false
is_handle handle (Some other) = other == handle

-- the number of the async that has this handle
abbrev pub async_number : Roster → ℕ → ℕ
async_number r handle = position_or_len (is_handle handle) r.asyncs

-- the handle of an async, until that is removed
abbrev pub async_handle : Roster → ℕ → Option ℕ
async_handle r async_no = in_table (slice_get r.asyncs async_no)

abbrev pub with_handles : Roster → Table → Roster
with_handles r t = record r { handles = t }

abbrev pub with_made : Kind → Roster → ℕ → Roster
with_made k r handle = with_handles r (with_record r.handles handle (new_record k))

-- the handles with an async more, under a handle that is made active
abbrev pub with_async : (callback : ℕ) → Roster → (handle : ℕ) → Roster
with_async callback r handle = record r {
  handles = after_start (with_record r.handles handle (new_record kind.Async)) handle callback 0 0;
  asyncs = r.asyncs ++ Some handle ∷ [];
}

-- the handles without a closing one, whose number is then free
abbrev pub unless_handle : ℕ → Option ℕ → Option ℕ
unless_handle handle other = if is_handle handle other then None else other

abbrev pub without_handle : Roster → ℕ → Roster
without_handle r handle = record r {
  handles = after_remove r.handles handle;
  closing = filter (λ other. not (other == handle)) r.closing;
  asyncs = map (unless_handle handle) r.asyncs;
}

-- Where an answer is determined it stands with the handles after the call. The first line that applies decides.

abbrev pub stopped_in : Kind → (handle : ℕ) → Roster → ℕ × Roster
stopped_in k handle r =
    if not (is_open_of k r handle) then (INVALID, r)
    else (0, with_handles r (after_stop r.handles handle))

abbrev pub started_in : Kind → (handle callback due repeat : ℕ) → Roster → ℕ × Roster
started_in k handle callback due repeat r =
    if not (is_open_of k r handle) then (INVALID, r)
    else (if not (is_callback r callback) then (INVALID, r)
    else (0, with_handles r (after_start r.handles handle callback due repeat)))

abbrev pub again_in : (handle now : ℕ) → Roster → ℕ × Roster
again_in handle now r =
    if not (is_open_of kind.Timer r handle) then (INVALID, r)
    else (if not (was_started r.handles handle) then (INVALID, r)
    else (0, with_handles r (after_again r.handles handle now)))

abbrev pub closed_in : (handle callback : ℕ) → Roster → ℕ × Roster
closed_in handle callback r =
    if not (is_open r handle) then (INVALID, r)
    else (if not (is_callback r callback) then (INVALID, r)
    else (0, record r { handles = after_close r.handles handle callback; closing = r.closing ++ handle ∷ [] }))

-- 1 for an active handle, 0 for another
abbrev pub active_answer : Roster → (handle : ℕ) → ℕ
active_answer r handle = option_map_or (λ it. if it.active then 1 else 0) (record_of r.handles handle) INVALID

-- a handle is made under any free number, which is answered
abbrev pub Makes : (Roster → ℕ → Roster) → (old : Roster) → (answer : ℕ) → (new : Roster) → Type 0
Makes made old answer new =
    MatchBool (finite.len old.handles.records == MAX_HANDLES)
    ((answer ≡ NO_ROOM) × (new ≡ old))
    ((answer < 2 ^ 31) × (record_of old.handles answer ≡ None) × (new ≡ made old answer))

abbrev pub MakesAsync : (callback : ℕ) → (old : Roster) → (answer : ℕ) → (new : Roster) → Type 0
MakesAsync callback old answer new =
    MatchBool (not (is_callback old callback))
    ((answer ≡ INVALID) × (new ≡ old))
    (MatchBool (length old.asyncs == MAX_ASYNCS)
    ((answer ≡ NONE_LEFT) × (new ≡ old))
    (Makes (with_async callback) old answer new))
