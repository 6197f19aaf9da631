-- The list of each phase, and what keeps a loop alive.
use Rattle.std.specs.Prelude.{◌≡◌, ◌≢◌, ◌⊎◌, ℕ, ◌+◌, ◌-◌, ◌<◌, ◌≤◌, ◌==◌, Bool, true, false, ◌||◌, not, List, [], ◌∷◌, ◌++◌}
use Rattle.std.specs.Prelude.{length, map, nat_le, Option, Some, None, codes, bytes_eq, if◌then◌else◌}
use Rattle.std.specs.Option.{option_map_or, is_some}
use Rattle.std.specs.List.{list_any}
use Rattle.syntax.specs.declared.contents.Contents.{Contents}
use Rattle.handles.specs.declared.handle.Kind.{Kind}
use Rattle.handles.specs.declared.handle.Kind.TheVariants as kind
use Rattle.handles.specs.declared.handle.Record.{Record}
use Rattle.handles.specs.Table.{Table, record_of, due_list, kind_list, nearest_due}
use Rattle.events.specs.declared.phase.Phase.{Phase}
use Rattle.events.specs.declared.phase.Phase.TheVariants.{Begin, Timers, Idle, Poll, Check, Closing}
use Rattle.phases.specs.declared.entry.Entry.{Entry}
use Rattle.phases.specs.declared.entry.Entry.TheVariants as entry
use Rattle.events.specs.declared.did.Hint.{Hint}
use Rattle.events.specs.declared.did.Hint.TheVariants.{Now, For, Forever}
use Rattle.phases.specs.Roster.{Roster}
use Rattle.phases.specs.Requests.{settled}
use Rattle.phases.specs.State.{State}

abbrev pub exports : Contents → List ℕ → Bool
exports m name = list_any (λ e. bytes_eq e.name name) m.exports

-- Begin: the start function, then `uv_main`, each where present.
abbrev pub first_list : (start main : Bool) → List Entry
first_list start main = (if start then entry.Start ∷ [] else []) ++ (if main then entry.Main ∷ [] else [])

abbrev pub begin_list : Contents → List Entry
begin_list m = first_list (is_some m.start) (exports m (codes "uv_main"))

-- the entry of an active handle of a kind, with its start number
abbrev pub handle_entry : Kind → ℕ × ℕ → Entry
handle_entry kind.Timer e = entry.Timer e.0 e.1
handle_entry kind.Idle e = entry.Idle e.0 e.1
handle_entry kind.Check e = entry.Check e.0 e.1
handle_entry kind.Async e = entry.Async e.0

-- Timers: the active timers that are due by now, by due moment, start number and handle.
abbrev pub timers_list : State → List Entry
timers_list s = map (handle_entry kind.Timer) (due_list s.roster.handles s.now)

-- Idle and check: the active handles by start number and handle.
abbrev pub idle_list : State → List Entry
idle_list s = map (handle_entry kind.Idle) (kind_list kind.Idle s.roster.handles)

abbrev pub check_list : State → List Entry
check_list s = map (handle_entry kind.Check) (kind_list kind.Check s.roster.handles)

-- Poll: the answered or cancelled requests by number, then the active asyncs by number.

-- the async's handle is there and active
abbrev pub is_active_handle : Table → Option ℕ → Bool
is_active_handle t None = false
is_active_handle t (Some handle) = option_map_or (λ r. r.active) (record_of t handle) false

abbrev pub active_from : Table → (number : ℕ) → List (Option ℕ) → List ℕ
active_from t number [] = []
active_from t number (handle ∷ handles) =
    (if is_active_handle t handle then number ∷ [] else []) ++ active_from t (number + 1) handles

abbrev pub active_asyncs : Roster → List ℕ
active_asyncs r = active_from r.handles 0 r.asyncs

abbrev pub poll_list : State → List Entry
poll_list s =
    map (λ r. entry.After r.order.request) (settled s.requests) ++ map (λ a. entry.Async a) (active_asyncs s.roster)

-- Closing: the closing handles in the order of their closing.
abbrev pub closing_list : State → List Entry
closing_list s = map (λ handle. entry.Close handle) s.roster.closing

-- The list of a phase. Begin comes once, and its list is the opening state's.
abbrev pub phase_list : State → Phase → List Entry
phase_list s Begin = []
phase_list s Timers = timers_list s
phase_list s Idle = idle_list s
phase_list s Poll = poll_list s
phase_list s Check = check_list s
phase_list s Closing = closing_list s

abbrev pub is_empty : {X : Type 0} → List X → Bool
is_empty xs = length xs == 0

-- an active timer, idle or check handle, or async
abbrev pub has_active : Roster → Bool
has_active r =
    is_some (nearest_due r.handles)
    || (not (is_empty (kind_list kind.Idle r.handles))
    || (not (is_empty (kind_list kind.Check r.handles))
    || not (is_empty (active_asyncs r))))

-- an active handle, an outstanding request or a closing handle
unfoldable pub is_alive : State → Bool
is_alive s = has_active s.roster || (not (is_empty s.requests.outstanding) || not (is_empty s.roster.closing))

-- some handle is active
pub record HasActive (t : Table) : Type 0 where
  pub handle : ℕ
  pub it : Record
  pub there : record_of t handle ≡ Some it
  pub active : it.active ≡ true

-- `is_alive` without the lists: a handle is active, a request is outstanding, or a handle is closing
abbrev pub IsAlive : State → Type 0
IsAlive s = HasActive s.roster.handles ⊎ ((s.requests.outstanding ≢ []) ⊎ (s.roster.closing ≢ []))

-- how long nothing is to do, by the cached now
abbrev pub until_due : Option ℕ → (now : ℕ) → Hint
until_due None now = Forever
until_due (Some due) now = if nat_le due now then Now else For (due - now)

unfoldable pub hint_of : State → Hint
hint_of s =
    if not (is_alive s)
    || (not (is_empty (kind_list kind.Idle s.roster.handles))
    || (not (is_empty s.roster.closing) || not (is_empty (settled s.requests))))
    then Now
    else until_due (nearest_due s.roster.handles) s.now

-- this handle is there, active and of this kind
pub record IsActive (t : Table) (k : Kind) (handle : ℕ) (it : Record) : Type 0 where
  pub there : record_of t handle ≡ Some it
  pub active : it.active ≡ true
  pub kind : it.kind ≡ k

abbrev pub HasActiveOf : Kind → Table → Type 0
HasActiveOf k t = (handle : ℕ) × (it : Record) × IsActive t k handle it

-- an active timer is due at this moment, and none is earlier
pub record IsNextDue (t : Table) (due : ℕ) : Type 0 where
  pub handle : ℕ
  pub it : Record
  pub timer : IsActive t kind.Timer handle it
  pub is_due : it.due ≡ due
  pub least : (other : ℕ) (r : Record) → IsActive t kind.Timer other r → due ≤ r.due

-- the loop is not alive, or has an active idle handle, a closing handle, or a request that is answered or cancelled
abbrev pub IsAtOnce : State → Type 0
IsAtOnce s = (IsAlive s → ⊥) ⊎ (HasActiveOf kind.Idle s.roster.handles ⊎ ((s.roster.closing ≢ []) ⊎ (settled s.requests ≢ [])))

-- `hint_of` without the lists: now, also where the next timer is due; or so long until that; or for ever
-- where no timer is active
abbrev pub IsHint : State → Hint → Type 0
IsHint s Now = IsAtOnce s ⊎ ((due : ℕ) × IsNextDue s.roster.handles due × (due ≤ s.now))
IsHint s (For ms) = (IsAtOnce s → ⊥) × (0 < ms) × IsNextDue s.roster.handles (s.now + ms)
IsHint s Forever = (IsAtOnce s → ⊥) × (HasActiveOf kind.Timer s.roster.handles → ⊥)
