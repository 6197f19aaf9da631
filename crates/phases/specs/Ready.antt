-- What a loop has listed is there as the list comes to it.
use Rattle.std.specs.Prelude.{◌≡◌, ◌≢◌, ℕ, ◌≤◌, true, List, length, All, AllPairs, Some, MatchOption, codes}
use Rattle.std.specs.Option.{is_some}
use Rattle.limits.specs.declared.TheConstants.{MAX_ASYNCS}
use Rattle.syntax.specs.declared.contents.Contents.{Contents}
use Rattle.handles.specs.Table.{IsClosing}
use Rattle.phases.specs.declared.entry.Entry.{Entry}
use Rattle.phases.specs.declared.entry.Entry.TheVariants as entry
use Rattle.phases.specs.PhaseList.{exports, is_active_handle}
use Rattle.phases.specs.Requests.{Requests, request_of, is_settled}
use Rattle.phases.specs.Roster.{Roster, async_handle}
use Rattle.phases.specs.State.{State}
use Rattle.phases.specs.Step.{handle_function}

-- the request is outstanding, and answered or cancelled
abbrev pub IsSettledIn : Requests → ℕ → Type 0
IsSettledIn rs number = MatchOption (request_of rs number) ⊥ (λ r. is_settled r.stage ≡ true)

-- What an entry names is there. A timer, idle or check handle is skipped where it is no longer as listed.
abbrev pub IsReady : Contents → State → Entry → Type 0
IsReady m s entry.Start = is_some m.start ≡ true
IsReady m s entry.Main = exports m (codes "uv_main") ≡ true
IsReady m s (entry.After number) = IsSettledIn s.requests number
IsReady m s (entry.Async async_no) = is_some (async_handle s.roster async_no) ≡ true
IsReady m s (entry.Close handle) = IsClosing s.roster.handles handle
IsReady m s _ = Unit {0}

-- what is removed as the first runs is not what the other needs
abbrev pub Spares : Entry → Entry → Type 0
Spares (entry.After a) (entry.After b) = a ≢ b
Spares (entry.Close a) (entry.Close b) = a ≢ b
Spares (entry.Close a) (entry.Async b) = ⊥
Spares _ _ = Unit {0}

-- each entry spares all after it
abbrev pub AreApart : List Entry → Type 0
AreApart entries = AllPairs Spares entries

-- an async is active, its handle and its callback are these
abbrev pub IsActiveAsync : Roster → (async_no : ℕ) → (found : ℕ × ℕ) → Type 0
IsActiveAsync r async_no found =
    (is_active_handle r.handles (Some found.0) ≡ true) × (async_handle r async_no ≡ Some found.0) × (handle_function r found.0 ≡ Some found.1)

-- what is left of the list of a loop of this module is ready
pub record AreReady (m : Contents) (s : State) : Type 0 where
  pub ready : All (IsReady m s) s.list
  pub apart : AreApart s.list

-- What no call takes away, a guest's or its owner's. The list, the phase and the functions of callbacks stay; a settled
-- request stays so, an async keeps its handle, asyncs are no more than MAX_ASYNCS, and a closing handle stays closing.
pub record Grows (s t : State) : Type 0 where
  pub list : t.list ≡ s.list
  pub phase : t.phase ≡ s.phase
  pub callbacks : t.roster.callbacks ≡ s.roster.callbacks
  pub settled : (number : ℕ) → IsSettledIn s.requests number → IsSettledIn t.requests number
  pub asyncs : (async_no handle : ℕ) → async_handle s.roster async_no ≡ Some handle → async_handle t.roster async_no ≡ Some handle
  pub few : length s.roster.asyncs ≤ MAX_ASYNCS → length t.roster.asyncs ≤ MAX_ASYNCS
  pub closing : (handle : ℕ) → IsClosing s.roster.handles handle → IsClosing t.roster.handles handle
