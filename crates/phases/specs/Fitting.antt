-- Invariants of the parts of a loop.
use Rattle.std.specs.Prelude.{◌≡◌, ℕ, ◌<◌, ◌≤◌, ◌==◌, Bool, true, false, ◌||◌, not, List, [], ◌∷◌, length, map, All}
use Rattle.std.specs.Prelude.{Option, Some, None}
use Rattle.std.specs.List.{list_any}
use Rattle.std.specs.FinMap as finite
use Rattle.limits.specs.declared.TheConstants.{MAX_BYTES, MAX_HANDLES, MAX_REQUESTS, MAX_REQUEST_NUMBER}
use Rattle.handles.specs.declared.handle.Record.{Record}
use Rattle.handles.specs.declared.handle.Kind.TheVariants as kind
use Rattle.handles.specs.Table.{Table, record_of, IsClosing}
use Rattle.order.specs.Work.{WorkOrder, IsEndOf}
use Rattle.phases.specs.Roster.{Roster, is_handle, is_callback}
use Rattle.phases.specs.Requests.{Requests, Request, Stage, Answered}

-- the handle was started or is closing, so that its callback may be called
abbrev pub has_duty : Record → Bool
has_duty r = r.active || (not (r.start == 0) || r.closing)

-- each handle is closing, and stands here once
abbrev pub AreClosing : Table → List ℕ → Type 0
AreClosing t [] = Unit {0}
AreClosing t (handle ∷ handles) = IsClosing t handle × (list_any (λ other. other == handle) handles ≡ false) × AreClosing t handles

-- There are MAX_HANDLES handles at most. The callback of each that has a duty is there, what is listed as closing is
-- closing, and each async has its number.
pub record RosterIsKept (r : Roster) : Type 0 where
  pub few : finite.len r.handles.records ≤ MAX_HANDLES
  pub callbacks : (handle : ℕ) (it : Record) → record_of r.handles handle ≡ Some it → has_duty it ≡ true → is_callback r it.callback ≡ true
  pub closing_handles : AreClosing r.handles r.closing
  pub numbered : (handle : ℕ) (it : Record) → record_of r.handles handle ≡ Some it → it.kind ≡ kind.Async
      → list_any (is_handle handle) r.asyncs ≡ true

-- the numbers rise, from above one to another at most
abbrev pub AreRising : (low : ℕ) → List ℕ → (high : ℕ) → Type 0
AreRising low [] high = low ≤ high
AreRising low (n ∷ ns) high = (low < n) × AreRising n ns high

-- an answer is what the order alone gives, or that there was no memory
abbrev pub IsTrueTo : WorkOrder → Stage → Type 0
IsTrueTo o (Answered end) = ∥ IsEndOf o end ∥₁
IsTrueTo o _ = Unit {0}

abbrev pub IsRight : Request → Type 0
IsRight r = IsTrueTo r.order r.stage

-- There are MAX_REQUESTS requests at most, in slots below that number, their own numbers rise up to MAX_REQUEST_NUMBER, and
-- what is answered is right.
pub record AreKept (rs : Requests) : Type 0 where
  pub few : length rs.outstanding ≤ MAX_REQUESTS
  pub slots : All (λ r. r.order.slot < MAX_REQUESTS) rs.outstanding
  pub rising : AreRising 0 (map (λ r. r.order.request) rs.outstanding) rs.last
  pub numbers : rs.last ≤ MAX_REQUEST_NUMBER
  pub right : All IsRight rs.outstanding

-- the outcome of each answered request is what its own order gives, or that there was no memory
abbrev pub AllRight : Requests → Type 0
AllRight rs = All IsRight rs.outstanding

-- what an after-work callback may read is no longer than a reply
abbrev pub IsShort : Option (List ℕ) → Type 0
IsShort None = Unit {0}
IsShort (Some bytes) = length bytes ≤ MAX_BYTES
