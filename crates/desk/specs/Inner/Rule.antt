-- The rule of the words: they agree with all that was done at the desk.
use Rattle.std.specs.Prelude.{◌≡◌, ℕ, ◌+◌, ◌<◌, ◌≤◌, ◌==◌, List, [], ◌∷◌, length, slice_index, sum}
use Rattle.limits.specs.declared.TheConstants.{MAX_ASYNCS, MAX_REQUESTS, MAX_SENDS}
use Rattle.tallies.specs.Requests.{times}
use Rattle.desk.specs.declared.rule.History.{History}
use Rattle.desk.specs.Desk.{Desk, is_open_request}

-- what contracts see of a history
abbrev pub desk_of : History → Desk
desk_of h = record {
  view = record {
    loop_no = h.loop_no;
    opened = h.opened;
    cancelled = h.cancelled;
    found_started = h.found_started;
    takes = h.takes;
    taken = h.taken;
    own = h.own;
    untaken = h.untaken;
  };
  started = h.started;
  waiting = h.waiting;
  sent = h.sent;
}

abbrev pub history_of : Desk → History
history_of d = record {
  loop_no = d.view.loop_no;
  opened = d.view.opened;
  cancelled = d.view.cancelled;
  found_started = d.view.found_started;
  takes = d.view.takes;
  taken = d.view.taken;
  own = d.view.own;
  untaken = d.view.untaken;
  started = d.started;
  waiting = d.waiting;
  sent = d.sent;
}

-- the place of an async's word
abbrev pub waiting_place : ℕ → ℕ
waiting_place a = MAX_REQUESTS + a

-- the slots come first
pub record AreSlots (words : List ℕ) (d : Desk) : Type 0 where
  -- a slot's word is the number of the request that is open there, and 0 where none is
  pub word : (slot request : ℕ) → slot < MAX_REQUESTS → 0 < request → (slice_index words slot == request) ≡ is_open_request d (slot, request)
  -- only what was opened is cancelled or started
  pub opened : (c : ℕ × ℕ) → 0 < times c d.view.cancelled + times c d.started → 0 < times c d.view.opened
  -- what was found started is
  pub found : (c : ℕ × ℕ) → 0 < times c d.view.found_started → 0 < times c d.started

-- the asyncs come next
pub record AreCounts (words : List ℕ) (d : Desk) : Type 0 where
  -- an async's word is what waits there
  pub word : (a : ℕ) → a < MAX_ASYNCS → slice_index words (waiting_place a) ≡ slice_index d.waiting a
  -- what was sent, by the loop and by others, was taken or waits
  pub sends : (a : ℕ) → a < MAX_ASYNCS
      → slice_index d.view.own a + slice_index d.sent a ≡ slice_index d.view.taken a + slice_index d.waiting a
  -- what the loop has sent and not taken waits
  pub untaken : (a : ℕ) → a < MAX_ASYNCS → slice_index d.view.untaken a ≤ slice_index d.waiting a

pub record WordsAgree (words : List ℕ) (d : Desk) : Type 0 where
  pub size : length words ≡ MAX_REQUESTS + MAX_ASYNCS
  pub slots : AreSlots words d
  pub counts : AreCounts words d

-- one seat has them all
abbrev pub DeskIsKept : List ℕ → List History → Type 0
DeskIsKept words histories = (h : History) × (histories ≡ h ∷ []) × WordsAgree words (desk_of h)

-- The counts of all sends, of the loop and of others
pub record SendsAreCounted (d : Desk) (by_loop by_others : ℕ) : Type 0 where
  pub own : by_loop ≡ sum d.view.own
  pub own_most : by_loop ≤ MAX_SENDS
  pub others : by_others ≡ sum d.sent
  pub others_most : by_others ≤ MAX_SENDS

-- each list has a number for each async
pub record DeskIsSized (d : Desk) : Type 0 where
  pub own : length d.view.own ≡ MAX_ASYNCS
  pub untaken : length d.view.untaken ≡ MAX_ASYNCS
  pub taken : length d.view.taken ≡ MAX_ASYNCS
  pub waiting : length d.waiting ≡ MAX_ASYNCS
  pub sent : length d.sent ≡ MAX_ASYNCS
