-- The state of one loop.
use Rattle.std.specs.Prelude.{ℕ, List, [], Option, None}
use Rattle.syntax.specs.Loaded.{Loaded}
use Rattle.instance.specs.Store.{Store}
use Rattle.events.specs.declared.phase.Phase.{Phase}
use Rattle.events.specs.declared.phase.Phase.TheVariants as phase
use Rattle.phases.specs.declared.entry.Entry.{Entry}
use Rattle.phases.specs.declared.entry.Status.{Status}
use Rattle.phases.specs.declared.entry.Status.TheVariants.{Running}
use Rattle.phases.specs.Roster.{Roster}
use Rattle.phases.specs.Requests.{Requests, no_requests}

-- what a loop is made of: its module, its number, the fuel of a callback and of a work function, and the depth of calls
pub record Setting : Type 0 where
  pub loaded : Loaded
  pub loop_no : ℕ
  pub fuel : ℕ
  pub work_fuel : ℕ
  pub depth : ℕ

-- The handles; the requests; the clock and the cached now; the phase, and what is left of its list; in an after-work
-- callback the reply's bytes, and what the last callback emitted so far; and whether the loop goes on.
pub record State : Type 0 where
  pub roster : Roster
  pub requests : Requests
  pub clock : ℕ
  pub now : ℕ
  pub phase : Phase
  pub list : List Entry
  pub reply : Option (List ℕ)
  pub emits : List ℕ
  pub status : Status

-- a loop that has done nothing, with the callbacks of its module and the list of its first phase
abbrev pub opening : Roster → List Entry → State
opening roster entries = record {
  roster = roster;
  requests = no_requests;
  clock = 0;
  now = 0;
  phase = phase.Begin;
  list = entries;
  reply = None;
  emits = [];
  status = Running;
}

-- a loop as it stands: its state, the store of its instance, and what it shares
pub record Loop (S : Type 0) : Type 0 where
  pub state : State
  pub store : Store
  pub shared : S

-- a loop with what it is made of
pub record Core (S : Type 0) : Type 0 where
  pub setting : Setting
  pub loop : Loop S
