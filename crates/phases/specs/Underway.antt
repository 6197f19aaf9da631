-- A step under way, between two slices of its callback.
use Rattle.std.specs.Prelude.{◌≡◌, ℕ, List, Option}
use Rattle.syntax.specs.Loaded.{Loaded}
use Rattle.syntax.specs.declared.types.Value.{Value}
use Rattle.valid.specs.declared.side_table.SideTable.{SideTable}
use Rattle.instance.specs.declared.stack.Caller.{Caller}
use Rattle.reduction.specs.Run.{HostCall}
use Rattle.interp.specs.declared.paused.Paused.{Paused}
use Rattle.interp.specs.Slices.{RunIsPaused}
use Rattle.events.specs.declared.did.StepDid.{StepDid}
use Rattle.events.specs.declared.phase.EntryKind.{EntryKind}
use Rattle.phases.specs.declared.loop_host.LoopHost.{LoopHost}
use Rattle.phases.specs.Calls.{Calls}
use Rattle.phases.specs.Guests.{GuestCall}
use Rattle.phases.specs.Hosting.{Answered}
use Rattle.phases.specs.Keeping.{KeepsLoop}
use Rattle.phases.specs.Settings.{setting_of}
use Rattle.phases.specs.State.{Setting, State, Loop, Core}
use Rattle.phases.specs.Step.{begun, RunsFrom, StepsWith}

-- The module, and what the loop is made of; its callback's kind and number; with which side tables that began, and where it goes on, over
-- these slots and callers; the loop as it stands, and how many bytes its calls have copied.
pub record StepInSlices (S : Type 0) : Type 0 where
  pub loaded : Loaded
  pub setting : Setting
  pub kind : EntryKind
  pub number : ℕ
  pub tables : List SideTable
  pub paused : Paused
  pub slots : List ℕ
  pub callers : List Caller
  pub loop : Loop S
  pub copied : ℕ

-- the units of fuel that its callback has used
abbrev pub used_by_step : {S : Type 0} → StepInSlices S → ℕ
used_by_step s = s.paused.used

module _ {S : Type 0} (calls : Calls S) where
  abbrev pub Host : Type 0
  Host = LoopHost S (record { calls = calls })

  -- how the host of a callback moves
  abbrev pub moves : Host → HostCall → Host → Type 0
  moves = Answered calls (λ h. setting_of h.setting) (λ h. (h.state, h.shared))

  -- A callback with these arguments, which may read these bytes, began on this loop, and has come to there: the run's first steps are taken,
  -- and its host stands so.
  pub record IsCallback (g : Setting) (mid : Loop S) (args : List Value) (reply : Option (List ℕ)) (s : StepInSlices S) (host : Host)
      : Type 0 where
    pub set : s.setting ≡ g
    pub keeps : KeepsLoop s.loaded g mid.state mid.store
    pub before : Host
    pub made : setting_of before.setting ≡ g
    pub begins : ◌≡◌ {A = State × S} (before.state, before.shared) (begun mid.state reply, mid.shared)
    pub deep : s.paused.depth ≡ g.depth
    pub under_way : RunIsPaused s.loaded.contents s.tables moves mid.store before args g.fuel s.paused s.slots s.callers s.loop.store host

  -- The step that began on a loop has come to there: what the callback does from where it began is what the step does.
  pub record StepHasCome (a : Core S) (s : StepInSlices S) : Type 0 where
    pub mid : Loop S
    pub args : List Value
    pub reply : Option (List ℕ)
    pub host : Host
    pub stands : ◌≡◌ {A = State × S} (host.state, host.shared) (s.loop.state, s.loop.shared)
    pub callback : IsCallback a.setting mid args reply s host
    pub leads : (did : StepDid) (made : List GuestCall) (new : Loop S)
        → RunsFrom calls a.setting mid s.kind s.number s.paused.function args reply did made new → StepsWith calls a.setting a.loop did made new
