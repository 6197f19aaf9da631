-- What comes of a script.
use Rattle.std.specs.Prelude.{◌≤◌, ℕ, List, All, Option, length}
use Rattle.std.specs.Io.KnownBytes.{Appends}
use Rattle.limits.specs.declared.TheConstants.{MAX_SCRIPT_BYTES}
use Rattle.script.specs.Fault.{IsJson}
use Rattle.script.specs.Limits.{IsWithinLimits}
use Rattle.script.specs.Text.{log_text}
use Rattle.script.specs.declared.plan.Plan.{Plan}
use Rattle.world.specs.World.{World, WorldRun}
use Rattle.world_log.specs.declared.step.Step.{Step}
use Rattle.world_log.specs.declared.entry.LogEntry.{LogEntry}
use Rattle.world_log.specs.declared.entry.LogEntry.TheVariants.{Ran}
use Rattle.resident.specs.Calls.{HasReturned}
use Rattle.scripting.specs.Opening.{IsWorldOf}

-- the line is of no callback that did not return
abbrev pub TellsNoFailure : LogEntry → Type 0
TellsNoFailure (Ran loop_no kind number ended emits) = HasReturned ended.ending
TellsNoFailure _ = Unit {0}

-- The world took all steps, every callback returned, and the text of the log was written.
pub record HasTaken (steps : List Step) (world : World) (before after : Option (List ℕ)) : Type 0 where
  pub log : List LogEntry
  pub last : World
  pub ran : WorldRun world steps log last
  pub none_failed : All TellsNoFailure log
  pub printed : Appends before after (log_text log)

-- The text is JSON and not too long, and the world of a plan within the limits took all steps of the plan.
pub record HasRun (text : List ℕ) (before after : Option (List ℕ)) : Type 0 where
  pub few : length text ≤ MAX_SCRIPT_BYTES
  pub json : IsJson text
  pub plan : Plan
  pub within : IsWithinLimits plan
  pub world : World
  pub opening : IsWorldOf plan world
  pub taken : HasTaken plan.steps.items world before after
