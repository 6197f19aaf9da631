-- The text of a log: a line for each entry. A line is words with one space between, and a line feed.
use Rattle.std.specs.Prelude.{ℕ, List, [], ◌∷◌, ◌++◌, Some, None, map, codes, decimal, true, false, Bool, Option}
use Rattle.std.specs.Fmt.{signed_decimal}
use Rattle.std.specs.Int.{w32, w64, cast_signed}
use Rattle.std.specs.List.{join_with_byte, flat_map}
use Rattle.events.specs.Traps.{trap_number}
use Rattle.events.specs.declared.ended.Ending.{Ending}
use Rattle.events.specs.declared.ended.Ending.TheVariants.{Return, Trap, Depth, Spent}
use Rattle.events.specs.declared.phase.Phase.{Phase}
use Rattle.events.specs.declared.phase.Phase.TheVariants as phase
use Rattle.events.specs.declared.phase.EntryKind.{EntryKind}
use Rattle.events.specs.declared.phase.EntryKind.TheVariants as kind
use Rattle.world_log.specs.declared.outcome.JobEnd.{JobEnd}
use Rattle.world_log.specs.declared.outcome.JobEnd.TheVariants.{Done, Trap as WorkTrap, Depth as WorkDepth}
use Rattle.world_log.specs.declared.outcome.JobEnd.TheVariants.{Spent as WorkSpent, NoMemory}
use Rattle.world_log.specs.declared.outcome.JobId.{JobId}
use Rattle.world_log.specs.declared.outcome.PostOutcome.{PostOutcome}
use Rattle.world_log.specs.declared.outcome.PostOutcome.TheVariants.{Request as Posted, Nothing as NoOrder, Full}
use Rattle.world_log.specs.declared.outcome.StartOutcome.{StartOutcome}
use Rattle.world_log.specs.declared.outcome.StartOutcome.TheVariants.{Begun, Dropped, Nothing as NothingTaken}
use Rattle.world_log.specs.declared.outcome.FinishOutcome.{FinishOutcome}
use Rattle.world_log.specs.declared.outcome.FinishOutcome.TheVariants.{Ended as Finished, Nothing as NothingStarted}
use Rattle.world_log.specs.declared.outcome.CollectOutcome.{CollectOutcome}
use Rattle.world_log.specs.declared.outcome.CollectOutcome.TheVariants.{Request as Collected, Stranger, Nothing as NoReply}
use Rattle.world_log.specs.declared.entry.LogEntry.{LogEntry}
use Rattle.world_log.specs.declared.entry.LogEntry.TheVariants as entry

-- the name of a phase; the first one is never entered
abbrev pub phase_word : Phase → List ℕ
phase_word phase.Begin = codes "begin"
phase_word phase.Timers = codes "timers"
phase_word phase.Idle = codes "idle"
phase_word phase.Poll = codes "poll"
phase_word phase.Check = codes "check"
phase_word phase.Closing = codes "closing"

-- the name of a kind of callback
abbrev pub kind_word : EntryKind → List ℕ
kind_word kind.Start = codes "start"
kind_word kind.Main = codes "main"
kind_word kind.Timer = codes "timer"
kind_word kind.Idle = codes "idle"
kind_word kind.After = codes "after"
kind_word kind.Async = codes "async"
kind_word kind.Check = codes "check"
kind_word kind.Close = codes "close"

-- an i32 and an i64, kept as unsigned numbers, in decimal with their sign
abbrev pub signed_i32 : ℕ → List ℕ
signed_i32 n = signed_decimal (cast_signed w32 n)

abbrev pub signed_i64 : ℕ → List ℕ
signed_i64 n = signed_decimal (cast_signed w64 n)

abbrev pub callback_words : EntryKind → ℕ → List (List ℕ)
callback_words kind number = kind_word kind ∷ decimal number ∷ []

-- how a callback ended; it has no results
abbrev pub ending_words : Ending → List (List ℕ)
ending_words (Return results) = codes "return" ∷ []
ending_words (Trap trap) = codes "trap" ∷ decimal (trap_number trap) ∷ []
ending_words Depth = codes "depth" ∷ []
ending_words Spent = codes "spent" ∷ []

abbrev pub work_words : JobEnd → List (List ℕ)
work_words (Done value) = codes "done" ∷ signed_i32 value ∷ []
work_words (WorkTrap trap) = codes "trap" ∷ decimal (trap_number trap) ∷ []
work_words WorkDepth = codes "depth" ∷ []
work_words WorkSpent = codes "spent" ∷ []
work_words NoMemory = codes "nomemory" ∷ []

-- the emitted values in their order, and nothing where nothing was emitted
abbrev pub emit_words : List ℕ → List (List ℕ)
emit_words [] = []
emit_words (value ∷ values) = codes "emit" ∷ map signed_i64 (value ∷ values)

abbrev pub request_words : ℕ → List (List ℕ)
request_words request = codes "request" ∷ decimal request ∷ []

abbrev pub loop_words : ℕ → List (List ℕ)
loop_words loop_no = codes "loop" ∷ decimal loop_no ∷ []

abbrev pub job_words : JobId → List (List ℕ)
job_words job = loop_words job.loop_no ++ request_words job.request

abbrev pub post_words : PostOutcome → List (List ℕ)
post_words (Posted request) = request_words request
post_words NoOrder = codes "none" ∷ []
post_words Full = codes "full" ∷ []

abbrev pub take_words : Option JobId → List (List ℕ)
take_words (Some job) = job_words job
take_words None = codes "none" ∷ []

abbrev pub start_words : StartOutcome → List (List ℕ)
start_words (Begun job) = job_words job ++ codes "begun" ∷ []
start_words (Dropped job) = job_words job ++ codes "dropped" ∷ []
start_words NothingTaken = codes "none" ∷ []

abbrev pub finish_words : FinishOutcome → List (List ℕ)
finish_words (Finished job ending) = job_words job ++ work_words ending
finish_words NothingStarted = codes "none" ∷ []

abbrev pub collect_words : CollectOutcome → List (List ℕ)
collect_words (Collected request) = request_words request
collect_words Stranger = codes "stranger" ∷ []
collect_words NoReply = codes "none" ∷ []

abbrev pub refused_words : Bool → List (List ℕ)
refused_words true = codes "refused" ∷ []
refused_words false = []

-- words, each after a space
abbrev pub spaced : List (List ℕ) → List ℕ
spaced words = flat_map (λ word. 32 ∷ word) words

-- the words of an entry
abbrev pub entry_words : LogEntry → List (List ℕ)
entry_words (entry.Entered loop_no phase now) =
    loop_words loop_no ++ codes "enter" ∷ phase_word phase ∷ decimal now ∷ []
entry_words (entry.Ran loop_no kind number ended emits) =
    loop_words loop_no ++ codes "run" ∷ callback_words kind number ++ ending_words ended.ending
    ++ codes "used" ∷ decimal ended.used ∷ emit_words emits
entry_words (entry.Skipped loop_no kind number) =
    loop_words loop_no ++ codes "skip" ∷ callback_words kind number
entry_words (entry.Over loop_no) = loop_words loop_no ++ codes "over" ∷ []
entry_words (entry.Failed loop_no) = loop_words loop_no ++ codes "failed" ∷ []
entry_words (entry.Post loop_no outcome) = codes "post" ∷ decimal loop_no ∷ post_words outcome
entry_words (entry.Take worker job) = codes "take" ∷ decimal worker ∷ take_words job
entry_words (entry.Start worker outcome) = codes "start" ∷ decimal worker ∷ start_words outcome
entry_words (entry.Finish worker outcome) = codes "finish" ∷ decimal worker ∷ finish_words outcome
entry_words (entry.Collect loop_no outcome) =
    codes "collect" ∷ decimal loop_no ∷ collect_words outcome
entry_words (entry.Send loop_no async_no is_refused) =
    codes "send" ∷ decimal loop_no ∷ decimal async_no ∷ refused_words is_refused
entry_words (entry.Cancel loop_no request answer) =
    codes "cancel" ∷ decimal loop_no ∷ decimal request ∷ codes "answer" ∷ signed_decimal answer ∷ []
entry_words (entry.Clock loop_no clock) = codes "clock" ∷ decimal loop_no ∷ decimal clock ∷ []

-- the line of an entry
abbrev pub line_of : LogEntry → List ℕ
line_of e = join_with_byte 32 (entry_words e) ++ codes "\n"

-- the text of a log
abbrev pub log_text : List LogEntry → List ℕ
log_text log = flat_map line_of log
