-- What comes of a work order, and where it is written.
use Rattle.std.specs.Prelude.{◌≡◌, ◌≤◌, ℕ, ◌+◌, List, length, string_bytes, Option, Result, IfOk, false}
use Rattle.std.specs.Io.KnownBytes.{Appends}
use Rattle.files.specs.declared.fault.IoFault.{IoFault}
use Rattle.limits.specs.declared.TheConstants.{MAX_BYTES}
use Rattle.syntax.specs.Loaded.{Loaded}
use Rattle.order.specs.Work.{WorkOrder, WorkEnd, Done, Trap, Depth, Spent, NoMemory, IsTheEnd, IsEndOf}
use Rattle.words.specs.declared.command.WorkInput.{WorkInput}
use Rattle.words.specs.declared.command.WorkInput.TheVariants as input
use Rattle.words.specs.declared.command.WorkOutput.{WorkOutput}
use Rattle.words.specs.declared.command.WorkOutput.TheVariants as output
use Rattle.words.specs.declared.command.WorkRequest.{WorkRequest}
use Rattle.working.specs.declared.report.WorkReport.{WorkReport}
use Rattle.working.specs.declared.report.WorkReport.TheVariants as report
use Rattle.working.specs.Lines.{end_line, short_line}

-- how many bytes of an input are read: one more than a work order may have
abbrev pub enough_of_input : ℕ
enough_of_input = MAX_BYTES + 1

-- the bytes that the words spell, or those of the file that they name, as a reader gives it
abbrev pub IsInput : (List ℕ → ℕ → List ℕ → Type 0) → WorkInput → List ℕ → Type 0
IsInput gives (input.Bytes spelled) bytes = bytes ≡ spelled.items
IsInput gives (input.File name) bytes = gives (string_bytes name) enough_of_input bytes × (length bytes ≤ MAX_BYTES)

-- what the words ask of a module, with these bytes to read: request 1 of loop 0, in slot 0
abbrev pub asked_order : WorkRequest → List ℕ → Loaded → WorkOrder
asked_order work bytes loaded = record {
  loop_no = 0;
  request = 1;
  slot = 0;
  loaded = loaded;
  op = work.operation;
  bytes = bytes;
  fuel = work.fuel;
  depth = work.depth;
}

-- the work function gave a value and bytes
abbrev pub IsResult : WorkEnd → Type 0
IsResult (Done value bytes) = Unit {0}
IsResult (Trap code) = ⊥
IsResult Depth = ⊥
IsResult Spent = ⊥
IsResult NoMemory = ⊥

-- a value's bytes were made a file of this name
abbrev pub TakesReply : (List ℕ → List ℕ → Type 0) → List ℕ → WorkEnd → Type 0
TakesReply takes name (Done value bytes) = takes name bytes
TakesReply takes name end = Unit {0}

-- a value's bytes were written, and of another end nothing
abbrev pub IsRaw : (before after : Option (List ℕ)) → WorkEnd → Type 0
IsRaw before after (Done value bytes) = Appends before after bytes
IsRaw before after end = after ≡ before

-- Where an end goes: the line of it with its bytes to standard output; or the bytes to a file, and the line without them to
-- standard output; or the bytes alone to standard output.
abbrev pub PutsOut : (List ℕ → List ℕ → Type 0) → WorkOutput → (before after : Option (List ℕ)) → WorkEnd → Type 0
PutsOut takes output.Line before after end = Appends before after (end_line end)
PutsOut takes (output.File name) before after end = TakesReply takes (string_bytes name) end × Appends before after (short_line end)
PutsOut takes output.Standard before after end = IsRaw before after end

-- what standard error gets of an end: the line, where standard output has the bytes alone, and else nothing
abbrev pub IsSaid : WorkOutput → (before after : Option (List ℕ)) → WorkEnd → Type 0
IsSaid output.Line before after end = after ≡ before
IsSaid (output.File name) before after end = after ≡ before
IsSaid output.Standard before after end = Appends before after (short_line end)

-- One thread computes from the order and these bytes a value and bytes and nothing else, and these were written where the words
-- say. What was used is also reported, if that is asked for.
pub record HasComputed (takes : List ℕ → List ℕ → Type 0) (out_before out_after err_before err_after : Option (List ℕ))
    (work : WorkRequest) (read : List ℕ) (loaded : Loaded) : Type 0 where
  pub value : ℕ
  pub bytes : List ℕ
  pub computed : IsTheEnd (asked_order work read loaded) (Done value bytes)
  pub printed : PutsOut takes work.output out_before out_after (Done value bytes)
  pub said : work.is_traced ≡ false → IsSaid work.output err_before err_after (Done value bytes)

-- The order's end is no value and bytes, or there was no memory, and that was written where the words say.
pub record HasNoResult (takes : List ℕ → List ℕ → Type 0) (out_before out_after : Option (List ℕ))
    (work : WorkRequest) (read : List ℕ) (loaded : Loaded) : Type 0 where
  pub end : WorkEnd
  pub computed : IsEndOf (asked_order work read loaded) end
  pub no_result : ¬ IsResult end
  pub printed : PutsOut takes work.output out_before out_after end

-- this holds where a work order ended with a value and bytes
abbrev pub OnResult : Result WorkReport IoFault → Type 0 → Type 0
OnResult end holds = IfOk end (λ r. r ≡ report.Result → holds)

-- this holds where a work order ended otherwise
abbrev pub OnStopped : Result WorkReport IoFault → Type 0 → Type 0
OnStopped end holds = IfOk end (λ r. r ≡ report.Stopped → holds)
