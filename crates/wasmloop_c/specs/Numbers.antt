-- What C gets in numbers.
use Rattle.std.specs.Prelude.{ℕ, length}
use Rattle.decode.specs.Faults.{number_of_decode_fault as decode_number}
use Rattle.validate.specs.Faults.{number_of_valid_fault as valid_number}
use Rattle.imports.specs.Linking.{number_of_link_fault as link_number}
use Rattle.loader.specs.declared.refusal.Refusal.{Refusal}
use Rattle.loader.specs.declared.refusal.Refusal.TheVariants as refusal
use Rattle.order.specs.declared.order.Order.{Order}
use Rattle.order.specs.declared.order.Outcome.{Outcome}
use Rattle.order.specs.declared.order.Outcome.TheVariants as outcome
use Rattle.order.specs.declared.run.Told.{Told}
use Rattle.order.specs.Orders.{order_of}
use Rattle.order.specs.Underway.{Underway}
use Rattle.order.specs.Work.{WorkOrder}
use Rattle.wasmloop_c.specs.declared.work.About.{About}
use Rattle.events.specs.Traps.{trap_number}
use Rattle.events.specs.declared.ended.Ending.{Ending}
use Rattle.events.specs.declared.ended.Ending.TheVariants.{Return, Trap, Depth, Spent}
use Rattle.events.specs.declared.did.Hint.{Hint}
use Rattle.events.specs.declared.did.Hint.TheVariants.{Now, For, Forever}
use Rattle.events.specs.declared.did.StepDid.{StepDid}
use Rattle.events.specs.declared.did.StepDid.TheVariants as step
use Rattle.events.specs.declared.phase.EntryKind.{EntryKind}
use Rattle.events.specs.declared.phase.EntryKind.TheVariants as kind
use Rattle.events.specs.declared.phase.Phase.{Phase}
use Rattle.events.specs.declared.phase.Phase.TheVariants as phase
use Rattle.wasmloop_c.specs.declared.did.Did.{Did}

abbrev pub phase_number : Phase → ℕ
phase_number phase.Begin = 0
phase_number phase.Timers = 1
phase_number phase.Idle = 2
phase_number phase.Poll = 3
phase_number phase.Check = 4
phase_number phase.Closing = 5

abbrev pub kind_number : EntryKind → ℕ
kind_number kind.Start = 0
kind_number kind.Main = 1
kind_number kind.Timer = 2
kind_number kind.Idle = 3
kind_number kind.After = 4
kind_number kind.Async = 5
kind_number kind.Check = 6
kind_number kind.Close = 7

-- how a callback ended, and the trap's number
abbrev pub ending_numbers : Ending → ℕ × ℕ
ending_numbers (Return values) = (0, 0)
ending_numbers (Trap trap) = (1, trap_number trap)
ending_numbers Depth = (2, 0)
ending_numbers Spent = (3, 0)

abbrev pub only : ℕ → Did
only what = record { what = what; phase = 0; kind = 0; number = 0; ending = 0; trap = 0; emits = 0; zero = 0; moment = 0; used = 0 }

-- a step, and how many values its callback emitted
abbrev pub did_of : StepDid → ℕ → Did
did_of (step.Entered phase now) emits = record (only 1) { phase = phase_number phase; moment = now }
did_of (step.Ran kind number ended) emits = record (only 2) {
  kind = kind_number kind;
  number = number;
  ending = (ending_numbers ended.ending).0;
  trap = (ending_numbers ended.ending).1;
  emits = emits;
  used = ended.used;
}
did_of (step.Skipped kind number) emits = record (only 3) { kind = kind_number kind; number = number }
did_of step.Over emits = only 4
did_of step.Failed emits = only 5

-- a hint in milliseconds
abbrev pub hint_number : Hint → ℕ
hint_number Now = 0
hint_number (For ms) = ms
hint_number Forever = 18446744073709551615

-- the stage of a refusal, and the fault's number in it
abbrev pub stage_number : Refusal → ℕ
stage_number (refusal.Decode fault) = 1
stage_number (refusal.Validate fault) = 2
stage_number (refusal.Link fault) = 3
stage_number refusal.Memory = 4

abbrev pub code_number : Refusal → ℕ
code_number (refusal.Decode fault) = decode_number fault
code_number (refusal.Validate fault) = valid_number fault
code_number (refusal.Link fault) = link_number fault
code_number refusal.Memory = 0

-- what a job is about that isn't over, and has used so much
abbrev pub about_unfinished : WorkOrder → (used : ℕ) → About
about_unfinished o used = record { loop_no = o.loop_no; request = o.request; slot = o.slot; op = o.op; bytes = length o.bytes; outcome = 0; value = 0; reply = 0; used = used }

-- of one that has not run
abbrev pub about_order : Order → About
about_order o = about_unfinished (order_of o) 0

-- of one that is paused
abbrev pub about_paused : Underway → About
about_paused r = about_unfinished r.order r.used

-- what became of it, its value, and how many bytes it has
abbrev pub outcome_numbers : Outcome → ℕ × (ℕ × ℕ)
outcome_numbers (outcome.Done value bytes) = (1, (value, length bytes.items))
outcome_numbers (outcome.Trap trap) = (2, (trap_number trap, 0))
outcome_numbers outcome.Depth = (3, (0, 0))
outcome_numbers outcome.Spent = (4, (0, 0))
outcome_numbers (outcome.NoMemory refused) = (5, (0, 0))

-- of one that was run
abbrev pub about_told : Told → About
about_told t = let n = outcome_numbers t.reply.outcome in record (about_order t.reply.order) { outcome = n.0; value = n.1.0; reply = n.1.1; used = t.used }
