-- How the code's requests read.
use Rattle.std.specs.Prelude.{◌≡◌}
use Rattle.order.specs.Orders.{order_of, end_of}
use Rattle.order.specs.Work.{WorkOrder}
use Rattle.phases.specs.declared.stage.Stage.{Stage as CodeStage}
use Rattle.phases.specs.declared.stage.Stage.TheVariants as code_stage
use Rattle.phases.specs.Requests.{Stage, Open, HandedOut, Answered, Cancelled, Completion}
use Rattle.phases.specs.declared.stage.Completion.{Completion as CodeCompletion}

abbrev pub stage_of : CodeStage → Stage
stage_of (code_stage.Open copy) = Open
stage_of code_stage.HandedOut = HandedOut
stage_of (code_stage.Answered outcome) = Answered (end_of outcome)
stage_of code_stage.Cancelled = Cancelled

-- what is to be handed out is the request's order
abbrev pub IsCopyOf : WorkOrder → CodeStage → Type 0
IsCopyOf o (code_stage.Open copy) = order_of copy ≡ o
IsCopyOf o _ = Unit {0}

abbrev pub completion_in : CodeCompletion → Completion
completion_in t = record { kind = t.kind; code = t.code; bytes = t.bytes.items }
