-- What the parts of an invocation come to.
use Rattle.std.proofs.Common.{◌≡◌, ℕ, List, map, string_bytes}
use Rattle.syntax.specs.declared.types.Value.{Value}
use Rattle.syntax.specs.declared.contents.Contents.{Contents}
use Rattle.syntax.specs.declared.contents.FuncType.{FuncType}
use Rattle.valid.specs.Typing.{HasFunctionType, type_of}
use Rattle.reduction.specs.Invoking.{TakesArguments}
use Rattle.words.specs.declared.command.Invocation.{Invocation}
use Rattle.running.specs.declared.calling.Called.{Called}
use Rattle.running.specs.declared.calling.Called.TheVariants.{Start, Function}
use Rattle.running.specs.Accepted.{HoldsModule}
use Rattle.running.specs.Calling.{HasFunctionReturned}
use Rattle.running.specs.Invoking.{HasInvoked, IsCallOf}

pub takes : (m : Contents) (function : ℕ) (args : List Value) (type : FuncType) → HasFunctionType m function type → map type_of args ≡ type.params → TakesArguments m function args
takes m function args type known fit = record { type = type; known = known; fit = fit }

pub invoked : (gives : List ℕ → ℕ → List ℕ → Type 0) (i : Invocation) (contents : Contents) (called : Called)
    → HoldsModule gives (string_bytes i.file) contents → IsCallOf contents i called → HasFunctionReturned called → HasInvoked gives i
invoked gives i contents (Start ended) held is returned = absurd returned
invoked gives i contents (Function ended) held is returned = record { contents = contents; held = held; ended = ended; called = is; returned = returned }
