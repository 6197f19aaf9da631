-- What comes of a call of an exported function, by the words of a command.
use Rattle.std.specs.Prelude.{ℕ, List, Some, map, string_bytes}
use Rattle.syntax.specs.declared.types.Value.{Value}
use Rattle.syntax.specs.declared.contents.Contents.{Contents}
use Rattle.syntax.specs.declared.contents.ExternKind.TheVariants.{Func}
use Rattle.syntax.specs.Exporting.{IsFirst}
use Rattle.events.specs.declared.ended.Ended.{Ended}
use Rattle.words.specs.declared.command.Invocation.{Invocation}
use Rattle.running.specs.declared.calling.Called.{Called}
use Rattle.running.specs.declared.calling.Called.TheVariants.{Function}
use Rattle.running.specs.Accepted.{HoldsModule}
use Rattle.resident.specs.Calls.{HasReturned}
use Rattle.running.specs.Calling.{IsCalled}
use Rattle.running.specs.Arguments.{AllSpell}

-- A module with these contents exports a function under the name, the words spell its arguments, and this comes of a call of
-- it on a new instance.
pub record IsCallOf (contents : Contents) (i : Invocation) (called : Called) : Type 0 where
  pub function : ℕ
  pub named : IsFirst contents.exports (string_bytes i.name) (Some (record { kind = Func; index = function }))
  pub args : List Value
  pub spelled : AllSpell (map string_bytes i.arguments.items) args
  pub gives : IsCalled contents i.fuel i.depth function args called

-- The file's module exports a function under the name, the words spell its arguments, and called with them on a new
-- instance, it returns.
pub record HasInvoked (gives : List ℕ → ℕ → List ℕ → Type 0) (i : Invocation) : Type 0 where
  pub contents : Contents
  pub held : HoldsModule gives (string_bytes i.file) contents
  pub ended : Ended
  pub called : IsCallOf contents i (Function ended)
  pub returned : HasReturned ended.ending
