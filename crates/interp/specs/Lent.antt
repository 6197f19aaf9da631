-- How a call ended whose results were written to places that were lent for them.
use Rattle.std.specs.Prelude.{ℕ, List, length, take, Option, Some, None}
use Rattle.syntax.specs.declared.types.Value.{Value}
use Rattle.syntax.specs.declared.contents.Contents.{Contents}
use Rattle.syntax.specs.declared.contents.FuncType.{FuncType}
use Rattle.valid.specs.Typing.{type_of_function}
use Rattle.events.specs.declared.ended.Ended.{Ended}
use Rattle.events.specs.declared.ended.Ending.{Ending}
use Rattle.events.specs.declared.ended.Ending.TheVariants.{Return, Trap, Depth, Spent}
use Rattle.events.specs.declared.ended.BareEnded.{BareEnded}
use Rattle.events.specs.declared.ended.BareEnding.{BareEnding}
use Rattle.events.specs.declared.ended.BareEnding.TheVariants as bare

-- with these results, where it is a return
abbrev pub ending_with : BareEnding → List Value → Ending
ending_with bare.Return values = Return values
ending_with (bare.Trap code) values = Trap code
ending_with bare.Depth values = Depth
ending_with bare.Spent values = Spent

abbrev pub ended_with : BareEnded → List Value → Ended
ended_with ended values = record { ending = ending_with ended.ending values; used = ended.used }

-- how many results a function of this type has
abbrev pub result_count_of : Option FuncType → ℕ
result_count_of None = 0
result_count_of (Some type) = length type.results

abbrev pub result_count : Contents → (function : ℕ) → ℕ
result_count m function = result_count_of (type_of_function m function)

-- a call of this function, whose results stand in the first of these places, where it returned
abbrev pub ended_in : Contents → (function : ℕ) → BareEnded → (places : List Value) → Ended
ended_in m function ended places = ended_with ended (take (result_count m function) places)
