-- How many results a function has, and what ends without any.
use Rattle.interp.proofs.Words.{BareEnding, Contents, ending_with, FuncType, HasFunctionType, length, List, refl, result_count}
use Rattle.interp.proofs.Words.{Value, whole_ending, ℕ, [], ◌≡◌}
use Rattle.events.specs.declared.ended.Ending.TheVariants as ending
use Rattle.events.specs.declared.ended.BareEnding.TheVariants as bare

pub count_is : (m : Contents) (function : ℕ) (type : FuncType) → HasFunctionType m function type → result_count m function ≡ length type.results
count_is m function type h = rw (h.1, h.2) refl

pub without_results : (end : BareEnding) → ending_with end [] ≡ whole_ending end
without_results bare.Return = refl
without_results (bare.Trap code) = refl
without_results bare.Depth = refl
without_results bare.Spent = refl

-- what has not returned has none
pub none_with : (end : BareEnding) (values others : List Value) → (end ≡ bare.Return → ⊥) → ending_with end values ≡ ending_with end others
none_with bare.Return values others not = absurd (not refl)
none_with (bare.Trap code) values others not = refl
none_with bare.Depth values others not = refl
none_with bare.Spent values others not = refl

-- what ended as spent did so without any
pub spent_only : (end : BareEnding) (values : List Value) → ending_with end values ≡ ending.Spent → end ≡ bare.Spent
spent_only bare.Return values is = absurd (cc)
spent_only (bare.Trap code) values is = absurd (cc)
spent_only bare.Depth values is = absurd (cc)
spent_only bare.Spent values is = refl
