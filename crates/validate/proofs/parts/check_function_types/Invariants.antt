use Rattle.validate.proofs.Words.{All, IsSome, slice_get, take}
use Rattle.validate.proofs.parts.check_function_types.Given as goal

abbrev pub invariant-loop-func : goal.invariant-loop-func
invariant-loop-func l = All (λ f. IsSome (slice_get l.contents.types f.type_index)) (take l.func-index l.contents.functions)
