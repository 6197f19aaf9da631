-- The arguments and results of a call, as numbers.
use Rattle.std.specs.Prelude.{ℕ, ◌^◌, nat_lt, List, [], ◌∷◌, length, map, replicate, Option, Some, None, if◌then◌else◌}
use Rattle.limits.specs.declared.TheConstants.{MAX_RESULTS}
use Rattle.syntax.specs.declared.types.ValType.{ValType}
use Rattle.syntax.specs.declared.types.ValType.TheVariants as type
use Rattle.syntax.specs.declared.types.Value.{Value}
use Rattle.syntax.specs.declared.types.Value.TheVariants.{I32, I64}
use Rattle.events.specs.declared.ended.Ended.{Ended}
use Rattle.events.specs.declared.ended.Ending.{Ending}
use Rattle.events.specs.declared.ended.Ending.TheVariants.{Return}
use Rattle.wasmloop_c.specs.Calls.{copied}
use Rattle.wasmloop_c.specs.Numbers.{ending_numbers}
use Rattle.wasmloop_c.specs.declared.inspect.Number.{Number}
use Rattle.wasmloop_c.specs.declared.ended.CallEnded.{CallEnded}

-- a number of 64 bits as a value of a type: an i32 is below 2^32
abbrev pub typed : ValType → ℕ → Option Value
typed type.I32 n = if nat_lt n (2 ^ 32) then Some (I32 n) else None
typed type.I64 n = Some (I64 n)

abbrev pub both : Option Value → Option (List Value) → Option (List Value)
both None values = None
both (Some value) None = None
both (Some value) (Some values) = Some (value ∷ values)

-- as many numbers as types, each as a value of its type
abbrev pub values_of : List ValType → List ℕ → Option (List Value)
values_of [] [] = Some []
values_of [] (n ∷ numbers) = None
values_of (t ∷ types) [] = None
values_of (t ∷ types) (n ∷ numbers) = both (typed t n) (values_of types numbers)

abbrev pub number_of_value : Value → ℕ
number_of_value (I32 n) = n
number_of_value (I64 n) = n

abbrev pub results_of : Ending → List Value
results_of (Return values) = values
results_of _ = []

-- how a call ended, in numbers: its results are followed by zeros
abbrev pub told_in : ℕ × ℕ → (used : ℕ) → List Value → CallEnded
told_in numbers used results = record {
  ending = numbers.0;
  trap = numbers.1;
  results = length results;
  used = used;
  result = copied (map number_of_value results) (replicate MAX_RESULTS 0);
}

abbrev pub call_numbers : Ended → CallEnded
call_numbers e = told_in (ending_numbers e.ending) e.used (results_of e.ending)

-- a value, with the number of its type
abbrev pub value_numbers : Value → Number
value_numbers (I32 n) = record { value_type = 1; zero = 0; number = n }
value_numbers (I64 n) = record { value_type = 2; zero = 0; number = n }
