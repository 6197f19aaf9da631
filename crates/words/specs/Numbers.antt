-- Numbers on a command line.
use Rattle.std.specs.Prelude.{◌≡◌, ℕ, ◌<◌, List, Option, Some, None}
use Rattle.std.specs.Str.Parse.{IsNumeral, digits_value}

-- the text is decimal digits alone, and their number is below the bound
abbrev pub IsDecimalBelow : ℕ → List ℕ → Type 0
IsDecimalBelow bound text = IsNumeral 10 text × (digits_value 10 text < bound)

-- the number of such a text, and nothing for every other
abbrev pub ReadsBelow : ℕ → List ℕ → Option ℕ → Type 0
ReadsBelow bound text (Some n) = IsDecimalBelow bound text × (n ≡ digits_value 10 text)
ReadsBelow bound text None = ¬ IsDecimalBelow bound text
