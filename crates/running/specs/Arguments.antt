-- The arguments of a call, as words.
use Rattle.std.specs.Prelude.{◌≡◌, ℕ, ◌^◌, List, [], ◌∷◌}
use Rattle.std.specs.Str.Parse.{digits_value}
use Rattle.syntax.specs.declared.types.Value.{Value}
use Rattle.syntax.specs.declared.types.Value.TheVariants.{I32, I64}
use Rattle.words.specs.Numbers.{IsDecimalBelow}

-- the text spells the value as an unsigned decimal number
abbrev pub SpellsValue : List ℕ → Value → Type 0
SpellsValue text (I32 n) = IsDecimalBelow (2 ^ 32) text × (n ≡ digits_value 10 text)
SpellsValue text (I64 n) = IsDecimalBelow (2 ^ 64) text × (n ≡ digits_value 10 text)

-- each text spells its value
abbrev pub AllSpell : List (List ℕ) → List Value → Type 0
AllSpell [] [] = Unit {0}
AllSpell (text ∷ texts) (value ∷ values) = SpellsValue text value × AllSpell texts values
AllSpell _ _ = ⊥
