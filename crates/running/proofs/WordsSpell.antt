-- Words that spell values, one after another.
use Rattle.std.proofs.Common.{◌≡◌, ℕ, ◌+◌, ◌<◌, List, [], ◌∷◌, ◌++◌, length, map, take, Some, refl, ap, ◌∙◌, add-one}
use Rattle.std.specs.Prelude.{slice_get}
use Rattle.std.proofs.lemmas.Option.{get_or_from_slice_get}
use Rattle.std.proofs.lemmas.List.{map-append}
use Rattle.std.proofs.Math.Seq.{take-suc}
use Rattle.syntax.specs.declared.types.ValType.{ValType}
use Rattle.syntax.specs.declared.types.Value.{Value}
use Rattle.valid.specs.Typing.{type_of}
use Rattle.running.specs.Arguments.{SpellsValue, AllSpell}

spell_one_more : (texts : List (List ℕ)) (values : List Value) (text : List ℕ) (value : Value)
    → AllSpell texts values → SpellsValue text value → AllSpell (texts ++ text ∷ []) (values ++ value ∷ [])
spell_one_more [] [] text value all one = (one, tt)
spell_one_more [] (v ∷ values) text value all one = absurd all
spell_one_more (t ∷ texts) [] text value all one = absurd all
spell_one_more (t ∷ texts) (v ∷ values) text value all one = (all.0, spell_one_more texts values text value all.1 one)

-- one more of a list's front
one_longer : {A : Type 0} (xs : List A) (k : ℕ) (x : A) → k < length xs → slice_get xs k ≡ Some x → take (k + 1) xs ≡ take k xs ++ x ∷ []
one_longer xs k x within at =
    ap (λ (n : ℕ). take n xs) (add-one k) ∙ take-suc xs k x within ∙ ap (λ y. take k xs ++ y ∷ []) (get_or_from_slice_get xs k x x at)

-- one more value, of the next type and spelled by the next text
pub one_more : (types : List ValType) (texts : List (List ℕ)) (values longer : List Value) (k : ℕ) (value : Value) (type : ValType) (text : List ℕ)
    → k < length types → k < length texts → slice_get types k ≡ Some type → slice_get texts k ≡ Some text
    → (map type_of values ≡ take k types) × AllSpell (take k texts) values → type_of value ≡ type → SpellsValue text value
    → longer ≡ values ++ value ∷ [] → (map type_of longer ≡ take (k + 1) types) × AllSpell (take (k + 1) texts) longer
one_more types texts values longer k value type text kt kx et ex (typed, spelled) e s l =
    rw (l, one_longer types k type kt et, one_longer texts k text kx ex) (rw (map-append type_of values (value ∷ []), typed, e) refl, spell_one_more (take k texts) values text value spelled s)
