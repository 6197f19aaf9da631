use Rattle.std.proofs.Common.{◌≡◌, ◌≤◌, ◌<◌, Bor, List, ℕ, Option, Some, None, length, map, slice_get, refl, sym, ap, ◌∙◌, arith}
use Rattle.std.proofs.lemmas.Option.{slice_get-map, slice_get_past, slice_get_read}
use Rattle.std.proofs.lemmas.Bool.Decides.{nat_tests}
use Rattle.std.specs.Option.{option_map, option_and_then}
use Rattle.places.specs.OperationNames.{name_at}
use Rattle.places.proofs.operations.name_among.Goals as goal

abbrev text_of : Option (Bor (List ℕ)) → Option (List ℕ)
text_of o = option_map (λ (name : Bor (List ℕ)). name.now) o

named : (names : List (Option (Bor (List ℕ)))) (i n : ℕ) (o : Option (Option (Bor (List ℕ)))) → slice_get names i ≡ o → i ≡ n
    → option_and_then (λ (name : Option (List ℕ)). name) (option_map text_of o) ≡ name_at (map text_of names) n
named names i n o e same =
    sym (ap (λ k. name_at (map text_of names) k) (sym same) ∙ ap (option_and_then (λ (name : Option (List ℕ)). name)) (slice_get-map text_of names i ∙ ap (option_map text_of) e))

pub returns-in-None : goal.returns-in-None
returns-in-None c =
    let test = c.in-None.ensures.lookup.0 in
    let out : length c.args.names.now ≤ c.from.result = grind (arith, nat_tests) in
    named c.args.names.now c.from.result c.args.number None (slice_get_past c.args.names.now c.from.result out) c.from.ensures

pub returns-in-Some : goal.returns-in-Some
returns-in-Some c =
    let test = c.in-Some.ensures.lookup.0 in
    let within : c.from.result < length c.args.names.now = grind (arith, nat_tests) in
    named c.args.names.now c.from.result c.args.number (Some c.in-Some.name.now)
    (slice_get_read c.args.names.now _ c.from.result c.in-Some.name.now refl within c.in-Some.ensures.lookup.1) c.from.ensures
