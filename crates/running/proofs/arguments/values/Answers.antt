use Rattle.std.proofs.Common.{◌≡◌, ◌<◌, List, ℕ, Some, length, map, ap, ◌∙◌, sym, arith, string_bytes}
use Rattle.std.specs.Prelude.{slice_get}
use Rattle.std.specs.Option.{option_map}
use Rattle.std.proofs.lemmas.Option.{slice_get-map, slice_get-get_or}
use Rattle.std.proofs.lemmas.List.{length-map}
use Rattle.running.proofs.WordsSpell.{one_more}
use Rattle.running.proofs.arguments.values.Goals as goal

pub loop-index-preserved : goal.loop-index-preserved
loop-index-preserved c =
    let k = c.loop-index.index in
    let words = c.args.words.now in
    let typed : k < length c.args.types.now = omega arith in
    let worded : k < length words = omega arith in
    let texts : List (List ℕ) = map string_bytes words in
    let text : slice_get texts k ≡ Some (string_bytes c.index-words-index.result) =
    slice_get-map string_bytes words k ∙ ap (option_map string_bytes) (slice_get-get_or words k c.index-words-index.result worded ∙ ap (λ w. Some w) (sym c.index-words-index.is)) in
    one_more c.args.types.now texts c.loop-index.values.items c.push.new.self.items k c.in-Some.value _ _ typed (rw (length-map words string_bytes) worded)
    (slice_get-get_or c.args.types.now k _ typed) (rw c.as_str-word.ensures.value text) c.loop-index.invariant c.in-Some.ensures.typed c.in-Some.ensures.spelled c.in_ok-push.ensures.items
