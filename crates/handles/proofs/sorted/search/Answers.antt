use Rattle.handles.proofs.Words.{arith, is_lt, length, place_cmp, true, ◌+◌, ◌-◌, ◌∙◌, ◌≡◌}
use Rattle.std.proofs.lemmas.Bool.Decides.{nat_tests}
use Rattle.handles.proofs.Searches.{is_less, past_all}
use Rattle.handles.proofs.sorted.search.Goals as goal

pub returns-then-is_lt-clause-position : goal.returns-then-is_lt-clause-position
returns-then-is_lt-clause-position c = λ rises.
    let xs = c.args.places.now in
    let some : length xs - 1 + 1 ≡ length xs = let empty = c.is_empty.ensures in let not = c.if-is_empty.false in grind (arith, nat_tests) in
    let tested : is_lt c.stands-2.result ≡ true = let is = c.is_lt.ensures in let holds = c.if-is_lt.true in cc in
    past_all (λ y. place_cmp y c.args.place.now) xs (length xs - 1) some (λ d. c.stands-2.ensures d ∙ is_less c.stands-2.result tested) rises
