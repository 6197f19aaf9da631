use Rattle.handles.proofs.Words.{ap, from_sorted, lists_of, place_cmp, set_of_sorted, sym, [], ◌∙◌, ◌≡◌}
use Rattle.std.specs.FinMap.{empty, get-from_sorted, get-empty, same_map}
use Rattle.handles.proofs.Places.{places_total, same_place}
use Rattle.handles.proofs.sorted.Lists.new.Goals as goal

pub returns : goal.returns
returns c =
    let none : set_of_sorted [] ≡ empty = same_map places_total same_place (from_sorted []) empty (λ q. get-from_sorted place_cmp [] q tt ∙ sym (get-empty place_cmp q)) in
    ap lists_of c.in_ok-places.ensures ∙ (λ t. record { timers = none t; idle = none t; check = none t })
