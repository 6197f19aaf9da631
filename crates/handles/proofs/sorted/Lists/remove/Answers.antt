use Rattle.handles.proofs.Words.{ActiveLists, ap, list, lists_of, part, PartsRise, PlaceSet, set_of_sorted, subst, sym, with_list, ◌∙◌, ◌≡◌}
use Rattle.std.specs.FinMap as set
use Rattle.handles.proofs.RisingLists.{found, gap_found, rises-remove, set-remove, set-remove_absent}
use Rattle.handles.proofs.Places.{places_total, same_place}
use Rattle.handles.proofs.Sets.{list_of_part, part_rises, parts_rise, lists_of-with_part, with_own_list}
use Rattle.handles.proofs.sorted.Lists.remove.Goals as goal

pub invariant_of-self : goal.invariant_of-self
invariant_of-self c =
    let kind = c.args.kind in
    let p = c.self.inside.places in
    let rises = part_rises kind p c.self.invariant in
    let at = found places_total same_place _ _ _ _ c.part.ensures.value c.in-Ok.ensures.bound c.in-Ok.ensures.ok in
    subst PartsRise (sym c.remove.ensures) (parts_rise kind p _ c.self.invariant (rises-remove places_total _ _ _ rises at.0 at.1))

pub returns-in-Ok : goal.returns-in-Ok
returns-in-Ok c =
    let kind = c.args.kind in
    let p = c.self.inside.places in
    let rises = part_rises kind p c.self.invariant in
    let at = found places_total same_place _ _ _ _ c.part.ensures.value c.in-Ok.ensures.bound c.in-Ok.ensures.ok in
    let same = list_of_part kind p c.requires in
    ap lists_of c.remove.ensures ∙ lists_of-with_part kind p _
    ∙ ap (λ (s : PlaceSet). with_list kind s (lists_of p)) (set-remove places_total same_place _ _ _ rises at.0 at.1 ∙ ap (λ (s : PlaceSet). set.remove s c.args.place) (sym same))
    ∙ ap (λ (l : ActiveLists). with_list kind (set.remove (list kind l) c.args.place) l) c.self.view_is

pub returns-in-Err : goal.returns-in-Err
returns-in-Err c =
    let kind = c.args.kind in
    let p = c.self.inside.places in
    let rises = part_rises kind p c.self.invariant in
    let gap = gap_found places_total _ _ _ _ c.part.ensures.value rises c.in-Err.ensures.bound c.in-Err.ensures.position in
    let same = list_of_part kind p c.requires in
    let kept : set_of_sorted (part kind p) ≡ set.remove (set_of_sorted (part kind p)) c.args.place = set-remove_absent places_total same_place _ _ _ rises gap in
    rw c.self.view_is at (sym (with_own_list kind (lists_of p)) ∙ ap (λ (s : PlaceSet). with_list kind s (lists_of p)) (same ∙ kept ∙ ap (λ (s : PlaceSet). set.remove s c.args.place) (sym same)))
