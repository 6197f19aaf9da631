use Rattle.handles.proofs.Words.{ActiveLists, ap, arith, list, lists_of, part, PartsRise, PlaceSet, set_of_sorted, subst, sym, with_list, ◌∙◌, ◌≡◌}
use Rattle.std.specs.FinMap as set
use Rattle.handles.proofs.RisingLists.{found, gap_found, rises-insert, set-insert, set-insert_present}
use Rattle.handles.proofs.Places.{places_total, same_place}
use Rattle.handles.proofs.Sets.{list_of_part, part_rises, parts_rise, lists_of-with_part, with_own_list, one_more}
use Rattle.handles.proofs.sorted.Lists.insert.Goals as goal

pub insert-requires-clause-room : goal.insert-requires-clause-room
insert-requires-clause-room c =
    let kind = c.args.kind in
    let p = c.self.inside.places in
    let rises = part_rises kind p c.self.invariant in
    let gap = gap_found places_total _ _ c.args.place c.in-Err.at c.part.ensures.value rises c.in-Err.ensures.bound c.in-Err.ensures.position in
    let room = rw (← c.self.view_is) at c.requires.room in
    omega (arith, room, one_more kind p c.args.place c.in-Err.at c.requires.listed c.self.invariant gap)

pub invariant_of-self : goal.invariant_of-self
invariant_of-self c =
    let kind = c.args.kind in
    let p = c.self.inside.places in
    let rises = part_rises kind p c.self.invariant in
    let gap = gap_found places_total _ _ c.args.place c.in-Err.at c.part.ensures.value rises c.in-Err.ensures.bound c.in-Err.ensures.position in
    subst PartsRise (sym c.insert.ensures) (parts_rise kind p _ c.self.invariant (rises-insert places_total _ _ _ rises gap))

pub returns-in-Err : goal.returns-in-Err
returns-in-Err c =
    let kind = c.args.kind in
    let p = c.self.inside.places in
    let rises = part_rises kind p c.self.invariant in
    let gap = gap_found places_total _ _ c.args.place c.in-Err.at c.part.ensures.value rises c.in-Err.ensures.bound c.in-Err.ensures.position in
    let same = list_of_part kind p c.requires.listed in
    ap lists_of c.insert.ensures ∙ lists_of-with_part kind p _
    ∙ ap (λ (s : PlaceSet). with_list kind s (lists_of p)) (set-insert places_total _ _ _ rises gap ∙ ap (λ (s : PlaceSet). set.insert s c.args.place tt) (sym same))
    ∙ ap (λ (l : ActiveLists). with_list kind (set.insert (list kind l) c.args.place tt) l) c.self.view_is

pub returns-in-Ok : goal.returns-in-Ok
returns-in-Ok c =
    let kind = c.args.kind in
    let p = c.self.inside.places in
    let rises = part_rises kind p c.self.invariant in
    let at = found places_total same_place _ _ _ _ c.part.ensures.value c.in-Ok.ensures.bound c.in-Ok.ensures.ok in
    let same = list_of_part kind p c.requires.listed in
    let kept : set_of_sorted (part kind p) ≡ set.insert (set_of_sorted (part kind p)) c.args.place tt = set-insert_present places_total same_place _ _ _ rises at.0 at.1 in
    rw c.self.view_is at (sym (with_own_list kind (lists_of p)) ∙ ap (λ (s : PlaceSet). with_list kind s (lists_of p)) (same ∙ kept ∙ ap (λ (s : PlaceSet). set.insert s c.args.place tt) (sym same)))
