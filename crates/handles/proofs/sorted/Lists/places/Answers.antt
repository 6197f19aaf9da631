use Rattle.handles.proofs.Words.{ActiveLists, ap, keys, list, sym, ◌∙◌}
use Rattle.handles.proofs.RisingLists.{keys_of}
use Rattle.handles.proofs.Places.{places_total}
use Rattle.handles.proofs.Sets.{list_of_part, part_rises}
use Rattle.handles.proofs.sorted.Lists.places.Goals as goal

pub returns-clause-value : goal.returns-clause-value
returns-clause-value c =
    let kind = c.args.kind in
    let p = c.self.inside.places in
    c.part.ensures.value ∙ sym (keys_of places_total _ (part_rises kind p c.self.invariant)) ∙ ap keys (sym (list_of_part kind p c.requires))
    ∙ ap (λ (l : ActiveLists). keys (list kind l)) c.self.view_is
