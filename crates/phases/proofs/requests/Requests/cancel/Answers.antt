use Rattle.phases.proofs.Words.{ap, BUSY, Cancelled, eqb-true, has_number, in_stage, INVALID, List, map, Pending, refl, Request, Requests, sym, true, Unknown}
use Rattle.phases.proofs.Words.{◌∙◌}
use Rattle.phases.specs.declared.stage.CancelState.TheVariants as cancel_state
use Rattle.phases.proofs.FoundCancels.{cancels_found}
use Rattle.phases.proofs.RequestsRise.{staged_there, same_item}
use Rattle.phases.proofs.requests.Requests.cancel.Goals as goal

pub invariant_of-self : goal.invariant_of-self
invariant_of-self g c =
    let there =
    staged_there c.self.inside.items.items c.self.inside.last c.self.invariant (has_number c.args.number) c.as_slice.result.now c.in-Some.at
    c.index_mut-request.result.now c.cancel-in-Pending.new.self Cancelled
    c.as_slice.ensures.value c.in-Some.ensures.some c.index_mut-request.ensures.value c.cancel-in-Pending.ensures tt in
    there.kept

pub returns-in-Unknown : goal.returns-in-Unknown
returns-in-Unknown g c =
    let place =
    same_item (has_number c.args.number) c.self.inside.items.items c.as_slice.result.now c.in-Some.at c.index.result.now
    c.as_slice.ensures.value c.in-Some.ensures.some c.index.ensures in
    cancels_found g.B.Shared.calls (c.args.self.now, c.args.shared.now) c.args.number INVALID (c.args.self.now, c.args.shared.now) c.index.result.now Unknown
    (rw (← c.self.view_is) place.1) (sym c.cancel_state.ensures ∙ c.in-Unknown.is) (refl, refl)

pub returns-in-Answered : goal.returns-in-Answered
returns-in-Answered g c =
    let place =
    same_item (has_number c.args.number) c.self.inside.items.items c.as_slice.result.now c.in-Some.at c.index.result.now
    c.as_slice.ensures.value c.in-Some.ensures.some c.index.ensures in
    cancels_found g.B.Shared.calls (c.args.self.now, c.args.shared.now) c.args.number BUSY (c.args.self.now, c.args.shared.now) c.index.result.now cancel_state.Answered
    (rw (← c.self.view_is) place.1) (sym c.cancel_state.ensures ∙ c.in-Answered.is) (refl, refl)

pub returns-else-not-cancel : goal.returns-else-not-cancel
returns-else-not-cancel g c =
    let items = c.self.inside.items.items in
    let place =
    same_item (has_number c.args.number) items c.as_slice.result.now c.in-Some.at c.index.result.now
    c.as_slice.ensures.value c.in-Some.ensures.some c.index.ensures in
    let there =
    staged_there items c.self.inside.last c.self.invariant (has_number c.args.number) c.as_slice.result.now c.in-Some.at
    c.index_mut-request.result.now c.cancel-in-Pending.new.self Cancelled
    c.as_slice.ensures.value c.in-Some.ensures.some c.index_mut-request.ensures.value c.cancel-in-Pending.ensures tt in
    rw (← c.self.view_is)
    (cancels_found g.B.Shared.calls (record { outstanding = items; last = c.self.inside.last }, c.args.shared.now) c.args.number 0 _
    c.index.result.now (Pending c.in-Pending.slot) place.1 (sym c.cancel_state.ensures ∙ c.in-Pending.is) (
      true,
      c.if-not-cancel.ensures,
      refl,
      ap (λ (ys : List Request). let rs : Requests = record { outstanding = ys; last = c.self.inside.last } in rs)
          (there.changed ∙ ap (λ n. map (in_stage n Cancelled) items) (eqb-true _ _ there.passes)),
    ))
