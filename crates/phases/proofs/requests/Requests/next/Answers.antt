use Rattle.phases.proofs.Words.{ap, Bool, find, HandedOut, is_open_stage, List, MatchOption, None, Option, option_map, Order, order_of, Request, Requests}
use Rattle.phases.proofs.Words.{slice_get, Some, WorkOrder, ◌≡◌}
use Rattle.phases.proofs.RequestsRise.{Staged, staged_there, same_item, found_passes}
use Rattle.phases.proofs.requests.Requests.next.Goals as goal

abbrev test : Request → Bool
test r = is_open_stage r.stage

found_at : (c : goal.After-index_mut-item) → (slice_get c.self.inside.items.items c.in_ok-at.at ≡ Some c.index_mut-item.result.now)
    × (find test c.self.inside.items.items ≡ Some c.index_mut-item.result.now)
found_at c =
    same_item test c.self.inside.items.items c.as_slice.result.now c.in_ok-at.at c.index_mut-item.result.now
    c.as_slice.ensures.value c.in_ok-at.ensures.some c.index_mut-item.ensures.value

pub hand_out-requires : goal.hand_out-requires
hand_out-requires c = found_passes test c.self.inside.items.items c.index_mut-item.result.now (found_at c).1

there : (c : goal.After-self-1) → Staged c.self.inside.items.items c.self.inside.last test c.in_ok-at.at c.index_mut-item.result.now c.hand_out.new.self HandedOut
there c =
    staged_there c.self.inside.items.items c.self.inside.last c.self.invariant test c.as_slice.result.now c.in_ok-at.at c.index_mut-item.result.now c.hand_out.new.self HandedOut
    c.as_slice.ensures.value c.in_ok-at.ensures.some c.index_mut-item.ensures.value c.hand_out.ensures.request tt

pub invariant_of-self : goal.invariant_of-self
invariant_of-self c = (there c).kept

matched : (o : Option Order) (w : WorkOrder) → MatchOption o ⊥ (λ x. order_of x ≡ w) → option_map order_of o ≡ Some w
matched None w h = absurd h
matched (Some x) w h = ap Some h

pub returns-clause-order : goal.returns-clause-order
returns-clause-order c =
    rw (← c.self.view_is, (there c).there) (matched c.hand_out.result c.index_mut-item.result.now.order c.hand_out.ensures.order)

pub returns-clause-requests : goal.returns-clause-requests
returns-clause-requests c =
    rw (← c.self.view_is, (there c).there)
    (ap (λ (ys : List Request). let rs : Requests = record { outstanding = ys; last = c.self.inside.last } in rs) (there c).changed)
