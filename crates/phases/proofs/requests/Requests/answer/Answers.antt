use Rattle.phases.proofs.Words.{Answered, ap, end_of, eqb-true, find, has_number, in_stage, is_settled, IsOneOf, List, map, order_of, refl, Request, Requests}
use Rattle.phases.proofs.Words.{set, Some, sym, true, ◌∙◌, ◌≡◌}
use Rattle.phases.proofs.RequestsRise.{Staged, staged_there, same_item}
use Rattle.phases.proofs.requests.Requests.answer.Goals as goal
use Rattle.phases.proofs.requests.Requests.answer.Goals.{then-is_settled-via-then-is_settled, then-is_settled-via-else-is_settled+then-not-is_for}
use Rattle.std.specs.Vec.{with_item}
use Rattle.std.proofs.lemmas.List.{set-get_or}
use Rattle.phases.specs.declared.requests.Requests.TheInside.{Inside}
use Rattle.phases.specs.contracts.requests.Requests.{the_view}

there : (c : goal.After-self-2-1) → Staged c.self.inside.items.items c.self.inside.last (has_number c.args.reply.order.request) c.in-Some.at
    c.index_mut-item.result.now c.answer.new.self (Answered (end_of c.args.reply.outcome))
there c =
    staged_there c.self.inside.items.items c.self.inside.last c.self.invariant (has_number c.args.reply.order.request) c.as_slice.result.now
    c.in-Some.at c.index_mut-item.result.now c.answer.new.self (Answered (end_of c.args.reply.outcome))
    c.as_slice.ensures.value c.in-Some.ensures.some c.index_mut-item.ensures.value (rw c.into_outcome.ensures at c.answer.ensures) (rw (is_it c) c.args.reply.computed) where
      is_it : (c : goal.After-self-2-1) → c.index_mut-item.result.now.order ≡ order_of c.args.reply.order
      is_it c = c.if-not-is_for.ensures.0 refl

pub invariant_of-self-2 : goal.invariant_of-self-2
invariant_of-self-2 c = (there c).kept

pub returns-clause-taken : goal.returns-clause-taken
returns-clause-taken c = rw (← c.self.view_is) (record {
  request = c.index_mut-item.result.now;
  outstanding = (there c).there;
  order = c.if-not-is_for.ensures.0 refl;
  unsettled = sym c.is_settled.ensures ∙ c.if-is_settled.false;
})

pub returns-clause-answered : goal.returns-clause-answered
returns-clause-answered c =
    rw (← c.self.view_is)
    (ap (λ (ys : List Request). let rs : Requests = record { outstanding = ys; last = c.self.inside.last } in rs)
    ((there c).changed ∙ ap (λ n. map (in_stage n (Answered (end_of c.args.reply.outcome))) c.self.inside.items.items) (eqb-true _ _ (there c).passes)))

put_back : (c : goal.Joined-then-is_settled) → (inside : Inside)
    → inside ≡ record { items = with_item c.self.inside.items c.in-Some.at c.index_mut-item.result.now; last = c.self.inside.last }
    → the_view inside ≡ c.args.self.now
put_back c inside is =
    rw is
    (ap (λ (ys : List Request). let rs : Requests = record { outstanding = ys; last = c.self.inside.last } in rs)
    (ap (set c.self.inside.items.items c.in-Some.at) c.index_mut-item.ensures.value ∙ set-get_or c.self.inside.items.items c.in-Some.at c.index_mut-item.result.now)
    ∙ c.self.view_is)

the_one : (c : goal.Joined-then-is_settled) → (one : IsOneOf (order_of c.args.reply.order) c.args.self.now) → one.request ≡ c.index_mut-item.result.now
the_one c one =
    let place =
    same_item (has_number c.args.reply.order.request) c.self.inside.items.items c.as_slice.result.now c.in-Some.at c.index_mut-item.result.now
    c.as_slice.ensures.value c.in-Some.ensures.some c.index_mut-item.ensures.value in
    let other : find (has_number c.args.reply.order.request) c.self.inside.items.items ≡ Some one.request = rw (← c.self.view_is) at one.outstanding in
    cc

settled_one : (c : goal.Joined-then-is_settled) → true ≡ is_settled c.index_mut-item.result.now.stage → IsOneOf (order_of c.args.reply.order) c.args.self.now → ⊥
settled_one c settled one =
    let same : is_settled one.request.stage ≡ is_settled c.index_mut-item.result.now.stage = ap (λ r. is_settled r.stage) (the_one c one) in
    let open_one = one.unsettled in
    cc

other_one : (c : goal.Joined-then-is_settled) → (c.index_mut-item.result.now.order ≡ order_of c.args.reply.order → ⊥) → IsOneOf (order_of c.args.reply.order) c.args.self.now → ⊥
other_one c apart one = apart (sym (ap (λ r. r.order) (the_one c one)) ∙ one.order)

pub returns-then-is_settled-clause-refused : goal.returns-then-is_settled-clause-refused
returns-then-is_settled-clause-refused c =
    elim c.then-is_settled.branch [
      | then-is_settled-via-then-is_settled w ↦ (refl, put_back c c.then-is_settled.self-inside w.self-inside-is, settled_one c w.if-is_settled.ensures)
      | then-is_settled-via-else-is_settled+then-not-is_for w ↦ (
        refl,
        put_back c c.then-is_settled.self-inside w.self-inside-is,
        other_one c (λ same. let holds = w.is_for.ensures.1 same in let fails = w.if-not-is_for.true in cc),
      )
    ]
