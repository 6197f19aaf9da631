use Rattle.order.proofs.Words.{Loaded, Some, subst, type_of_entry, type_of_function, Work, ◌≡◌}
use Rattle.order.proofs.order.Order.work.Goals as goal

pub call_work-requires-clause-typed : goal.call_work-requires-clause-typed
call_work-requires-clause-typed c = subst (λ (l : Loaded). type_of_function l.contents c.in-Some.function ≡ Some (type_of_entry Work)) c.deref.ensures c.in-Some.ensures.typed
