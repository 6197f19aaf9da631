-- What is known of a call under way, through a loan of its room.
use Rattle.resident.proofs.Words.{arc_value, call_underway, CallUnderway, IsSomeCall, subst, sym, ◌≡◌}
use Rattle.resident.specs.Inner.Going.{CallIsGoing}
use Rattle.resident.specs.declared.kept.InstanceRoom.{InstanceRoom}

module _ (lent kept : InstanceRoom) (same : lent ≡ kept) where
  pub going_through : CallIsGoing (arc_value kept.linked) kept.state kept.machine kept.place → CallIsGoing (arc_value lent.linked) lent.state lent.machine lent.place
  going_through = subst (λ (k : InstanceRoom). CallIsGoing (arc_value k.linked) k.state k.machine k.place) (sym same)

  pub viewed_through : (c : CallUnderway) → call_underway (arc_value kept.linked) kept.state kept.machine kept.place ≡ c
      → call_underway (arc_value lent.linked) lent.state lent.machine lent.place ≡ c
  viewed_through c = subst (λ (k : InstanceRoom). call_underway (arc_value k.linked) k.state k.machine k.place ≡ c) (sym same)

-- some call is this one, as contracts see it
pub some_of : (kept : InstanceRoom) (c : CallUnderway) → call_underway (arc_value kept.linked) kept.state kept.machine kept.place ≡ c
    → IsSomeCall (call_underway (arc_value kept.linked) kept.state kept.machine kept.place) → IsSomeCall c
some_of kept c is = subst (λ (x : CallUnderway). IsSomeCall x) is
