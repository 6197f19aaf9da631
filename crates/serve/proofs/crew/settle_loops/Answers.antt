use Rattle.serve.proofs.Words.{arith, subst, ◌∙◌}
use Rattle.serve.specs.Inner.Ends.{IsUnjoined}
use Rattle.serve.specs.Joint.{IsSettledWith}
use Rattle.serve.proofs.Gathering.{all_both, all_front, all_last}
use Rattle.serve.proofs.crew.settle_loops.Goals as goal

pub settle-crew-requires-clause-own : goal.settle-crew-requires-clause-own
settle-crew-requires-clause-own c =
    let kept = c.loop-seat.invariant in
    (kept.1, (all_last (IsUnjoined c.args.claims.now.id) c.loop-seat.seats.items c.pop.new.self.items c.in-Some.seat c.in-Some.ensures.items kept.0).0)

pub settle-crew-requires-clause-none : goal.settle-crew-requires-clause-none
settle-crew-requires-clause-none c =
    let kept = c.loop-seat.invariant in
    (all_last (IsUnjoined c.args.claims.now.id) c.loop-seat.seats.items c.pop.new.self.items c.in-Some.seat c.in-Some.ensures.items kept.0).1

pub loop-seat-preserved : goal.loop-seat-preserved
loop-seat-preserved c =
    let kept = c.loop-seat.invariant in
    let split = c.in-Some.ensures.items in
    let shown = c.settle-crew.ensures in
    let few = shown.missing in
    let none = kept.2 in (
      all_front (IsUnjoined c.args.claims.now.id) c.loop-seat.seats.items c.pop.new.self.items c.in-Some.seat split kept.0,
      shown.claims ∙ kept.1,
      omega arith,
      shown.started ∙ kept.3,
      λ front. kept.4 (all_both (IsSettledWith c.args.crew.started) c.loop-seat.seats.items c.pop.new.self.items c.in-Some.seat split front
          (subst (λ xs. IsSettledWith xs c.in-Some.seat) kept.3 (record { settled = shown.settled; found = shown.found none }))),
    )
