use Rattle.serve.proofs.Words.{ap, arith, CrewView, WorkerView, ◌∙◌, ◌≡◌}
use Rattle.serve.proofs.Gathering.{first_and_rest, one_gathered}
use Rattle.serve.proofs.NumberedLists.{shorter_by}
use Rattle.serve.proofs.crew.gather_seats.Goals as goal

pub loop-seat-preserved : goal.loop-seat-preserved
loop-seat-preserved c =
    let kept = c.loop-seat.invariant in
    let rest = c.loop-seat.seat-iterator.rest.items in
    let more = c.next.new.self.rest.items in
    let seat = c.in-Some.seat in
    let split = c.in-Some.ensures.steps.0 in
    let taken = c.take.ensures in
    let shorter = shorter_by rest seat more split in
    let fewer = taken.missing in
    let few = kept.2 in (
      (first_and_rest (λ (s : WorkerView). s.claims ≡ c.args.claims.now.id) rest more seat split kept.0).1,
      ap (λ (s : CrewView). s.claims) taken.taken ∙ kept.1,
      omega arith,
      taken.once,
      one_gathered rest more seat c.loop-seat.crew.started c.take.new.crew.started _ split (ap (λ (s : CrewView). s.started) taken.taken) kept.4,
    )
