use Rattle.std.proofs.Common.{◌≡◌, ◌+◌}
use Rattle.claims.specs.Views.{AreNewWorkers}
use Rattle.claims.specs.Rule.{IsMaker}
use Rattle.claims.proofs.claims.Claims.seat_workers.Given as goal

abbrev pub invariant-loop-worker_no : goal.invariant-loop-worker_no
invariant-loop-worker_no l = record { own : l.maker.table_id ≡ l.self.id; kept : l.maker.me.1 ≡ l.fn.maker.me.1; made : IsMaker l.maker.me.0; hired : l.maker.me.0.hired ≡ l.worker_no + 1; seats : AreNewWorkers l.self.id l.worker_no l.seats.items }
