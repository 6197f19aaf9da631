-- What a thread that keeps its promise gives.
use Rattle.serve.proofs.Words.{arc_value, BoardView, ClaimsView, IsThreadOf, IsWorkerThreadOf, LoopEnds, LoopView, PassView, Served, setting_at, Ticket, WorkerEnds}
use Rattle.serve.proofs.Words.{WorkerView, ℕ}
use Rattle.serve.specs.declared.crew.ThreadOfWorker.{ThreadOfWorker}
use Rattle.serve.specs.declared.plan.ThreadOfLoop.{ThreadOfLoop}
use Rattle.serve.specs.declared.plan.ServicePlan.{ServicePlan}

module _ {J : Type 0} (ticket : J → Ticket) where
  pub loop_ended : (plan : ServicePlan) (board : BoardView) (claims : ClaimsView) (k : ℕ) (promise : ThreadOfLoop J) (s : Served) (p : PassView J) (q : LoopView) → IsThreadOf plan board claims k promise
      → LoopEnds ticket promise.board.now promise.claims.now.id (setting_at (arc_value promise.plan.now.linked) promise.plan.now.serving promise.loop_no) s p q
      → LoopEnds ticket board claims.id (setting_at (arc_value plan.linked) plan.serving k) s p q
  loop_ended plan board claims k promise s p q h ended =
      rw (h.board_is, h.claims_are, h.plan_is, h.number) at ended

  pub worker_ended : (board : BoardView) (claims : ClaimsView) (w : ℕ) (promise : ThreadOfWorker J) (p : PassView J) (seat : WorkerView) → IsWorkerThreadOf board claims w promise
      → WorkerEnds ticket promise.board.now promise.claims.now promise.worker_no p seat → WorkerEnds ticket board claims w p seat
  worker_ended board claims w promise p seat h ended =
      rw (h.board_is, h.claims_are, h.number) at ended
