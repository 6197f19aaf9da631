-- What a thread has promised.
use Rattle.std.specs.Prelude.{◌≡◌, ℕ}
use Rattle.std.specs.Arc.{arc_value}
use Rattle.board.specs.Boards.{BoardView}
use Rattle.claims.specs.Views.{ClaimsView}
use Rattle.phases.specs.State.{Setting}
use Rattle.serve.specs.declared.crew.ThreadOfWorker.{ThreadOfWorker}
use Rattle.serve.specs.declared.plan.ThreadOfLoop.{ThreadOfLoop}
use Rattle.serve.specs.declared.plan.ServicePlan.{ServicePlan}
use Rattle.serve.specs.Histories.{setting_at}

-- the setting of the loop of this number
abbrev pub planned : ServicePlan → (loop_no : ℕ) → Setting
planned plan loop_no = setting_at (arc_value plan.linked) plan.serving loop_no

-- that what comes of it is said of the loop of this number
pub record IsThreadOf {J : Type 0} (plan : ServicePlan) (board : BoardView) (claims : ClaimsView) (loop_no : ℕ) (promise : ThreadOfLoop J) : Type 0 where
  pub plan_is : promise.plan.now ≡ plan
  pub board_is : promise.board.now ≡ board
  pub claims_are : promise.claims.now ≡ claims
  pub number : promise.loop_no ≡ loop_no

-- or of the worker of this number
pub record IsWorkerThreadOf {J : Type 0} (board : BoardView) (claims : ClaimsView) (worker_no : ℕ) (promise : ThreadOfWorker J) : Type 0 where
  pub board_is : promise.board.now ≡ board
  pub claims_are : promise.claims.now ≡ claims
  pub number : promise.worker_no ≡ worker_no
