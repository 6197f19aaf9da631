-- What a loop keeps from step to step.
use Rattle.std.specs.Prelude.{◌≡◌, ◌<◌, ◌≤◌, true, All, codes}
use Rattle.limits.specs.declared.TheConstants.{MAX_DEPTH, MAX_REQUESTS}
use Rattle.syntax.specs.Loaded.{Loaded}
use Rattle.instance.specs.Store.{Store}
use Rattle.instance.specs.Storing.{IsStoreOf}
use Rattle.order.specs.Work.{WorkOrder}
use Rattle.order.specs.Runnable.{CanRun}
use Rattle.phases.specs.PhaseList.{exports}
use Rattle.phases.specs.Requests.{Requests}
use Rattle.phases.specs.Roster.{callbacks_of}
use Rattle.phases.specs.Ready.{AreReady}
use Rattle.phases.specs.State.{Setting, State}

-- an order of the loop: it has the loop's number and a slot below MAX_REQUESTS, it can be run, and what comes of it can
-- be reported
pub record IsOrderOf (g : Setting) (o : WorkOrder) : Type 0 where
  pub loop_no : o.loop_no ≡ g.loop_no
  pub slot : o.slot < MAX_REQUESTS
  pub runs : CanRun o
  pub heard : exports g.loaded.contents (codes "uv_after_work") ≡ true

abbrev pub AreOrdersOf : Setting → Requests → Type 0
AreOrdersOf g rs = All (λ r. IsOrderOf g r.order) rs.outstanding

-- The module is the setting's, calls may stand as deep as a machine has room for, the store is the module's, callbacks
-- are its functions, what is listed is ready, and what is outstanding are orders of
-- the loop.
pub record KeepsLoop (l : Loaded) (g : Setting) (s : State) (t : Store) : Type 0 where
  pub same : l ≡ g.loaded
  pub depth : (1 ≤ g.depth) × (g.depth ≤ MAX_DEPTH)
  pub store : IsStoreOf g.loaded.contents t
  pub callbacks : s.roster.callbacks ≡ callbacks_of g.loaded.contents
  pub ready : AreReady g.loaded.contents s
  pub orders : AreOrdersOf g s.requests
