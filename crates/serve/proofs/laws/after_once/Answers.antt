use Rattle.serve.proofs.AfterOnce.{served_once}
use Rattle.serve.proofs.ByWorkers.{joint_once}
use Rattle.serve.proofs.laws.after_once.Goals as goal

pub returns-clause-served : goal.returns-clause-served
returns-clause-served c g served h = served_once c.after_once.ensures.once c.after_once.ensures.own c.after_once.ensures.last g served h

pub returns-clause-joint : goal.returns-clause-joint
returns-clause-joint c loaded serving served crew run k s events served_at at =
    joint_once c.after_once.ensures.once c.after_once.ensures.own c.after_once.ensures.last loaded serving served crew run k s events served_at at
