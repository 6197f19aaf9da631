use Rattle.serve.proofs.joint.serve_joint.Goals as goal

pub returns-clause-each : goal.returns-clause-each
returns-clause-each g c =
    rw (c.new-plan.ensures.serving, c.new-plan.ensures.linked) at c.with_claims.ensures.each
