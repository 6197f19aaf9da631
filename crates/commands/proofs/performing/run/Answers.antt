use Rattle.commands.proofs.Done.{both, at_refused, nothing_ended}
use Rattle.commands.proofs.performing.run.Goals as goal

pub returns-in-Check : goal.returns-in-Check
returns-in-Check g c =
    rw (c.in-Check.is, ← c.as_str.ensures.value) record {
      done = both c.check.result _ _ c.check.ensures.accepted c.check.ensures.told;
      refused = at_refused c.check.result _ c.check.ensures.done c.check.ensures.refused;
      ended = nothing_ended c.check.result;
    }
