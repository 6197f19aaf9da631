use Rattle.schedules.proofs.StepsByAccess.{step_split, step_whole}
use Rattle.schedules.proofs.laws.step_by_accesses.Goals as goal

pub returns : goal.returns
returns c g old did made new = (
  λ h. let it = step_split g old did made new h in record { accesses = it.0; steps = it.1; leads = it.2 },
  λ h. step_whole g old h.accesses did made new.state new.store new.shared old.shared h.steps h.leads,
)
