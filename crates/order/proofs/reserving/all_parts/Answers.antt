use Rattle.order.proofs.Words.{Loaded, subst, ◌∙◌}
use Rattle.interp.specs.Machines.{MachineFits}
use Rattle.order.proofs.reserving.all_parts.Goals as goal

pub returns-clause-fits : goal.returns-clause-fits
returns-clause-fits g c =
    subst (λ (l : Loaded). MachineFits l.contents c.in_ok-machine.machine) (c.valid.ensures.same ∙ c.deref-2.ensures) c.in_ok-machine.ensures.fits
