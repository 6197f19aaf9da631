use Rattle.interp.proofs.Slots.RunsOfContexts.{comes_so, ends_so}
use Rattle.interp.proofs.slot_laws.machine_does_the_reduction.Goals as goal

pub returns : goal.returns
returns c = record { comes = comes_so; stops = ends_so }
