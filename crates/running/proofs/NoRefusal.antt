-- What stands in the way of a command refuses no module.
use Rattle.std.proofs.Common.{◌≡◌}
use Rattle.files.specs.declared.fault.IoFault.{IoFault}
use Rattle.files.specs.declared.fault.IoFault.TheVariants as fault
use Rattle.running.specs.declared.status.ExitStatus.TheVariants as status
use Rattle.running.specs.Statuses.{status_of_io}

pub refuses_none : (f : IoFault) → status_of_io f ≡ status.Refused → ⊥
refuses_none fault.Memory is = cc
refuses_none _ is = cc
