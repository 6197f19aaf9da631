use Rattle.reduction.proofs.TableKept.{table_stays, table_stays_outside}
use Rattle.reduction.proofs.laws.table_stays.Goals as goal

pub returns : goal.returns
returns c = record { runs = table_stays; calls = table_stays_outside }
