use Rattle.reduction.proofs.OneRun.{one_run}
use Rattle.reduction.proofs.OneCall.{one_call, one_invocation}
use Rattle.interp.proofs.laws.one_run.Goals as goal

pub returns : goal.returns
returns g c = record {
  runs = λ see determined m depth. one_run m depth see g.H.Host.moves determined;
  calls = λ see determined m depth. one_call m depth see g.H.Host.moves determined;
  answers = λ see determined. one_invocation see g.H.Host.moves determined;
}
