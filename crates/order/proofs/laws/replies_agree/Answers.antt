use Rattle.order.proofs.RepliesAgree.{agree}
use Rattle.order.proofs.laws.replies_agree.Goals as goal

pub returns : goal.returns
returns c = agree
