use Rattle.desk.proofs.Steps.{begins}
use Rattle.desk.proofs.Desk.new.Goals as goal

pub of_words-requires : goal.of_words-requires
of_words-requires c = begins c.args.loop_no
