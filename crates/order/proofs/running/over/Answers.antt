use Rattle.order.proofs.Words.{ComputesTo, end_of_run, EndsAs, Halt, Option, order_of, subst, sym, WorkHost, [], ◌∷◌}
use Rattle.interp.specs.Lent.{ending_with}
use Rattle.order.proofs.running.over.Goals as goal

pub tell-requires-clause-computes : goal.tell-requires-clause-computes
tell-requires-clause-computes c end reads =
    (c.requires.computes end (subst (λ (h : WorkHost). EndsAs (end_of_run (ending_with c.args.ending (c.args.value ∷ []))) h.reply.items end) c.into_parts-stack.ensures.host reads)).0

pub tell-requires-clause-stops : goal.tell-requires-clause-stops
tell-requires-clause-stops c end reads =
    subst (λ (stop : Option Halt). ComputesTo (order_of c.args.order) end c.args.used stop) (sym c.into_parts-stack.ensures.stack)
    (c.requires.computes end (subst (λ (h : WorkHost). EndsAs (end_of_run (ending_with c.args.ending (c.args.value ∷ []))) h.reply.items end) c.into_parts-stack.ensures.host reads)).1
