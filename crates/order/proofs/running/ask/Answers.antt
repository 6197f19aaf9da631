use Rattle.order.proofs.Words.{arith, Computes, ComputesTo, ended_with, order_of, subst, ℕ, [], ◌+◌, ◌∷◌, ◌≡◌}
use Rattle.order.proofs.InSlices.{work_computes}
use Rattle.order.proofs.running.ask.Goals as goal

pub tell-requires-clause-computes : goal.tell-requires-clause-computes
tell-requires-clause-computes c end reads =
    let o = order_of c.args.order in
    let ran = c.ask-value.ensures.ran in
    let all : c.args.first + c.ask-value.result.0.used ≡ c.args.first = omega (arith, c.ask-value.ensures.free) in
    subst (λ (n : ℕ). Computes o end n) all
    (work_computes o c.args.machine.state ran.0 c.args.machine.host.reply.items c.ask-value.result.3.reply.items c.args.first c.args.function
    (ended_with c.ask-value.result.0 (c.ask-value.result.1 ∷ [])) c.ask-value.result.2 c.requires.started c.requires.exported ran.1 end reads).0

pub tell-requires-clause-stops : goal.tell-requires-clause-stops
tell-requires-clause-stops c end reads =
    let o = order_of c.args.order in
    let ran = c.ask-value.ensures.ran in
    let all : c.args.first + c.ask-value.result.0.used ≡ c.args.first = omega (arith, c.ask-value.ensures.free) in
    subst (λ (n : ℕ). ComputesTo o end n c.ask-value.result.2) all
    (work_computes o c.args.machine.state ran.0 c.args.machine.host.reply.items c.ask-value.result.3.reply.items c.args.first c.args.function
    (ended_with c.ask-value.result.0 (c.ask-value.result.1 ∷ [])) c.ask-value.result.2 c.requires.started c.requires.exported ran.1 end reads).1
