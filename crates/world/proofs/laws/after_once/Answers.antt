use Rattle.world.proofs.Words.{ap, opening_world, sym, ◌++◌, ◌∙◌}
use Rattle.world.proofs.AfterOnce.{history_after, once_after, own_after, last_after}
use Rattle.world.proofs.GuestsOfRuns.{step_calls, step_of, run_of, each_run_calls}
use Rattle.world.proofs.laws.after_once.Goals as goal

pub returns-clause-calls : goal.returns-clause-calls
returns-clause-calls c = each_run_calls

pub returns-clause-history : goal.returns-clause-history
returns-clause-history c settings workers steps log w l made calls g now at =
    let run = run_of l (opening_world settings workers) steps log made w calls in
    let it = history_after settings l workers steps log w run.0 g now at in
    (it.0, rw run.1 it.1)

pub returns-clause-once : goal.returns-clause-once
returns-clause-once c settings workers steps log w run l request = once_after settings l request c.after_once.ensures.once workers steps log w run

pub returns-clause-own : goal.returns-clause-own
returns-clause-own c settings workers steps log w l made calls s entry w' h request is =
    let run = run_of l (opening_world settings workers) steps log made w calls in
    rw (sym run.1) at (own_after settings l workers steps log w run.0 request s entry w' h is c.after_once.ensures.own)

pub returns-clause-last : goal.returns-clause-last
returns-clause-last c settings workers steps log w run l s entry first mid calls behind lines more w' rest request is cancelled =
    let one = step_of l w s entry first mid calls in
    let others = run_of l mid behind lines more w' rest in
    last_after settings l workers steps log w run request s entry mid one.0 is c.after_once.ensures.last behind lines w' others.0
    (rw (ap (λ m. m ++ more) one.1 ∙ ap (λ m. step_calls l w s entry mid one.0 ++ m) others.1) at cancelled)
