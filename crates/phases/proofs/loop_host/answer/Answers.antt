use Rattle.std.proofs.Common.{refl, sym, ap}
use Rattle.instance.specs.Store.{MemoryInstance}
use Rattle.phases.proofs.GuestCallsKeep.{no_arguments}
use Rattle.phases.proofs.loop_host.answer.Goals as goal

pub queue_work-answer-requires : goal.queue_work-answer-requires
queue_work-answer-requires g c =
    rw (sym c.state-in-QueueWork.view_is) at c.requires.opened

pub returns-in-TimerInit-clause-replies : goal.returns-in-TimerInit-clause-replies
returns-in-TimerInit-clause-replies g c =
    let none = no_arguments c.args.args.now (rw c.in-TimerInit.is at c.requires.typed) in
    rw (c.in-TimerInit.is, none, ← c.state-in-TimerInit.view_is)
    (λ import. (c.init-answer.result, c.init-answer.new.self, c.init-answer.ensures, (refl, refl), refl))

pub returns-in-IdleInit-clause-replies : goal.returns-in-IdleInit-clause-replies
returns-in-IdleInit-clause-replies g c =
    let none = no_arguments c.args.args.now (rw c.in-IdleInit.is at c.requires.typed) in
    rw (c.in-IdleInit.is, none, ← c.state-in-IdleInit.view_is)
    (λ import. (c.init-answer-in-IdleInit.result, c.init-answer-in-IdleInit.new.self, c.init-answer-in-IdleInit.ensures, (refl, refl), refl))

pub returns-in-CheckInit-clause-replies : goal.returns-in-CheckInit-clause-replies
returns-in-CheckInit-clause-replies g c =
    let none = no_arguments c.args.args.now (rw c.in-CheckInit.is at c.requires.typed) in
    rw (c.in-CheckInit.is, none, ← c.state-in-CheckInit.view_is)
    (λ import. (c.init-answer-in-CheckInit.result, c.init-answer-in-CheckInit.new.self, c.init-answer-in-CheckInit.ensures, (refl, refl), refl))

pub returns-in-AsyncInit-clause-replies : goal.returns-in-AsyncInit-clause-replies
returns-in-AsyncInit-clause-replies g c =
    rw (c.in-AsyncInit.is, c.one-in-AsyncInit.ensures, ← c.state-in-AsyncInit.view_is)
    (λ import. (c.init_async-answer.result, c.init_async-answer.new.self, c.init_async-answer.ensures, (refl, refl), refl))

pub returns-in-QueueWork-clause-replies : goal.returns-in-QueueWork-clause-replies
returns-in-QueueWork-clause-replies g c =
    let same = ap (λ (m : MemoryInstance). m.bytes) c.queue_work-answer.ensures.memory in
    rw (c.in-QueueWork.is, c.three-op.ensures, ← c.state-in-QueueWork.view_is)
    (λ import. (c.queue_work-answer.result, c.queue_work-answer.new.requests, c.queue_work-answer.ensures.queued, (refl, same), refl))
