use Rattle.serve.proofs.Words.{ap, arith, IsAlone, Loop, refl, Seats, thread_calls, ◌∙◌}
use Rattle.serve.proofs.OneEventMore.{moves_wait}
use Rattle.serve.proofs.Turning.{goes_still}
use Rattle.serve.proofs.record.LoopRecord.pass.Goals as goal

pub invariant_of-self : goal.invariant_of-self
invariant_of-self c =
    let r = c.args.self.now in
    let read = c.clock-clock in
    let shared = ap (λ (l : Loop Seats). l.shared) c.clock.ensures.core ∙ ap (λ (l : Loop Seats). l.shared) read.ensures.core in
    let alone : IsAlone c.clock.new.self.loop.shared.taker = rw shared r.alone in
    record {
      few = r.few;
      alone = alone;
    }

pub returns-clause-moves : goal.returns-clause-moves
returns-clause-moves c =
    let read = c.clock-clock in
    let sum = c.saturating_add-moment.ensures in
    moves_wait _ _ (c.clock.ensures.setting ∙ read.ensures.setting) read.new.self.loop c.args.ms read.result c.saturating_add-moment.result
    read.ensures.core read.ensures.clock (omega arith) c.clock.ensures.core c.requires.none c.requires.still c.requires.hint refl refl

pub returns-clause-goes : goal.returns-clause-goes
returns-clause-goes c =
    let r = c.args.self.now in
    let read = c.clock-clock in
    goes_still thread_calls r.core.loop c.clock.new.self.loop r.ran
    (ap (λ (l : Loop Seats). l.state.roster) c.clock.ensures.core ∙ ap (λ (l : Loop Seats). l.state.roster) read.ensures.core)
    (ap (λ (l : Loop Seats). l.state.phase) c.clock.ensures.core ∙ ap (λ (l : Loop Seats). l.state.phase) read.ensures.core)
