use Rattle.serve.proofs.Words.{ap, IsAlone, refl, State, subst, sym, thread_calls}
use Rattle.pool.specs.SeatsLaw.{seats_post_leaves}
use Rattle.serve.proofs.OneEventMore.{moves_beside}
use Rattle.serve.proofs.PostsBehind.{posted_or_not}
use Rattle.serve.proofs.Turning.{goes_still}
use Rattle.serve.proofs.record.LoopRecord.post.Goals as goal

pub invariant_of-self : goal.invariant_of-self
invariant_of-self c = record {
  few = c.args.self.now.few;
  alone = subst IsAlone (sym c.post.ensures.told.0.1) c.args.self.now.alone;
}

pub returns-clause-posts : goal.returns-clause-posts
returns-clause-posts c =
    let told = c.post.ensures.told in
    let view = seats_post_leaves (λ s. s.loop_seat) (λ s. s.taker) c.args.self.now.core.loop.shared c.post.new.self.loop.shared c.args.slot c.args.request c.post.result told.0 in
    record {
      moves = moves_beside _ _ c.post.ensures.setting view told.1 told.2 refl refl;
      posts = posted_or_not _ _ _ c.post.result told.0.0;
      taker = told.0.1;
    }

pub returns-clause-goes : goal.returns-clause-goes
returns-clause-goes c =
    let r = c.args.self.now in
    let state = c.post.ensures.told.1 in
    goes_still thread_calls r.core.loop c.post.new.self.loop r.ran (ap (λ (s : State). s.roster) state) (ap (λ (s : State). s.phase) state)
