use Rattle.wasmloop_c.proofs.Offers.{also}
use Rattle.wasmloop_c.proofs.work.accept_stage.Goals as goal

pub returns : goal.returns
returns c = rw (c.in-Resting.is, c.in-Job.is, ← c.deref_mut.ensures.value) (
  c.offer-left.ensures.setting,
  rw (← c.replace.ensures.value) (also _ _ _ _ (λ n e. cc) (λ o g. tt) c.offer-left.ensures.offers),
)
