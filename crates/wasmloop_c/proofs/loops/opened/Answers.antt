use Rattle.std.proofs.Common.{◌∙◌}
use Rattle.wasmloop_c.proofs.loops.opened.Goals as goal

pub returns-clause-opens : goal.returns-clause-opens
returns-clause-opens c = rw (c.in_ok-new-2.ensures.ok, c.in_ok-stage.ensures.ok, ← c.in_ok-try_clone.ensures) (record {
  setting = c.in_ok-core.ensures.setting;
  state = c.in_ok-core.ensures.state;
  store = c.in_ok-core.ensures.store;
  shared = c.in_ok-core.ensures.shared ∙ c.in_ok-new.ensures;
})
