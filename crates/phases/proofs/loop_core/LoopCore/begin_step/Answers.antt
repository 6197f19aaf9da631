use Rattle.phases.proofs.Words.{ap, Core, RanNone, Setting, subst, sym, [], ◌∙◌}
use Rattle.phases.proofs.loop_core.LoopCore.begin_step.Goals as goal

pub call_back-requires-clause-runs : goal.call_back-requires-clause-runs
call_back-requires-clause-runs g c =
    let same = c.valid.ensures.same ∙ c.deref.ensures ∙ c.self.invariant.same ∙ ap (λ (x : Setting). x.loaded) (ap (λ (x : Core _). x.setting) c.self.view_is ∙ sym c.prepare.ensures.setting) in
    rw same at c.in-Ok.ensures.fits

pub call_back-requires-clause-fits : goal.call_back-requires-clause-fits
call_back-requires-clause-fits g c = rw c.prepare.ensures.setting c.in-Runs.ensures.fits

pub returns-in-Did-clause-begun : goal.returns-in-Did-clause-begun
returns-in-Did-clause-begun g c =
    let a = c.args.self in
    let did = sym c.whole.ensures in (
      (c.prepare.ensures.setting, ([], rw did at c.in-Did.ensures.step)),
      subst RanNone did c.in-Did.ensures.fits,
    )

pub returns-in-Runs-clause-begun : goal.returns-in-Runs-clause-begun
returns-in-Runs-clause-begun g c =
    (c.call_back.ensures.come c.args.self (sym c.prepare.ensures.setting) c.in-Runs.ensures.step, c.call_back.ensures.used, c.call_back.ensures.copied)
