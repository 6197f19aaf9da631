use Rattle.phases.proofs.Words.{ap, arc_value, Loaded, moves, RunIsOver, RunIsPaused, StepDid, StepsWith, stop_of, subst, sym, whole_did, ◌∙◌, ◌≡◌}
use Rattle.phases.specs.Inner.Ended.{CallbackHasEnded}
use Rattle.phases.specs.Inner.Underway.{LoopMachineFits, step_in_slices}
use Rattle.phases.specs.Slices.{StepIsOver, StepIsPaused}
use Rattle.phases.specs.Underway.{StepInSlices}
use Rattle.phases.proofs.StepsInSlices.{first, here, leads_over, further, comes_further, ended_bare}
use Rattle.phases.proofs.slices.Stepping.go_on.Goals as goal

pub go_on-requires-clause-paused : goal.go_on-requires-clause-paused
go_on-requires-clause-paused g c =
    let i = c.self.inside in
    let v = c.self.invariant in
    let k = v.callback in
    let loaded : c.valid.result.now ≡ arc_value i.linked = c.valid.ensures.same ∙ c.deref.ensures in
    rw loaded (v.mid.store, k.before, v.args, v.g.fuel, k.under_way)

pub over-core-requires-clause-some : goal.over-core-requires-clause-some
over-core-requires-clause-some g c =
    let i = c.self.inside in
    let v = c.self.invariant in
    let k = v.callback in
    let n = c.go_on.new.self in
    let ended = c.in-Some.ended in
    let calls = g.B.Shared.calls in
    let loaded : c.valid.result.now ≡ arc_value i.linked = c.valid.ensures.same ∙ c.deref.ensures in
    let m = (arc_value i.linked).contents in
    let here : RunIsPaused c.valid.result.now.contents (arc_value i.machine.machine.tables) (moves calls) v.mid.store k.before v.args v.g.fuel i.paused i.machine.machine.slots i.machine.machine.frames.items i.machine.store i.machine.host =
    rw loaded k.under_way in
    let stop = stop_of n.machine.last n.machine.frames.items in
    let over : RunIsOver m v.g.depth (moves calls) i.paused.function v.mid.store k.before v.args v.g.fuel ended n.store n.host stop =
    rw (loaded, k.deep) at (c.in-Some.ensures.over v.mid.store k.before v.args v.g.fuel here) in (
      v.g,
      v.mid,
      i.paused.function,
      v.args,
      v.reply,
      record { keeps = k.keeps; before = k.before; made = k.made; begins = k.begins; leads = over.leads },
      v.unfailed,
    )

pub over-core-requires-clause-bare : goal.over-core-requires-clause-bare
over-core-requires-clause-bare g c =
    let i = c.self.inside in
    let v = c.self.invariant in
    let loaded : c.valid.result.now ≡ arc_value i.linked = c.valid.ensures.same ∙ c.deref.ensures in
    ended_bare (arc_value i.linked).contents c.valid.result.now.contents (ap (λ (l : Loaded). l.contents) loaded) i.paused.function v.args v.callback.under_way.begun.takes v.bare c.in-Some.ended.ending c.in-Some.ensures.results

pub invariant_of-result : goal.invariant_of-result
invariant_of-result g c =
    let i = c.self.inside in
    let v = c.self.invariant in
    let k = v.callback in
    let n = c.go_on.new.self in
    let p = c.go_on.new.slice.paused in
    let e = c.go_on.ensures in
    let calls = g.B.Shared.calls in
    let l = arc_value i.linked in
    let loaded : c.valid.result.now ≡ l = c.valid.ensures.same ∙ c.deref.ensures in
    let here : RunIsPaused c.valid.result.now.contents (arc_value i.machine.machine.tables) (moves calls) v.mid.store k.before v.args v.g.fuel i.paused i.machine.machine.slots i.machine.machine.frames.items i.machine.store i.machine.host =
    rw loaded k.under_way in
    let there : RunIsPaused l.contents (arc_value n.machine.tables) (moves calls) v.mid.store k.before v.args v.g.fuel p n.machine.slots n.machine.frames.items n.store n.host =
    rw loaded at (e.paused c.in-None.is v.mid.store k.before v.args v.g.fuel here) in
    let fits : LoopMachineFits l n = rw loaded at e.fits in
    record {
      fits = fits;
      g = v.g;
      mid = v.mid;
      args = v.args;
      reply = v.reply;
      callback = further calls l i.kind i.number (arc_value i.machine.machine.tables) (arc_value n.machine.tables) fits.runs.valid fits.runs.agree i.paused i.machine.machine.slots i.machine.machine.frames.items
          i.machine.store i.machine.host p n.machine.slots n.machine.frames.items n.store n.host e.call v.g v.mid v.args v.reply i.machine.host k k.before k.made k.begins there;
      unfailed = v.unfailed;
      bare = rw e.call.0 v.bare;
    }

pub returns-in-Some : goal.returns-in-Some
returns-in-Some g c =
    let i = c.self.inside in
    let n = c.go_on.new.self in
    let ended = c.in-Some.ended in
    let calls = g.B.Shared.calls in
    let l = arc_value i.linked in
    let loaded : c.valid.result.now ≡ l = c.valid.ensures.same ∙ c.deref.ensures in
    let did = c.whole.ensures in
    let last = c.in-Some.ensures.last in
    let core = c.over-core.result.0 in
    subst (λ (s : StepInSlices _). StepIsOver calls s c.args.units core c.whole.result) c.self.view_is (record {
      steps = λ a come.
          let before = first calls l i.kind i.number (arc_value i.machine.machine.tables) i.paused i.machine.machine.slots i.machine.machine.frames.items i.machine.store i.machine.host a come in
          let at : RunIsPaused l.contents (arc_value i.machine.machine.tables) (moves calls) come.mid.store before come.args a.setting.fuel i.paused i.machine.machine.slots i.machine.machine.frames.items i.machine.store i.machine.host =
          here calls l i.kind i.number (arc_value i.machine.machine.tables) i.paused i.machine.machine.slots i.machine.machine.frames.items i.machine.store i.machine.host a come in
          let from = rw (sym loaded) at at in
          let stop = stop_of n.machine.last n.machine.frames.items in
          let over : RunIsOver l.contents i.paused.depth (moves calls) i.paused.function come.mid.store before come.args a.setting.fuel ended n.store n.host stop =
          rw loaded at (c.in-Some.ensures.over come.mid.store before come.args a.setting.fuel from) in
          let over_here : CallbackHasEnded a.setting come.mid i.paused.function come.args come.reply l n ended =
          record {
            keeps = come.callback.keeps;
            before = before;
            made = come.callback.set;
            begins = come.callback.begins;
            leads = leads_over calls l i.kind i.number (arc_value i.machine.machine.tables) i.paused i.machine.machine.slots i.machine.machine.frames.items i.machine.store i.machine.host a come ended n.store n.host stop over;
          } in
          let ran = c.over-core.ensures.runs a.setting come.mid i.paused.function come.args come.reply over_here in (
            ran.0,
            (
              ran.1.0,
              subst (λ (d : StepDid). StepsWith calls a.setting a.loop d ran.1.0 core.loop) (sym did) (come.leads (whole_did c.over-core.result.1) ran.1.0 core.loop ran.1.1),
            ),
          );
      ended = ended;
      told = did ∙ c.over-core.ensures.did;
      since = last.0;
      slice = last.1;
    })

pub returns-in-None : goal.returns-in-None
returns-in-None g c =
    let i = c.self.inside in
    let n = c.go_on.new.self in
    let p = c.go_on.new.slice.paused in
    let e = c.go_on.ensures in
    let uses = e.slice c.in-None.is in
    let calls = g.B.Shared.calls in
    let l = arc_value i.linked in
    let loaded : c.valid.result.now ≡ l = c.valid.ensures.same ∙ c.deref.ensures in
    let fits : LoopMachineFits l n = rw loaded at e.fits in
    subst (λ (s : StepInSlices _). StepIsPaused calls s c.args.units (step_in_slices l i.kind i.number n p)) c.self.view_is (record {
      goes_on = λ a come.
          let before = first calls l i.kind i.number (arc_value i.machine.machine.tables) i.paused i.machine.machine.slots i.machine.machine.frames.items i.machine.store i.machine.host a come in
          let at : RunIsPaused l.contents (arc_value i.machine.machine.tables) (moves calls) come.mid.store before come.args a.setting.fuel i.paused i.machine.machine.slots i.machine.machine.frames.items i.machine.store i.machine.host =
          here calls l i.kind i.number (arc_value i.machine.machine.tables) i.paused i.machine.machine.slots i.machine.machine.frames.items i.machine.store i.machine.host a come in
          let from = rw (sym loaded) at at in
          let there = rw loaded at (e.paused c.in-None.is come.mid.store before come.args a.setting.fuel from) in
          comes_further calls l i.kind i.number (arc_value i.machine.machine.tables) (arc_value n.machine.tables) fits.runs.valid fits.runs.agree i.paused i.machine.machine.slots i.machine.machine.frames.items
          i.machine.store i.machine.host p n.machine.slots n.machine.frames.items n.store n.host e.call a come there uses.left;
      some = uses.some;
      most = uses.most;
      all = uses.all;
      few = uses.few;
    })
