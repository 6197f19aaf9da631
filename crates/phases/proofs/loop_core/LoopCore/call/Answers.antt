use Rattle.phases.proofs.Words.{ap, arc_value, Loop, option_map, refl, setting_of, State, sym, ◌∙◌}
use Rattle.events.specs.Bare.{whole}
use Rattle.phases.proofs.CallbacksEnd.{over_setting, over_stops, over_unfailed, over_keeps, over_runs}
use Rattle.phases.proofs.LoopsKeep.{still_upto, names_of}
use Rattle.phases.proofs.loop_core.LoopCore.call.Goals as goal

pub invariant_of-self-inside : goal.invariant_of-self-inside
invariant_of-self-inside g c = (still_upto g.B.Shared.calls c.self.inside.host.shared _ _ c.begin_callback.ensures c.self.inside.host.opened, tt)

pub invoke_bare-ended-requires-clause-names : goal.invoke_bare-ended-requires-clause-names
invoke_bare-ended-requires-clause-names g c =
    let is = c.valid-valid.ensures.same ∙ c.deref-2.ensures ∙ sym c.deref.ensures in
    names_of c.valid-valid.result.now c.deref.result.now (arc_value c.self.inside.linked) (arc_value c.self.inside.host.setting.linked) is
    c.deref.ensures c.self.invariant.same
    c.imports_are_named.ensures

pub invariant_of-self-inside-2 : goal.invariant_of-self-inside-2
invariant_of-self-inside-2 g c =
    let callback = c.args.callback in
    let old : Loop _ = record { state = c.self.inside.host.state; store = c.self.inside.store; shared = c.self.inside.host.shared } in
    let begins = ap (λ (s : State). (s, c.self.inside.host.shared)) c.begin_callback.ensures in
    let runs = rw (c.valid-valid.ensures.same ∙ c.deref-2.ensures, c.as_slice.ensures) at c.invoke_bare-ended.ensures.runs in
    let stopped =
    over_stops g.B.Shared.calls (arc_value c.self.inside.linked) (setting_of c.self.inside.host.setting) old callback.function callback.args
    (option_map (λ v. v.items) callback.reply) c.self.invariant _ c.invoke_bare-ended.new.host refl begins c.invoke_bare-ended.new.state
    (whole c.invoke_bare-ended.result) c.invoke_bare-ended.new.stack runs in
    let upto = still_upto g.B.Shared.calls c.invoke_bare-ended.new.host.shared _ _ c.end_callback.ensures c.invoke_bare-ended.new.host.opened in
    let unfailed =
    over_unfailed g.B.Shared.calls (arc_value c.self.inside.linked) (setting_of c.self.inside.host.setting) old callback.function callback.args
    (option_map (λ v. v.items) callback.reply) c.self.invariant _ c.invoke_bare-ended.new.host refl begins c.invoke_bare-ended.new.state
    (whole c.invoke_bare-ended.result) c.invoke_bare-ended.new.stack runs c.end_callback.new.self c.end_callback.ensures
    (rw (← c.self.view_is) at c.requires.unfailed) in
    ((upto, tt), (stopped, (unfailed, tt)))

pub invariant_of-self : goal.invariant_of-self
invariant_of-self g c =
    let callback = c.args.callback in
    let old : Loop _ = record { state = c.self.inside.host.state; store = c.self.inside.store; shared = c.self.inside.host.shared } in
    let begins = ap (λ (s : State). (s, c.self.inside.host.shared)) c.begin_callback.ensures in
    let is = c.valid-valid.ensures.same ∙ c.deref-2.ensures in
    let runs = rw (is, c.as_slice.ensures) at c.invoke_bare-ended.ensures.runs in
    over_keeps g.B.Shared.calls (arc_value c.self.inside.linked) (setting_of c.self.inside.host.setting) old callback.function callback.args
    (option_map (λ v. v.items) callback.reply) c.self.invariant _ c.invoke_bare-ended.new.host refl begins c.invoke_bare-ended.new.state
    (whole c.invoke_bare-ended.result) c.invoke_bare-ended.new.stack runs c.end_callback.new.self c.end_callback.ensures
    (rw c.deref-2.ensures at c.valid-valid.ensures.linked) (rw is at c.invoke_bare-ended.ensures.kept)

pub returns : goal.returns
returns g c =
    let callback = c.args.callback in
    let old : Loop _ = record { state = c.self.inside.host.state; store = c.self.inside.store; shared = c.self.inside.host.shared } in
    let begins = ap (λ (s : State). (s, c.self.inside.host.shared)) c.begin_callback.ensures in
    let runs = rw (c.valid-valid.ensures.same ∙ c.deref-2.ensures, c.as_slice.ensures) at c.invoke_bare-ended.ensures.runs in
    rw (← c.self.view_is) (record {
      run = over_runs g.B.Shared.calls (arc_value c.self.inside.linked) (setting_of c.self.inside.host.setting) old callback.function callback.args
          (option_map (λ v. v.items) callback.reply) c.self.invariant _ c.invoke_bare-ended.new.host refl begins c.invoke_bare-ended.new.state
          (whole c.invoke_bare-ended.result) c.invoke_bare-ended.new.stack runs c.end_callback.new.self c.end_callback.ensures callback.kind callback.number;
      setting = over_setting g.B.Shared.calls (arc_value c.self.inside.linked) (setting_of c.self.inside.host.setting) old callback.function callback.args
          (option_map (λ v. v.items) callback.reply) c.self.invariant _ c.invoke_bare-ended.new.host refl begins c.invoke_bare-ended.new.state
          (whole c.invoke_bare-ended.result) c.invoke_bare-ended.new.stack runs;
    })
