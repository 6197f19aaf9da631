use Rattle.phases.proofs.Words.{ap, arc_value, completion_in, Loop, name_of_entry, refl, setting_of, State, type_of_entry, ◌∙◌}
use Rattle.imports.specs.declared.entry_point.EntryPoint.TheVariants.{AfterWork as AfterWorkExport}
use Rattle.phases.proofs.EntriesPrepared.{after_step}
use Rattle.phases.proofs.LoopsKeep.{still_upto, still_unfailed, takes, gives_nothing, not_missing, kept_with}
use Rattle.phases.proofs.ListedStaysReady.{ready_without_request}
use Rattle.phases.proofs.Runnable.{request_heard, other_orders}
use Rattle.phases.proofs.loop_core.LoopCore.prepare_after_work.Goals as goal

pub unreachable-requires : goal.unreachable-requires
unreachable-requires g c =
    let set = setting_of c.self.inside.host.setting in
    let s = c.self.inside.host.state in
    let ready = rw (← c.self.view_is) at c.requires.ready in
    not_missing c.deref.result.now (arc_value c.self.inside.linked) set c.deref.ensures c.self.invariant.same (name_of_entry AfterWorkExport)
    c.entry.result c.entry.ensures.found c.in_default.is
    (request_heard set s.requests c.args.request ready c.self.invariant.orders)

pub invariant_of-self-inside : goal.invariant_of-self-inside
invariant_of-self-inside g c =
    let upto = still_upto g.B.Shared.calls c.self.inside.host.shared _ _ c.take_request-completion.ensures.removed c.self.inside.host.opened in
    ((upto, tt), (c.self.inside.stopped, (still_unfailed _ _ _ (ap (λ (s : State). s.status) c.take_request-completion.ensures.removed) c.self.inside.unfailed, tt)))

pub invariant_of-self : goal.invariant_of-self
invariant_of-self g c =
    let set = setting_of c.self.inside.host.setting in
    let s = c.self.inside.host.state in
    let apart = rw (← c.self.view_is) at c.requires.apart in
    rw c.take_request-completion.ensures.removed (kept_with _ set s _ _ c.self.invariant refl
    (ready_without_request _ s c.args.request c.self.invariant.ready apart) (other_orders set s.requests c.args.request c.self.invariant.orders))

pub returns-clause-step : goal.returns-clause-step
returns-clause-step g c =
    let calls = g.B.Shared.calls in
    let set = setting_of c.self.inside.host.setting in
    let s = c.self.inside.host.state in
    let t = c.take_request-completion.result in
    let function = c.in-Some.function in
    let old : Loop _ = record { state = s; store = c.self.inside.store; shared = c.self.inside.host.shared } in
    let left : Loop _ = record { state = c.take_request-completion.new.self; store = c.self.inside.store; shared = c.self.inside.host.shared } in
    let exported = rw (c.deref.ensures ∙ c.self.invariant.same) at c.in-Some.ensures.found in
    rw (← c.self.view_is) (λ did made new run. after_step calls set old c.args.request function (completion_in t) c.take_request-completion.new.self exported
    c.take_request-completion.ensures.completion c.take_request-completion.ensures.removed did made new
    (rw c.first.ensures at run))

pub returns-clause-fits : goal.returns-clause-fits
returns-clause-fits g c =
    let m = (setting_of c.self.inside.host.setting).loaded.contents in
    let function = c.in-Some.function in
    let typed =
    rw (c.deref.ensures ∙ c.self.invariant.same) at c.in-Some.ensures.typed in
    rw (← c.self.view_is) (record {
      takes = rw c.first.ensures (takes m function (type_of_entry AfterWorkExport) _ typed refl);
      bare = gives_nothing m function (type_of_entry AfterWorkExport) typed refl;
      short = c.take_request-completion.ensures.short;
    })
