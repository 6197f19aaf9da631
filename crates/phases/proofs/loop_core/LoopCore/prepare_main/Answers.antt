use Rattle.phases.proofs.Words.{arc_value, Loop, Main, name_of_entry, refl, setting_of, type_of_entry, [], ◌∙◌}
use Rattle.events.specs.declared.phase.EntryKind.TheVariants as kind
use Rattle.phases.proofs.EntriesPrepared.{main_step}
use Rattle.phases.proofs.LoopsKeep.{takes, gives_nothing, not_missing}
use Rattle.phases.proofs.Prepared.{fits}
use Rattle.phases.proofs.loop_core.LoopCore.prepare_main.Goals as goal

pub unreachable-requires : goal.unreachable-requires
unreachable-requires g c =
    not_missing c.deref.result.now (arc_value c.self.inside.linked) (setting_of c.self.inside.host.setting) c.deref.ensures c.self.invariant.same
    (name_of_entry Main) c.entry.result c.entry.ensures.found c.in_default.is
    (rw (← c.self.view_is) at c.requires.ready)

pub returns-clause-step : goal.returns-clause-step
returns-clause-step g c =
    let set = setting_of c.self.inside.host.setting in
    let old : Loop _ = record { state = c.self.inside.host.state; store = c.self.inside.store; shared = c.self.inside.host.shared } in
    let exported = rw (c.deref.ensures ∙ c.self.invariant.same) at c.in-Some.ensures.found in
    rw (← c.self.view_is) (main_step g.B.Shared.calls set old c.in-Some.function c.bare.result exported c.bare.ensures)

pub returns-clause-fits : goal.returns-clause-fits
returns-clause-fits g c =
    let m = (setting_of c.self.inside.host.setting).loaded.contents in
    let typed = rw (c.deref.ensures ∙ c.self.invariant.same) at c.in-Some.ensures.typed in
    rw (← c.self.view_is) (fits kind.Main 0 c.in-Some.function [] c.bare.result c.bare.ensures m (takes m c.in-Some.function (type_of_entry Main) [] typed refl)
    (gives_nothing m c.in-Some.function (type_of_entry Main) typed refl))
