use Rattle.phases.proofs.Words.{ap, arc_value, Ended, finished, stop_of, sym, ◌∙◌}
use Rattle.phases.proofs.CallbacksEnd.{whole_is, over_setting, over_stops, over_unfailed, over_keeps, over_runs}
use Rattle.phases.proofs.LoopsKeep.{still_upto}
use Rattle.phases.proofs.machine.LoopMachine.over.Goals as goal

pub invariant_of-host : goal.invariant_of-host
invariant_of-host g c = record {
  opened = still_upto g.B.Shared.calls c.args.self.host.shared _ _ c.end_callback.ensures c.args.self.host.opened;
}

pub invariant_of-core-inside : goal.invariant_of-core-inside
invariant_of-core-inside g c =
    let m = c.args.self in
    let q = c.requires.some in
    let h = q.5 in
    let is = c.end_callback.ensures ∙ ap (λ (x : Ended). finished m.host.state x) (whole_is c.of.result c.args.place c.of.ensures) in (
      rw (sym c.into_stack-stack.ensures) at (over_stops g.B.Shared.calls (arc_value c.args.linked) q.0 q.1 q.2 q.3 q.4 h.keeps h.before m.host h.made h.begins m.store c.args.place
          (stop_of m.machine.last m.machine.frames.items) h.leads),
      (
        rw (sym c.into_stack-stack.ensures) at (over_unfailed g.B.Shared.calls (arc_value c.args.linked) q.0 q.1 q.2 q.3 q.4 h.keeps h.before m.host h.made h.begins m.store c.args.place
            (stop_of m.machine.last m.machine.frames.items) h.leads c.end_callback.new.self is q.6),
        tt,
      ),
    )

pub invariant_of-core : goal.invariant_of-core
invariant_of-core g c =
    let m = c.args.self in
    let q = c.requires.some in
    let h = q.5 in
    let linked = rw c.deref.ensures at c.valid-valid.ensures.linked in
    let is = c.end_callback.ensures ∙ ap (λ (x : Ended). finished m.host.state x) (whole_is c.of.result c.args.place c.of.ensures) in
    over_keeps g.B.Shared.calls (arc_value c.args.linked) q.0 q.1 q.2 q.3 q.4 h.keeps h.before m.host h.made h.begins m.store c.args.place (stop_of m.machine.last m.machine.frames.items)
    h.leads c.end_callback.new.self is linked c.requires.store

pub returns-clause-runs : goal.returns-clause-runs
returns-clause-runs g c set mid function args reply h =
    let m = c.args.self in
    let whole = whole_is c.of.result c.args.place c.of.ensures in
    let is = c.end_callback.ensures ∙ ap (λ (x : Ended). finished m.host.state x) whole in
    let stop = stop_of m.machine.last m.machine.frames.items in (
      over_setting g.B.Shared.calls (arc_value c.args.linked) set mid function args reply h.keeps h.before m.host h.made h.begins m.store c.args.place stop h.leads,
      rw whole (over_runs g.B.Shared.calls (arc_value c.args.linked) set mid function args reply h.keeps h.before m.host h.made h.begins m.store c.args.place stop h.leads
          c.end_callback.new.self is c.args.kind c.args.number),
    )
