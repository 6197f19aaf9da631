use Rattle.handles.proofs.Words.{ap, List, ListPlace, part, parts_of, remove, sym, with_part, ◌-◌, ◌∙◌}
use Rattle.handles.proofs.Parts.{out_of_idle, out_of_check, out_of_timers}
use Rattle.handles.proofs.parted.Parted.remove.Goals as goal

pub returns-in-Idle : goal.returns-in-Idle
returns-in-Idle c =
    let s = c.self.inside in
    let kind = c.in-Idle.is in
    let there = rw (← c.self.view_is) at c.requires.in_bounds in
    let few = rw kind at there in
    ap (λ (xs : List ListPlace). parts_of xs (s.checks - 1) (s.timers - 1)) c.remove_at.ensures
    ∙ out_of_idle s.places s.checks s.timers c.self.invariant.0 c.self.invariant.1 c.args.at few
    ∙ (λ t. with_part (sym kind t) (remove (part (sym kind t) (c.self.view_is t)) c.args.at) (c.self.view_is t))

pub returns-in-Check : goal.returns-in-Check
returns-in-Check c =
    let s = c.self.inside in
    let kind = c.in-Check.is in
    let there = rw (← c.self.view_is) at c.requires.in_bounds in
    let few = rw kind at there in
    ap (λ (xs : List ListPlace). parts_of xs s.checks (s.timers - 1)) c.remove_at-in-Check.ensures
    ∙ out_of_check s.places s.checks s.timers c.self.invariant.0 c.self.invariant.1 c.args.at few
    ∙ (λ t. with_part (sym kind t) (remove (part (sym kind t) (c.self.view_is t)) c.args.at) (c.self.view_is t))

pub returns-in-Timer : goal.returns-in-Timer
returns-in-Timer c =
    let s = c.self.inside in
    let kind = c.in-Timer.is in
    ap (λ (xs : List ListPlace). parts_of xs s.checks s.timers) c.remove_at-in-Timer.ensures
    ∙ out_of_timers s.places s.checks s.timers c.self.invariant.0 c.self.invariant.1 c.args.at
    ∙ (λ t. with_part (sym kind t) (remove (part (sym kind t) (c.self.view_is t)) c.args.at) (c.self.view_is t))
