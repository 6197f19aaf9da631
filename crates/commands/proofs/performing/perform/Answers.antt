use Rattle.std.proofs.Common.{refl, sym, ◌∙◌}
use Rattle.commands.proofs.Done.{done_of, refused_of, ended_of, at_ok}
use Rattle.commands.proofs.performing.perform.Goals as goal

pub returns-clause-done : goal.returns-clause-done
returns-clause-done g c = λ zero.
    let is = done_of c.status_from-status.result (sym c.number.ensures ∙ zero) in
    rw ((c.status_from-status.ensures.kept is).0, (c.status_from-status.ensures.kept is).1) (at_ok c.run-ended.result _ _ c.run-ended.ensures.done (c.status_from-status.ensures.done is) refl)

pub returns-clause-refused : goal.returns-clause-refused
returns-clause-refused g c = λ three.
    c.run-ended.ensures.refused (c.status_from-status.ensures.refused (refused_of c.status_from-status.result (sym c.number.ensures ∙ three)))

pub returns-clause-ended : goal.returns-clause-ended
returns-clause-ended g c = λ four.
    let is = ended_of c.status_from-status.result (sym c.number.ensures ∙ four) in
    rw (c.status_from-status.ensures.kept_ended is).0 (at_ok c.run-ended.result _ _ c.run-ended.ensures.ended (c.status_from-status.ensures.ended is) refl)
