use Rattle.phases.proofs.Words.{ap, callbacks_of, Contents, is_some, Loaded, Main, name_of_entry, refl, ◌∙◌}
use Rattle.phases.proofs.HostExports.{found_exports}
use Rattle.phases.proofs.LoopsKeep.{new_state}
use Rattle.phases.proofs.opening.machine_of.Goals as goal

pub returns : goal.returns
returns c =
    let l = c.args.linked.now in
    let k = c.contents-contents.ensures.same ∙ ap (λ (x : Loaded). x.contents) c.valid.ensures.same in
    let start = c.is_some-start.ensures ∙ ap (λ (m : Contents). is_some m.start) k in
    let main = c.is_some-main.ensures ∙ found_exports l.contents (name_of_entry Main) c.entry.result c.entry.ensures.found in
    let state = new_state l.contents _ c.in_ok-callbacks.callbacks.items c.is_some-start.result c.is_some-main.result refl (c.in_ok-callbacks.ensures ∙ ap callbacks_of k) start main in
    rw state at c.new-2.ensures
