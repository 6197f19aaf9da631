use Rattle.world.proofs.Words.{answers_of, ap, map, opening_loop, replicate, settings_from, [], ◌∙◌}
use Rattle.world.proofs.WorldsOpen.{opening_kept, opening_is}
use Rattle.world.proofs.world.World.new.Goals as goal

pub invariant_of-result : goal.invariant_of-result
invariant_of-result c =
    opening_kept c.args.config.loops.items c.in_ok-opening_loops.field-0.items c.in_ok-with_capacity.field-0.items c.in_ok-idle_workers.field-0.items
    c.in_ok-no_replies.field-0.items (λ d. answers_of d.items) c.args.config.workers _
    (c.in_ok-opening_loops.ensures ∙ ap (λ cs. map opening_loop (settings_from 0 cs)) c.as_slice.ensures.value) c.in_ok-with_capacity.ensures.items c.in_ok-idle_workers.ensures
    (c.in_ok-no_replies.ensures ∙ ap (λ k. replicate k []) (c.len.ensures ∙ c.args.config.loops.ok.0)) c.in_ok-with_capacity.ensures.capacity

pub returns-clause-opening : goal.returns-clause-opening
returns-clause-opening c =
    opening_is c.args.config.loops.items c.in_ok-opening_loops.field-0.items c.in_ok-with_capacity.field-0.items c.in_ok-idle_workers.field-0.items
    c.in_ok-no_replies.field-0.items (λ d. answers_of d.items) c.args.config.workers
    (c.in_ok-opening_loops.ensures ∙ ap (λ cs. map opening_loop (settings_from 0 cs)) c.as_slice.ensures.value) c.in_ok-with_capacity.ensures.items c.in_ok-idle_workers.ensures
    (c.in_ok-no_replies.ensures ∙ ap (λ k. replicate k []) (c.len.ensures ∙ c.args.config.loops.ok.0))
