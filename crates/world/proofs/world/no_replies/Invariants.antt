use Rattle.world.proofs.Words.{answers_of, map, replicate, [], ◌≡◌}
use Rattle.world.proofs.world.no_replies.Given as goal

abbrev pub invariant-loop : goal.invariant-loop
invariant-loop l = map (λ d. answers_of d.items) l.lists.items ≡ replicate l.counter []
