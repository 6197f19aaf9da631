use Rattle.decode.proofs.Words.{arith, as_pair, free_group, length, MAX_LOCALS, shorter, ◌+◌, ◌<◌, ◌∙◌, ◌≡◌}
use Rattle.decode.proofs.RefusalLaws.{after, stops_there}
use Rattle.decode.proofs.Exits.{exit}
use Rattle.decode.proofs.LocalLaws.{filled_up, group_more, in_others, no_group, too_many}
use Rattle.decode.proofs.locals.read_groups.Goals as goal

pub returns-in_err-next : goal.returns-in_err-next
returns-in_err-next c = exit _ _ c.from_residual.ensures.1 (λ ok. after c.loop.invariant.spelled (c.in_err-next.ensures ok) (λ text mid l none.
    no_group c.loop-test.true (in_others c.loop.invariant l) none))

pub returns-then-next-len : goal.returns-then-next-len
returns-then-next-len c ok =
    let few = c.loop.invariant.few in
    let long : MAX_LOCALS < c.in_ok-next.next.count + length c.loop.all.items = omega arith in
    let less = shorter free_group (as_pair c.in_ok-next.next) _ _ c.in_ok-next.ensures in
    after c.loop.invariant.spelled (stops_there c.in_ok-next.ensures less c.behind.ensures.left) (λ text mid l k.
    too_many (as_pair c.in_ok-next.next) c.loop-test.true (in_others c.loop.invariant l) k.1 long)

pub loop-preserved : goal.loop-preserved
loop-preserved c =
    let old = c.loop.all.items in
    let g = as_pair c.in_ok-next.next in
    let few = c.loop.invariant.few in
    let len : c.len-in-loop.result ≡ length old = omega arith in
    group_more g c.loop.invariant c.in_ok-next.ensures (c.in_ok-resize.ensures.items ∙ filled_up old g.0 _ _ g.1 len (omega arith)) (omega arith)
