use Rattle.serve.proofs.Words.{All, ap, arc_value, AreNumbered, AreRepliesWhole, arith, EachOnce, IsPassOf, length, LoopView, ℕ, subst, sym, ◌+◌, ◌∙◌, ◌≡◌}
use Rattle.std.proofs.lemmas.List.{length-append}
use Rattle.serve.specs.Joint.{IsSettledWith}
use Rattle.serve.proofs.Gathered.{all_unjoined, anyhow, from_all, seated, all_own, all_numbered, all_claims, some_seats, as_many_loops, each_served, jointly}
use Rattle.serve.proofs.joint.gathered.Goals as goal

pub gather_all-requires-clause-new : goal.gather_all-requires-clause-new
gather_all-requires-clause-new g c =
    let e = c.args.ended in
    let plan = c.args.plan.now in
    let items = c.in_ok-append.ensures.items in
    let size = ap length items ∙ length-append e.loops.items e.workers.items in
    let loops = as_many_loops g.J.Job.ticket (arc_value plan.linked) plan.serving c.args.board.now c.args.claims.now e.served.items e.loops.items e.workers.items e.seats.items (λ k q. Unit {0}) (anyhow g.J.Job.ticket (arc_value plan.linked) plan.serving c.args.board.now c.args.claims.now e.served.items e.loops.items e.loop_seats.items c.requires.loops_end) c.requires.workers_end in
    let count = c.requires.loops_count in
    let crew = c.requires.workers_count in
    let all : plan.serving.loops + plan.serving.workers ≡ length c.append.new.self.items = omega arith in
    rw all at c.requires.gathering

pub gather_all-requires-clause-passes : goal.gather_all-requires-clause-passes
gather_all-requires-clause-passes g c =
    let e = c.args.ended in
    let plan = c.args.plan.now in
    subst (All (IsPassOf c.args.board.now)) (sym c.in_ok-append.ensures.items)
    (all_own g.J.Job.ticket (arc_value plan.linked) plan.serving c.args.board.now c.args.claims.now e.served.items e.loops.items e.workers.items e.seats.items (λ k q. Unit {0}) (anyhow g.J.Job.ticket (arc_value plan.linked) plan.serving c.args.board.now c.args.claims.now e.served.items e.loops.items e.loop_seats.items c.requires.loops_end) c.requires.workers_end)

pub gather_all-requires-clause-numbers : goal.gather_all-requires-clause-numbers
gather_all-requires-clause-numbers g c =
    let e = c.args.ended in
    let plan = c.args.plan.now in
    subst AreNumbered (sym c.in_ok-append.ensures.items)
    (all_numbered g.J.Job.ticket (arc_value plan.linked) plan.serving c.args.board.now c.args.claims.now e.served.items e.loops.items e.workers.items e.seats.items (λ k q. Unit {0}) (anyhow g.J.Job.ticket (arc_value plan.linked) plan.serving c.args.board.now c.args.claims.now e.served.items e.loops.items e.loop_seats.items c.requires.loops_end) c.requires.workers_end
    (c.requires.loops.1 ∙ sym c.requires.loops_count))

pub gather_seats-requires-clause-crew : goal.gather_seats-requires-clause-crew
gather_seats-requires-clause-crew g c =
    let e = c.args.ended in
    let plan = c.args.plan.now in
    let size = some_seats g.J.Job.ticket (arc_value plan.linked) plan.serving c.args.board.now c.args.claims.now e.served.items e.loops.items e.workers.items e.seats.items (λ k q. Unit {0}) (anyhow g.J.Job.ticket (arc_value plan.linked) plan.serving c.args.board.now c.args.claims.now e.served.items e.loops.items e.loop_seats.items c.requires.loops_end) c.requires.workers_end in
    let crew = c.requires.workers_count in
    let all : plan.serving.workers ≡ length e.seats.items = omega arith in
    rw all at c.requires.crew

pub gather_seats-requires-clause-own : goal.gather_seats-requires-clause-own
gather_seats-requires-clause-own g c =
    let e = c.args.ended in
    let plan = c.args.plan.now in
    all_claims g.J.Job.ticket (arc_value plan.linked) plan.serving c.args.board.now c.args.claims.now e.served.items e.loops.items e.workers.items e.seats.items (λ k q. Unit {0}) (anyhow g.J.Job.ticket (arc_value plan.linked) plan.serving c.args.board.now c.args.claims.now e.served.items e.loops.items e.loop_seats.items c.requires.loops_end) c.requires.workers_end

pub settle_loops-crew-requires-clause-own : goal.settle_loops-crew-requires-clause-own
settle_loops-crew-requires-clause-own g c =
    let e = c.args.ended in
    let plan = c.args.plan.now in
    all_unjoined g.J.Job.ticket (arc_value plan.linked) plan.serving c.args.board.now c.args.claims.now e.served.items e.loops.items e.loop_seats.items c.requires.loops_end

pub returns-clause-each : goal.returns-clause-each
returns-clause-each g c =
    let e = c.args.ended in
    let plan = c.args.plan.now in
    each_served g.J.Job.ticket (arc_value plan.linked) plan.serving c.args.board.now c.args.claims.now e.served.items e.loops.items e.workers.items e.seats.items (λ k q. Unit {0}) (anyhow g.J.Job.ticket (arc_value plan.linked) plan.serving c.args.board.now c.args.claims.now e.served.items e.loops.items e.loop_seats.items c.requires.loops_end) c.requires.workers_end

pub returns-clause-joint : goal.returns-clause-joint
returns-clause-joint g c =
    let e = c.args.ended in
    let plan = c.args.plan.now in
    let items = c.in_ok-append.ensures.items in
    let whole = rw items at c.gather_all.ensures.jobs in
    let replies = rw c.requires.loops.0 at (subst (AreRepliesWhole (length c.args.board.now.replies)) items c.gather_all.ensures.replies) in
    let crew = c.settle_loops-crew.ensures in
    let all = c.gather_seats.ensures in
    let P : ℕ → LoopView → Type 0 = λ k q. IsSettledWith c.gather_seats.result.started q in
    jointly g.J.Job.ticket (arc_value plan.linked) plan.serving c.args.board.now c.args.claims.now e.served.items e.loops.items e.workers.items e.seats.items P
    (seated g.J.Job.ticket (arc_value plan.linked) plan.serving c.args.board.now c.args.claims.now e.served.items e.loops.items e.loop_seats.items c.requires.loops_end P
    (from_all (λ (q : LoopView). IsSettledWith c.gather_seats.result.started q) e.loop_seats.items crew.settled))
    c.requires.workers_end c.settle_loops-crew.result crew.claims (λ k q h. subst (λ xs. IsSettledWith xs q) (sym crew.started) h)
    c.requires.loops_count c.requires.workers_count (crew.started ∙ all.started) (subst EachOnce (sym crew.started) all.once) whole replies
