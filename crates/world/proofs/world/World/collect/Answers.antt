use Rattle.world.proofs.Words.{answers_of, ap, length, length-map, length-set, map, map-set, slice_set, Some, sym, [], ◌<◌, ◌∙◌, ◌≡◌}
use Rattle.world.proofs.Sets.{kept_set}
use Rattle.world.proofs.StepsAgree.{read}
use Rattle.world.proofs.CollectsAgree.{reads_at, emptied, collect_failed, collect_nothing, collect_taken, collect_stranger}
use Rattle.world.proofs.world.World.collect.Goals as goal
use Rattle.world.proofs.world.World.collect.Goals.{in-Accepted, in-Stranger}

pub returns-then-failed-clause-ran : goal.returns-then-failed-clause-ran
returns-then-failed-clause-ran c =
    let within : c.args.loop_no < length c.self.inside.loops.items = c.in-Some.ensures.item.3.0 in
    collect_failed c.args.self.now c.self.inside.loops.items _ _ _ c.self.view_is c.args.loop_no c.in-Some.core.now
    (read c.self.inside.loops.items c.args.loop_no c.in-Some.core.now c.in-Some.ensures.item.3.0 c.in-Some.ensures.item.3.1)
    (rw (length-map c.self.inside.replies.items (λ d. answers_of d.items) ∙ c.self.invariant.paired) within) (sym c.failed.ensures ∙ c.if-failed.true)

pub returns-in_default-pop_front-clause-ran : goal.returns-in_default-pop_front-clause-ran
returns-in_default-pop_front-clause-ran c =
    let within : c.args.loop_no < length c.self.inside.replies.items = rw c.self.invariant.paired c.in-Some.ensures.item.3.0 in
    let none : c.index_mut.result.now.items ≡ [] = emptied c.index_mut.result.now.items (sym c.index_mut.result.now.ok.0 ∙ c.in_default-pop_front.ensures.cases.0) in
    collect_nothing c.args.self.now c.self.inside.loops.items _ _ _ c.self.view_is c.args.loop_no c.in-Some.core.now
    (read c.self.inside.loops.items c.args.loop_no c.in-Some.core.now c.in-Some.ensures.item.3.0 c.in-Some.ensures.item.3.1)
    _ (reads_at (λ d. answers_of d.items) c.self.inside.replies.items c.args.loop_no c.index_mut.result.now within c.index_mut.ensures.value
    ∙ ap (λ xs. Some (answers_of xs)) none) (sym c.failed.ensures ∙ c.if-failed.false)
    (map-set (λ d. answers_of d.items) c.self.inside.replies.items c.args.loop_no c.pop_front.new.self
    ∙ ap (λ xs. slice_set (map (λ d. answers_of d.items) c.self.inside.replies.items) c.args.loop_no (answers_of xs))
    (sym c.in_default-pop_front.ensures.items ∙ none))

pub invariant_of-self-2 : goal.invariant_of-self-2
invariant_of-self-2 c =
    rw (length-set c.self.inside.replies.items c.args.loop_no c.pop_front.new.self) (kept_set c.self.inside.loops.items _ _ _ _ c.args.loop_no c.in-Some.core.now c.accept.new.self
    (read c.self.inside.loops.items c.args.loop_no c.in-Some.core.now c.in-Some.ensures.item.3.0 c.in-Some.ensures.item.3.1) c.accept.ensures.setting c.self.invariant)

pub returns-clause-ran : goal.returns-clause-ran
returns-clause-ran c =
    let within : c.args.loop_no < length c.self.inside.replies.items = rw c.self.invariant.paired c.in-Some.ensures.item.3.0 in
    let at = read c.self.inside.loops.items c.args.loop_no c.in-Some.core.now c.in-Some.ensures.item.3.0 c.in-Some.ensures.item.3.1 in
    let waits =
    reads_at (λ d. answers_of d.items) c.self.inside.replies.items c.args.loop_no c.index_mut.result.now within c.index_mut.ensures.value
    ∙ ap (λ xs. Some (answers_of xs)) c.in-Some-pop_front.ensures.items in
    let after = map-set (λ d. answers_of d.items) c.self.inside.replies.items c.args.loop_no c.pop_front.new.self in
    let going = sym c.failed.ensures ∙ c.if-failed.false in
    elim c.match-accept.branch [
      | in-Accepted w ↦
          collect_taken c.args.self.now c.self.inside.loops.items _ _ _ c.self.view_is c.args.loop_no c.in-Some.core.now at c.in-Some-pop_front.reply
          (answers_of c.pop_front.new.self.items) _ c.accept.new.self waits going c.accept.ensures.setting after
          c.accept.result c.match-accept.outcome c.accept.ensures.told w.in-Accepted.is w.outcome-is
      | in-Stranger w ↦
          collect_stranger c.args.self.now c.self.inside.loops.items _ _ _ c.self.view_is c.args.loop_no c.in-Some.core.now at c.in-Some-pop_front.reply
          (answers_of c.pop_front.new.self.items) _ c.accept.new.self waits going c.accept.ensures.setting after
          c.accept.result w.in-Stranger.field-0 c.match-accept.outcome c.accept.ensures.told w.in-Stranger.is w.outcome-is
    ]
