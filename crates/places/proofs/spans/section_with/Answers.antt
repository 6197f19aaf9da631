use Rattle.places.proofs.Words.{Section, slice_range, [], ◌++◌, ◌∷◌}
use Rattle.places.proofs.SpanLaws.{past_more}
use Rattle.places.proofs.spans.section_with.Goals as goal

pub loop-preserved : goal.loop-preserved
loop-preserved c =
    let s : Section = record { id = c.in_ok-id.id; contents = slice_range c.args.bytes.now c.in_ok-id.section.from c.in_ok-id.section.to } in
    (c.loop.invariant.0 ++ s ∷ [], past_more s c.loop.invariant.1 c.in_ok-id.ensures.here)
