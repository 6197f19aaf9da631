use Rattle.places.proofs.Words.{length, refl, rules, slice_get_read}
use Rattle.places.proofs.SpanLaws.{section_stands}
use Rattle.places.proofs.WalkLaws.{if_none, no_size}
use Rattle.places.proofs.spans.section_at.Goals as goal

pub returns-clause-here : goal.returns-clause-here
returns-clause-here c =
    section_stands (slice_get_read c.args.bytes.now (length c.args.bytes.now) c.args.at _ refl (search rules) (search rules)) c.in_ok-span.ensures.here

pub returns-in_err-span-clause-none : goal.returns-in_err-span-clause-none
returns-in_err-span-clause-none c = if_none _ (no_size c.args.bytes.now c.args.at c.in_err-span.ensures.none)
