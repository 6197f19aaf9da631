use Rattle.places.proofs.Words.{length, refl, rules, slice_get_read}
use Rattle.places.proofs.WalkLaws.{one_none, no_cut_past, no_cut_size, cut_fits, cut_there}
use Rattle.places.proofs.spans.cut_at.Goals as goal

pub returns-then-at-bytes : goal.returns-then-at-bytes
returns-then-at-bytes c = no_cut_past c.args.bytes.now c.args.at c.if-at-bytes.true

pub returns-in_err-said : goal.returns-in_err-said
returns-in_err-said c = one_none _ (search rules) (no_cut_size c.args.bytes.now c.args.at c.in_err-said.ensures.none)

pub returns-then-said-left : goal.returns-then-said-left
returns-then-said-left c = cut_fits c.args.bytes.now c.args.at c.in_ok-said.said c.in_ok-said.from c.in_ok-said.ensures.here c.if-said-left.true

pub returns : goal.returns
returns c =
    cut_there c.args.bytes.now c.args.at _ c.in_ok-said.said c.in_ok-said.from (slice_get_read c.args.bytes.now (length c.args.bytes.now) c.args.at _ refl (search rules) (search rules)) c.in_ok-said.ensures.here (search rules)
