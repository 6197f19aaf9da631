use Rattle.std.proofs.Common.{◌≡◌, ℕ, zero, suc, ◌+◌, List, [], ◌∷◌, Some, ap, ◌∙◌, sym, add-one, arith}
use Rattle.std.specs.Prelude.{slice_get}
use Rattle.syntax.specs.declared.instruction.Token.{Token}
use Rattle.sentences.specs.Defects.{open_before, open_behind}
use Rattle.sentences.proofs.operations.labels_at.Goals as goal

-- one operation more
open_more : (ops : List Token) (at depth : ℕ) (o : Token) → slice_get ops at ≡ Some o
    → open_before (suc at) ops depth ≡ open_behind o (open_before at ops depth)
open_more [] at depth o there = cc
open_more (x ∷ ops) zero depth o there = let same : x ≡ o = cc in ap (λ (t : Token). open_behind t depth) same
open_more (x ∷ ops) (suc at) depth o there = open_more ops at (open_behind x depth) o there

pub loop-at-preserved : goal.loop-at-preserved
loop-at-preserved c =
    let ops : List Token = c.args.ops.now in
    let at : ℕ = c.loop-at.at in
    let o : Token = c.operation.result in
    let before : c.loop-at.depth ≡ open_before at ops 0 = c.loop-at.invariant.0 in
    let more : open_before (at + 1) ops 0 ≡ open_behind o (open_before at ops 0) =
    ap (λ (n : ℕ). open_before n ops 0) (add-one at) ∙ open_more ops at 0 o c.operation.ensures in
    (c.open_behind-depth.ensures.value ∙ ap (open_behind o) before ∙ sym more, omega arith)
