use Rattle.std.proofs.Common.{◌≡◌, ◌+◌, ◌*◌, ◌≤◌, slice_index, sum_by, arith}
use Rattle.limits.specs.declared.TheConstants.{MAX_SEND_SEATS, MAX_SENDS}
use Rattle.tallies.proofs.Lists.{part_of_sum}
use Rattle.marks.specs.Rule.{sent, taken_from}
use Rattle.marks.specs.Laws.{AlwaysCounted, EachIsCounted, WordsFit}
use Rattle.marks.proofs.Moves.{sent-within}
use Rattle.marks.proofs.laws.none_lost_or_invented.Goals as goal

each : AlwaysCounted EachIsCounted
each words views kept a seat v at =
    let all : sum_by (sent a) views ≡ taken_from a views + slice_index words a = kept.sends a in
    let part : sent a v ≤ sum_by (sent a) views = part_of_sum (sent a) views seat v at in
    omega arith

fit : AlwaysCounted WordsFit
fit words views kept a =
    let all : sum_by (sent a) views ≡ taken_from a views + slice_index words a = kept.sends a in
    let most : sum_by (sent a) views ≤ (MAX_SEND_SEATS + 1) * MAX_SENDS = sent-within words views kept a in
    omega arith

pub returns : goal.returns
returns c = record { all = λ words views kept. kept.sends; each = each; fit = fit }
