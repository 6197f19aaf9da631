use Rattle.valid.proofs.Words.{All, DataFits, take}
use Rattle.valid.proofs.segments.data_fits.Given as goal

abbrev pub invariant-loop-segment : goal.invariant-loop-segment
invariant-loop-segment l = All (DataFits l.contents) (take l.segment-index l.contents.«data»)
