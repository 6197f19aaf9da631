-- How a run ended, without the results.
use Rattle.std.specs.Prelude.{◌≡◌, []}
use Rattle.events.specs.declared.ended.BareEnded.{BareEnded}
use Rattle.events.specs.declared.ended.BareEnding.{BareEnding}
use Rattle.events.specs.declared.ended.BareEnding.TheVariants as bare
use Rattle.events.specs.declared.ended.Ended.{Ended}
use Rattle.events.specs.declared.ended.Ending.{Ending}
use Rattle.events.specs.declared.ended.Ending.TheVariants.{Return, Trap, Depth, Spent}

-- as an ending whose results are none
abbrev pub whole_ending : BareEnding → Ending
whole_ending bare.Return = Return []
whole_ending (bare.Trap code) = Trap code
whole_ending bare.Depth = Depth
whole_ending bare.Spent = Spent

-- as it was, with an ending whose results are none
abbrev pub whole : BareEnded → Ended
whole ended = record { ending = whole_ending ended.ending; used = ended.used }

-- the ending has no results
abbrev pub IsBare : Ending → Type 0
IsBare (Return values) = values ≡ []
IsBare _ = Unit {0}
