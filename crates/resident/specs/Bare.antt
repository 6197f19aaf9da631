-- What a slice leaves of a call whose results are written to places that are lent.
use Rattle.std.specs.Prelude.{◌≡◌, ℕ, List}
use Rattle.syntax.specs.declared.types.Value.{Value}
use Rattle.syntax.specs.declared.contents.Contents.{Contents}
use Rattle.interp.specs.Lent.{ended_in}
use Rattle.resident.specs.Calls.{KeptInstance}
use Rattle.resident.specs.Underway.{CallUnderway, HasCome, used_by}
use Rattle.resident.specs.Slices.{CallGoesOn}
use Rattle.resident.specs.declared.calling.BareGoing.{BareGoing}
use Rattle.resident.specs.declared.calling.BareGoing.TheVariants as bare
use Rattle.resident.specs.declared.calling.Going.{Going}
use Rattle.resident.specs.declared.calling.Going.TheVariants.{Over, Paused}

-- the same with the results, which stand in the first of these places, where it returned
abbrev pub whole_going : Contents → (function : ℕ) → BareGoing → (places : List Value) → Going
whole_going m function (bare.Over b ended) places = Over b (ended_in m function ended places)
whole_going m function (bare.Paused c) places = Paused c

-- A call begins, of which nothing has run, and goes on for so many units: one that is over has ended as one call at once.
abbrev pub BeginsGoing : KeptInstance → (depth fuel function : ℕ) → List Value → (units : ℕ) → Going → Type 0
BeginsGoing a depth fuel function args units going =
    (c : CallUnderway) × HasCome a depth fuel function args c × (used_by c ≡ 0) × CallGoesOn c units going
