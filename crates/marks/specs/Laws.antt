-- What follows from the rule of the words, wherever they stand and whatever all seats know.
use Rattle.std.specs.Prelude.{◌≡◌, ℕ, ◌+◌, ◌^◌, ◌<◌, ◌≤◌, List, slice_index, sum_by}
use mathlib.Core.Option.{some}
use lib.ListN.{get_elem?}
use Rattle.marks.specs.declared.rule.SendsView.{SendsView}
use Rattle.marks.specs.Rule.{sent, taken_from, IsCounted}

abbrev pub AlwaysCounted : (List ℕ → List SendsView → Type 0) → Type 0
AlwaysCounted law = (words : List ℕ) (views : List SendsView) → IsCounted words views → law words views

-- to each async, the sends of all seats are what its loop took and what waits in its word
abbrev pub SentIsTakenOrWaits : List ℕ → List SendsView → Type 0
SentIsTakenOrWaits words views = (a : ℕ) → sum_by (sent a) views ≡ taken_from a views + slice_index words a

-- the sends of each seat, and of those joined to it, are among these
abbrev pub EachIsCounted : List ℕ → List SendsView → Type 0
EachIsCounted words views =
    (a seat : ℕ) (v : SendsView) → get_elem? views seat ≡ some v → sent a v ≤ taken_from a views + slice_index words a

-- no word comes near its end, whatever was sent and not yet taken
abbrev pub WordsFit : List ℕ → List SendsView → Type 0
WordsFit words views = (a : ℕ) → slice_index words a < 2 ^ 64
