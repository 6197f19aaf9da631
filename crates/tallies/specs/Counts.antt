-- Counts by async: a list of them has a number for each async of a loop.
use Rattle.std.specs.Prelude.{ℕ, ◌+◌, List, replicate, slice_index, slice_set}
use Rattle.limits.specs.declared.TheConstants.{MAX_ASYNCS}

-- nothing was counted yet
abbrev pub none_counted : List ℕ
none_counted = replicate MAX_ASYNCS 0

-- the counts with n more of the async a
abbrev pub raised : List ℕ → ℕ → ℕ → List ℕ
raised counts a n = slice_set counts a (slice_index counts a + n)
