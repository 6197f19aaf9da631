-- What a loop's take seat is while nobody but the loop sends.
use Rattle.std.specs.Prelude.{◌≡◌, ℕ, ◌+◌, [], length, slice_index}
use Rattle.marks.specs.Counts.{Taker}

-- No send seat is apart, and none was joined. Of each async all that was taken is the loop's own sends, but for those that
-- it has not taken yet.
abbrev pub IsAlone : Taker → Type 0
IsAlone t =
    (t.apart ≡ 0)
    × (t.joined ≡ [])
    × (length t.untaken ≡ length t.own)
    × ((a : ℕ) → slice_index t.taken a + slice_index t.untaken a ≡ slice_index t.own a)
