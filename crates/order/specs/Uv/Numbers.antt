-- The numbers that a guest is answered where a call does not do what it asks, read as signed.
use Rattle.std.specs.Prelude.{◌≡◌, ℕ, ◌-◌, ◌^◌}
use Rattle.order.specs.declared.uv.answers.TheConstants.{NOT_HERE, NO_ROOM, NO_MEMORY, OUTSIDE_MEMORY, BUSY, INVALID, NONE_LEFT}
use Rattle.order.specs.declared.uv.answers.TheConstants.{NO_SUCH_EXPORT, CANCELLED_CODE}

-- a negative number of 32 bits
abbrev pub minus : ℕ → ℕ
minus n = 2 ^ 32 - n

pub record AreNumbers : Type 0 where
  pub not_here : NOT_HERE ≡ minus 1
  pub no_room : NO_ROOM ≡ minus 11
  pub no_memory : NO_MEMORY ≡ minus 12
  pub outside_memory : OUTSIDE_MEMORY ≡ minus 14
  pub busy : BUSY ≡ minus 16
  pub invalid : INVALID ≡ minus 22
  pub none_left : NONE_LEFT ≡ minus 28
  pub no_such_export : NO_SUCH_EXPORT ≡ minus 38
  pub cancelled : CANCELLED_CODE ≡ minus 125
