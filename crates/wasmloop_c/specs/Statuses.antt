-- The numbers of the statuses, as wasmloop.h has them.
use Rattle.std.specs.Prelude.{◌≡◌, ◌≢◌, ℕ, Result, Ok, Err, IfOk}
use Rattle.wasmloop_c.specs.declared.status.TheConstants.{OK, NONE, EMPTY, KIND, MEMORY, REFUSED, RANGE, STRANGER, USED_UP, NO_WORK, NOT_STARTED, ARGUMENTS}

pub record AreStatuses : Type 0 where
  pub ok : OK ≡ 0
  pub none : NONE ≡ 1
  pub empty : EMPTY ≡ 2
  pub kind : KIND ≡ 3
  pub memory : MEMORY ≡ 4
  pub refused : REFUSED ≡ 5
  pub range : RANGE ≡ 6
  pub stranger : STRANGER ≡ 7
  pub used_up : USED_UP ≡ 8
  pub no_work : NO_WORK ≡ 10
  pub not_started : NOT_STARTED ≡ 11
  pub arguments : ARGUMENTS ≡ 12

-- what C is answered: MEMORY where memory was refused, which the error shows
abbrev pub status_in : {E : Type 0} → Result ℕ E → ℕ
status_in (Ok status) = status
status_in (Err refused) = MEMORY

-- and nowhere else
abbrev pub OnlyRefused : {E : Type 0} → Result ℕ E → Type 0
OnlyRefused answer = IfOk answer (λ status. status ≢ MEMORY)
