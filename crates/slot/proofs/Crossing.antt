-- What a pointer leads to may go to another thread where its type may.
use Rattle.slot.proofs.Words.{block_ptr, Keyless, null_ptr, Ptr, RattleType}
use base.Fraction.{full_share}
use denote.Exit.{Exit, unchanged, leaves, hidden, under}
use denote.RawPtr.{lies_at}
use denote.Param.Send.{IsSend, Quiet, part_keyless}

pub quiet : {D X : Type 0} (to : D → X) (e : Exit X) → Quiet e → Quiet (hidden (under to e))
quiet to unchanged q = λ x w. tt
quiet to (leaves L l S s r₀) q = λ d. q (to d)

pub lies : (R : RattleType) → IsSend R → (p : Ptr) (x : R.Denot) → Keyless (lies_at R full_share p x)
lies R s (block_ptr b o) x = part_keyless R s full_share x b o
lies R s null_ptr x = tt
