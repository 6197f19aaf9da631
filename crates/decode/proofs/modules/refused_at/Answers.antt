use Rattle.std.proofs.Common.{refl, inl, arith}
use Rattle.decode.proofs.ModuleReads.{fronts}
use Rattle.decode.proofs.modules.refused_at.Goals as goal
use Rattle.decode.proofs.modules.refused_at.Goals.{in-Ok, in-Err}

pub returns-clause-refused : goal.returns-clause-refused
returns-clause-refused c = elim c.match-contents.branch [
  | in-Ok w ↦ rw w.result-is (w.in-Ok.field-0, w.in-Ok.ensures)
  | in-Err w ↦ rw w.result-is (λ ok. (w.in-Err.ensures ok).holds _ (inl refl))
]

pub returns-clause-front : goal.returns-clause-front
returns-clause-front c = elim c.match-contents.branch [
  | in-Ok w ↦ rw w.result-is tt
  | in-Err w ↦ rw w.result-is (λ is more. fronts w.saturating_sub.result (w.in-Err.ensures is.0) (omega arith) is more)
]
