-- Replies to one order hold one end.
use Rattle.std.proofs.Common.{◌≡◌, ◌≢◌, refl}
use Rattle.std.proofs.Math.Logic.{∥∥₁_elim}
use Rattle.std.proofs.Math.Nat.{ℕ_set}
use mathlib.Core.List.{is_set}
use mathlib.Core.Sum.{⊎_set}
use Rattle.order.specs.Work.{WorkOrder, WorkEnd, NoMemory, IsTheEnd, IsEndOf}

is_the_end : (o : WorkOrder) (e : WorkEnd) → IsEndOf o e → e ≢ NoMemory → IsTheEnd o e
is_the_end o NoMemory h not = absurd (not refl)
is_the_end o _ h not = h

ends_are_a_set : IsSet WorkEnd
ends_are_a_set = hlevel (ℕ_set, is_set, ⊎_set)

pub agree : (o : WorkOrder) (end other : WorkEnd) → ∥ IsEndOf o end ∥₁ → ∥ IsEndOf o other ∥₁ → end ≢ NoMemory → other ≢ NoMemory → end ≡ other
agree o end other h k not none =
    ∥∥₁_elim h (ends_are_a_set end other) (λ a.
    ∥∥₁_elim k (ends_are_a_set end other) (λ b.
    (is_the_end o other b none).only end (is_the_end o end a not).computed))
