-- Seats that are all alike are of the same marks.
use Rattle.std.proofs.Common.{◌≡◌, ℕ, List, All, refl, subst, sym}
use Rattle.std.proofs.Math.ListN.{replicate}
use Rattle.std.proofs.lemmas.List.Elements.{All-replicate}
use Rattle.marks.specs.Counts.{Sender}

pub all_send : (one : Sender) (n : ℕ) (seats : List Sender) → seats ≡ replicate n one → All (λ s. s.marks ≡ one.marks) seats
all_send one n seats is =
    subst (λ (xs : List Sender). All (λ s. s.marks ≡ one.marks) xs) (sym is) (All-replicate (λ (s : Sender). s.marks ≡ one.marks) n one refl)
