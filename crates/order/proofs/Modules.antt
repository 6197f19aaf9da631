-- Modules with the same bytes are the same.
use Rattle.order.proofs.Words.{Contents, List, Loaded, subst, ℕ, ◌≡◌}
use Rattle.syntax.specs.Binary.{Spells}

pub same_loaded : ((bytes : List ℕ) (c d : Contents) → Spells bytes c → Spells bytes d → c ≡ d)
    → (a b : Loaded) → Spells a.bytes a.contents → Spells b.bytes b.contents → a.bytes ≡ b.bytes → a ≡ b
same_loaded one a b h k bytes =
    let contents : a.contents ≡ b.contents = one b.bytes a.contents b.contents (subst (λ (bs : List ℕ). Spells bs a.contents) bytes h) k in
    λ i. record { bytes = bytes i; contents = contents i }
