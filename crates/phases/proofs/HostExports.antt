-- Whether a module exports a function for the host.
use Rattle.phases.proofs.Words.{All-weaker, Bool, bytes_eq, bytes_eq-Decides, Contents, exports, ExportsFunction, ExportsNothing, false, is_some, List}
use Rattle.phases.proofs.Words.{list_any, list_any_none, MatchOption, None, Option, refl, slice_get, Some, suc, sym, true, zero, ℕ, [], ◌||◌, ◌∷◌, ◌≡◌, ◌≢◌}
use Rattle.syntax.specs.declared.contents.ModuleExport.{ModuleExport}

any_at : {X : Type 0} (p : X → Bool) (xs : List X) (at : ℕ) (x : X) → slice_get xs at ≡ Some x → p x ≡ true → list_any p xs ≡ true
any_at p [] at x h passes = absurd (cc)
any_at p (y ∷ ys) zero x h passes = let same : y ≡ x = cc in rw (same, passes) refl
any_at p (y ∷ ys) (suc at) x h passes =
    elim (p y) as (λ b. (b || list_any p ys) ≡ true) [ true ↦ refl | false ↦ any_at p ys at x h passes ]

false_of : (b : Bool) → (b ≡ true → ⊥) → b ≡ false
false_of true h = absurd (h refl)
false_of false h = refl

pub found_exports : (m : Contents) (name : List ℕ) (o : Option ℕ) → MatchOption o (ExportsNothing m name) (ExportsFunction m name) → is_some o ≡ exports m name
found_exports m name None none =
    sym (list_any_none (λ (e : ModuleExport). bytes_eq e.name name) m.exports
    (All-weaker (λ (e : ModuleExport). name ≢ e.name) (λ (e : ModuleExport). bytes_eq e.name name ≡ false)
    (λ e apart. false_of (bytes_eq e.name name) (λ same. apart (sym ((bytes_eq-Decides e.name name).0 same))))
    m.exports none))
found_exports m name (Some f) h =
    sym (any_at (λ (e : ModuleExport). bytes_eq e.name name) m.exports h.0 h.1 h.2 ((bytes_eq-Decides h.1.name name).1 (sym h.3)))
