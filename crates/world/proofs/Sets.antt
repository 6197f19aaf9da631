-- Lists of a world, and their changes at one place.
use Rattle.world.proofs.Words.{All, ap, arith, Core, Desk, IsJob, length, length-set, List, LoopsAreNumbered, map, MAX_JOBS, Order, refl, slice_get, slice_set}
use Rattle.world.proofs.Words.{Some, subst, suc, sym, WorldIsKept, zero, ℕ, [], ◌++◌, ◌+◌, ◌∙◌, ◌∷◌, ◌≡◌, ◌≢◌}
use Rattle.std.proofs.lemmas.List.{length_push}
use Rattle.std.proofs.lemmas.List.Elements.{All-push}
use Rattle.world.specs.declared.worker.Worker.{Worker}

-- what stands in a list that was made of another
pub made_of : {X Y : Type 0} (f : X → Y) (xs : List X) (n : ℕ) (y : Y) → slice_get (map f xs) n ≡ Some y → (x : X) × (slice_get xs n ≡ Some x) × (f x ≡ y)
made_of f [] n y h = absurd (cc)
made_of f (x ∷ xs) zero y h = (x, refl, (cc))
made_of f (x ∷ xs) (suc n) y h = made_of f xs n y h

-- a loop stands otherwise, under the same number
numbered_set : (k : ℕ) (ls : List (Core Desk)) (n : ℕ) (p q : Core Desk) → slice_get ls n ≡ Some p → q.setting ≡ p.setting → LoopsAreNumbered k ls → LoopsAreNumbered k (slice_set ls n q)
numbered_set k [] n p q at e h = h
numbered_set k (x ∷ xs) zero p q at e h = let same : x ≡ p = cc in (ap (λ g. g.loop_no) (e ∙ ap (λ y. y.setting) (sym same)) ∙ h.0, h.1)
numbered_set k (x ∷ xs) (suc n) p q at e h = (h.0, numbered_set (k + 1) xs n p q at e h.1)

pub numbered_at : (k : ℕ) (ls : List (Core Desk)) (n : ℕ) (p : Core Desk) → slice_get ls n ≡ Some p → LoopsAreNumbered k ls → p.setting.loop_no ≡ k + n
numbered_at k [] n p at h = absurd (cc)
numbered_at k (x ∷ xs) zero p at h = let same : x ≡ p = cc in ap (λ y. y.setting.loop_no) (sym same) ∙ h.0 ∙ omega arith
numbered_at k (x ∷ xs) (suc n) p at h = numbered_at (k + 1) xs n p at h.1 ∙ omega arith

pub kept_set : (ls : List (Core Desk)) (js : List Order) (hs : List Worker) (lists room : ℕ) (n : ℕ) (p q : Core Desk) → slice_get ls n ≡ Some p → q.setting ≡ p.setting
    → WorldIsKept ls js hs lists room → WorldIsKept (slice_set ls n q) js hs lists room
kept_set ls js hs lists room n p q at e h =
    let long : length (slice_set ls n q) ≡ length ls = length-set ls n q in
    record {
      numbered = numbered_set 0 ls n p q at e h.numbered;
      waiting = rw long h.waiting;
      held = rw long h.held;
      paired = h.paired ∙ sym long;
      few = h.few;
      roomy = h.roomy;
    }

pub kept_push : (ls : List (Core Desk)) (js js' : List Order) (hs : List Worker) (lists room room' : ℕ) (o : Order) → js' ≡ js ++ o ∷ [] → room' ≡ room → length js ≢ MAX_JOBS → IsJob (length ls) o
    → WorldIsKept ls js hs lists room → WorldIsKept ls js' hs lists room'
kept_push ls js js' hs lists room room' o pushed same other job h = record {
  numbered = h.numbered;
  waiting = subst (All (IsJob (length ls))) (sym pushed) (All-push (IsJob (length ls)) js o h.waiting job);
  held = h.held;
  paired = h.paired;
  few = (let long : length js' ≡ length js + 1 = ap length pushed ∙ length_push js o in let few = h.few in omega arith);
  roomy = rw same h.roomy;
}
