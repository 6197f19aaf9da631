-- A step on one of the lines of replies.
use Rattle.board.proofs.Words.{ap, arith, HandView, length, length-map, LineView, List, map, None, refl, Reply, same_Some, set, set_same, slice_get, Some}
use Rattle.board.proofs.Words.{subst, suc, sym, zero, ℕ, [], ◌<◌, ◌∙◌, ◌∷◌, ◌≡◌}
use Rattle.std.proofs.Common.{Option, IfSome, IfNone}
use Rattle.board.proofs.Makers.{same_part}
use Rattle.board.specs.Boards.{BoardView, PassView, AreOfTheirLoops, IsPassOf, OnReplies}

pub some_then : {A : Type 0} (P Q : A → Type 0) (o : Option A) → ((x : A) → P x → Q x) → IfSome o P → IfSome o Q
some_then P Q None f h = tt
some_then P Q (Some x) f h = f x h

pub none_then : {A : Type 0} (P Q : Type 0) (o : Option A) → (P → Q) → IfNone o P → IfNone o Q
none_then P Q None f h = f h
none_then P Q (Some x) f h = tt

lines_set : (hands : List (HandView Reply)) (k : ℕ) (a b : HandView Reply) → slice_get hands k ≡ Some a → b.line ≡ a.line → map (λ h. h.line) (set hands k b) ≡ map (λ h. h.line) hands
lines_set [] k a b e same = refl
lines_set (x ∷ xs) zero a b e same = ap (λ l. l ∷ map (λ h. h.line) xs) (same ∙ sym (ap (λ (h : HandView Reply). h.line) (same_Some x a e)))
lines_set (x ∷ xs) (suc k) a b e same = ap (λ ls. x.line ∷ ls) (lines_set xs k a b e same)

pub there : {J : Type 0} (old : PassView J) (jobs : HandView J) (replies : List (HandView Reply)) → record { jobs = jobs; replies = replies } ≡ old → (board : BoardView) → IsPassOf board old → (k : ℕ)
    → k < length board.replies → k < length replies
there old jobs replies was board own k below =
    let ids = length-map board.replies (λ (l : LineView). l.id) in
    let same : length (map (λ (l : LineView). l.id) board.replies) ≡ length (map (λ (h : HandView Reply). h.line) replies) =
    ap length (sym own.replies) ∙ ap (λ (p : PassView _). length (map (λ (h : HandView Reply). h.line) p.replies)) (sym was) in
    let size = length-map replies (λ (h : HandView Reply). h.line) in
    omega arith

-- the hand and the line of one loop's replies belong together
pub line_there : {J : Type 0} (old : PassView J) (jobs : HandView J) (replies : List (HandView Reply)) → record { jobs = jobs; replies = replies } ≡ old → (board : BoardView) → IsPassOf board old
    → (line : LineView) (lines : List LineView) → record { jobs = line; replies = lines } ≡ board → (k : ℕ) (h : HandView Reply) (l : LineView)
    → slice_get replies k ≡ Some h → slice_get lines k ≡ Some l → h.line ≡ l.id
line_there old jobs replies was board own line lines is k h l at on =
    same_part (λ (h : HandView Reply). h.line) (λ (l : LineView). l.id) replies lines k h l
    (ap (λ (p : PassView _). map (λ h. h.line) p.replies) was ∙ own.replies ∙ ap (λ (b : BoardView). map (λ l. l.id) b.replies) (sym is)) at on

-- a fact of each place, where one is changed
each_set : {A : Type 0} (P : ℕ → A → Type 0) (xs : List A) (k : ℕ) (b : A) → ((i : ℕ) (x : A) → slice_get xs i ≡ Some x → P i x) → P k b → (i : ℕ) (x : A) → slice_get (set xs k b) i ≡ Some x → P i x
each_set P [] k b h own i x e = h i x e
each_set P (y ∷ xs) zero b h own zero x e = subst (P 0) (same_Some b x e) own
each_set P (y ∷ xs) zero b h own (suc i) x e = h (suc i) x e
each_set P (y ∷ xs) (suc k) b h own zero x e = h zero x e
each_set P (y ∷ xs) (suc k) b h own (suc i) x e = each_set (λ j. P (suc j)) xs k b (λ j z. h (suc j) z) own i x e

pub still_of_loops : (hands : List (HandView Reply)) (k : ℕ) (a b : HandView Reply) → slice_get hands k ≡ Some a → b.key ≡ a.key → AreOfTheirLoops hands → AreOfTheirLoops (set hands k b)
still_of_loops hands k a b at same each = each_set (λ i (h : HandView Reply). h.key ≡ i) hands k b each (same ∙ each k a at)

module _ {J : Type 0} (old : PassView J) (jobs : HandView J) (replies : List (HandView Reply)) (was : record { jobs = jobs; replies = replies } ≡ old)
    (k : ℕ) (a b : HandView Reply) (at : slice_get replies k ≡ Some a) where
  pub still_own : (board : BoardView) → IsPassOf board old → b.line ≡ a.line → IsPassOf board (record { jobs = jobs; replies = set replies k b })
  still_own board own same =
      record {
        jobs = ap (λ (p : PassView J). p.jobs.line) was ∙ own.jobs;
        replies = lines_set replies k a b at same ∙ ap (λ (p : PassView J). map (λ h. h.line) p.replies) was ∙ own.replies;
      }

  pub still_same : b ≡ a → record { jobs = jobs; replies = set replies k b } ≡ old
  still_same same = ap (λ (rs : List (HandView Reply)). record { jobs = jobs; replies = rs }) (ap (set replies k) same ∙ set_same replies k a at) ∙ was

  pub on_replies : (P : HandView Reply → HandView Reply → Type 0) → P a b → OnReplies P old (record { jobs = jobs; replies = set replies k b }) k
  on_replies P did =
      record {
        before = a;
        after = b;
        was = ap (λ (p : PassView J). slice_get p.replies k) (sym was) ∙ at;
        did = did;
        replies = ap (λ (p : PassView J). set p.replies k b) was;
        jobs = ap (λ (p : PassView J). p.jobs) was;
      }
