-- The seats of workers, taken into one, and those of loops, from the last on.
use Rattle.serve.proofs.Words.{All, ap, append_assoc, arith, flat_map, get_or, length, length_push, List, refl, subst, suc, sym, Ticket}
use Rattle.serve.proofs.Words.{WorkerView, [], ◌++◌, ◌∙◌, ◌∷◌, ◌≡◌}
use Rattle.std.proofs.lemmas.List.{get_or_push}
use Rattle.std.proofs.lemmas.List.Elements.{All-push}
use Rattle.std.proofs.Math.ListN.{get_or-append}

module _ {A : Type 0} (P : A → Type 0) where
  pub all_front : (xs ys : List A) (x : A) → xs ≡ ys ++ x ∷ [] → All P xs → All P ys
  all_front xs ys x e all k d below =
      let size = ap length e ∙ length_push ys x in
      subst P (ap (λ l. get_or l k d) e ∙ get_or-append ys (x ∷ []) d k below) (all k d (omega arith))

  pub all_last : (xs ys : List A) (x : A) → xs ≡ ys ++ x ∷ [] → All P xs → P x
  all_last xs ys x e all =
      let size = ap length e ∙ length_push ys x in
      subst P (ap (λ l. get_or l (length ys) x) e ∙ get_or_push ys x x (length ys) refl) (all (length ys) x (omega arith))

  pub all_both : (xs ys : List A) (x : A) → xs ≡ ys ++ x ∷ [] → All P ys → P x → All P xs
  all_both xs ys x e front last = subst (All P) (sym e) (All-push P ys x front last)

abbrev started : List WorkerView → List Ticket
started seats = flat_map (λ (s : WorkerView). s.started) seats

-- one seat more is taken in
pub one_gathered : (rest more : List WorkerView) (seat : WorkerView) (crew new all : List Ticket) → rest ≡ seat ∷ more → new ≡ crew ++ seat.started
    → crew ++ started rest ≡ all → new ++ started more ≡ all
one_gathered rest more seat crew new all e joined was =
    ap (λ xs. xs ++ started more) joined ∙ append_assoc crew seat.started (started more) ∙ ap (λ xs. crew ++ started xs) (sym e) ∙ was

-- the first of them, and the others
pub first_and_rest : {A : Type 0} (P : A → Type 0) (rest more : List A) (x : A) → rest ≡ x ∷ more → All P rest → P x × All P more
first_and_rest P rest more x e all =
    let each = subst (All P) e all in
    (each 0 x (omega arith), λ k d below. each (suc k) d (omega arith))
