-- What passes that were all taken in say of the loops and the workers together.
use Rattle.serve.proofs.Words.{ap, AreHandsOf, arith, asks, Bool, cond, count_by, count_cons, Event, false, get_or, HandView, is_ticket, IsWhole, length, List}
use Rattle.serve.proofs.Words.{map, Named, None, PassView, Put, put_for, refl, Reply, same_Some, slice_get, Some, suc, sum_by-append, sym, Ticket, ticket_of}
use Rattle.serve.proofs.Words.{true, Turn, zero, ℕ, [], ◌++◌, ◌+◌, ◌==◌, ◌∙◌, ◌∷◌, ◌≡◌, ◌≤◌}
use Rattle.std.proofs.Common.{drop, sum_by}
use Rattle.std.proofs.lemmas.List.Sums.{sum_by-cons}
use Rattle.pool.specs.Turns.{Dropped, GivenUp, ticket_in}
use Rattle.serve.specs.Joint.{takes, puts, times_in}

-- two lists are related, element by element
abbrev pub Pairs : {A B : Type 0} → (A → B → Type 0) → List A → List B → Type 0
Pairs R [] [] = Unit {0}
Pairs R (x ∷ xs) (y ∷ ys) = R x y × Pairs R xs ys
Pairs R _ _ = ⊥

sum_map : {A B : Type 0} (F : B → ℕ) (f : A → B) (l : List A) → sum_by F (map f l) ≡ sum_by (λ x. F (f x)) l
sum_map F f [] = refl
sum_map F f (x ∷ l) =
    let a : sum_by F (f x ∷ map f l) ≡ F (f x) + sum_by F (map f l) = sum_by-cons F (f x) (map f l) in
    let b : sum_by (λ y. F (f y)) (x ∷ l) ≡ F (f x) + sum_by (λ y. F (f y)) l = sum_by-cons (λ y. F (f y)) x l in
    let c = sum_map F f l in
    omega arith

pub count_map : {A B : Type 0} (p : B → Bool) (f : A → B) (l : List A) → count_by p (map f l) ≡ count_by (λ x. p (f x)) l
count_map p f l = sum_map (λ y. cond (p y) 1 0) f l

sum_le : {A B : Type 0} (R : A → B → Type 0) (F : A → ℕ) (G : B → ℕ) → ((a : A) (b : B) → R a b → F a ≤ G b) → (xs : List A) (ys : List B) → Pairs R xs ys → sum_by F xs ≤ sum_by G ys
sum_le R F G h [] [] p = omega arith
sum_le R F G h [] (y ∷ ys) p = absurd p
sum_le R F G h (x ∷ xs) [] p = absurd p
sum_le R F G h (x ∷ xs) (y ∷ ys) p =
    let a : sum_by F (x ∷ xs) ≡ F x + sum_by F xs = sum_by-cons F x xs in
    let b : sum_by G (y ∷ ys) ≡ G y + sum_by G ys = sum_by-cons G y ys in
    let c = h x y p.0 in
    let d = sum_le R F G h xs ys p.1 in
    omega arith

sum_ge : {A B : Type 0} (R : A → B → Type 0) (F : A → ℕ) (G : B → ℕ) → ((a : A) (b : B) → R a b → G b ≤ F a) → (xs : List A) (ys : List B) → Pairs R xs ys → sum_by G ys ≤ sum_by F xs
sum_ge R F G h [] [] p = omega arith
sum_ge R F G h [] (y ∷ ys) p = absurd p
sum_ge R F G h (x ∷ xs) [] p = absurd p
sum_ge R F G h (x ∷ xs) (y ∷ ys) p =
    let a : sum_by F (x ∷ xs) ≡ F x + sum_by F xs = sum_by-cons F x xs in
    let b : sum_by G (y ∷ ys) ≡ G y + sum_by G ys = sum_by-cons G y ys in
    let c = h x y p.0 in
    let d = sum_ge R F G h xs ys p.1 in
    omega arith

none_of : {A B : Type 0} (R : A → B → Type 0) (F : A → ℕ) → ((a : A) (b : B) → R a b → F a ≡ 0) → (xs : List A) (ys : List B) → Pairs R xs ys → sum_by F xs ≡ 0
none_of R F h [] [] p = refl
none_of R F h [] (y ∷ ys) p = absurd p
none_of R F h (x ∷ xs) [] p = absurd p
none_of R F h (x ∷ xs) (y ∷ ys) p =
    let a : sum_by F (x ∷ xs) ≡ F x + sum_by F xs = sum_by-cons F x xs in
    let c = h x y p.0 in
    let d = none_of R F h xs ys p.1 in
    omega arith

put_test : (b c : Bool) (t : Ticket) (k : ℕ) (r : Reply) (turns : List Turn) → (r.order.loop_no == k) ≡ b → is_ticket t (ticket_of r.order) ≡ c
    → count_by (λ x. is_ticket t (ticket_of x.order)) (put_for k turns) ≤ count_by (puts t) turns
    → count_by (λ x. is_ticket t (ticket_of x.order)) (put_for k (Put r ∷ turns)) ≤ count_by (puts t) (Put r ∷ turns)
put_test true c t k r turns e f h =
    let is : put_for k (Put r ∷ turns) ≡ r ∷ put_for k turns = ap (λ b. cond b (r ∷ put_for k turns) (put_for k turns)) e in
    let size : count_by (λ x. is_ticket t (ticket_of x.order)) (put_for k (Put r ∷ turns)) ≡ count_by (λ x. is_ticket t (ticket_of x.order)) (r ∷ put_for k turns) = ap (count_by (λ x. is_ticket t (ticket_of x.order))) is in
    let a = count_cons (λ (x : Reply). is_ticket t (ticket_of x.order)) r (put_for k turns) in
    let b = count_cons (puts t) (Put r) turns in
    omega arith
put_test false c t k r turns e f h =
    let is : put_for k (Put r ∷ turns) ≡ put_for k turns = ap (λ b. cond b (r ∷ put_for k turns) (put_for k turns)) e in
    let size : count_by (λ x. is_ticket t (ticket_of x.order)) (put_for k (Put r ∷ turns)) ≡ count_by (λ x. is_ticket t (ticket_of x.order)) (put_for k turns) = ap (count_by (λ x. is_ticket t (ticket_of x.order))) is in
    let b = count_cons (puts t) (Put r) turns in
    omega arith

-- of a ticket no more is put for a loop than is put
pub put_within : (t : Ticket) (k : ℕ) (turns : List Turn) → count_by (λ x. is_ticket t (ticket_of x.order)) (put_for k turns) ≤ count_by (puts t) turns
put_within t k [] = omega arith
put_within t k (Dropped u ∷ turns) = let a = count_cons (puts t) (Dropped u) turns in let h = put_within t k turns in omega arith
put_within t k (Put r ∷ turns) = put_test (r.order.loop_no == k) (is_ticket t (ticket_of r.order)) t k r turns refl refl (put_within t k turns)
put_within t k (GivenUp r ∷ turns) = let a = count_cons (puts t) (GivenUp r) turns in let h = put_within t k turns in omega arith

module _ {J : Type 0} (ticket : J → Ticket) (t : Ticket) where
  -- with the pass no more jobs of the ticket were posted than its order was handed out
  abbrev pub PostsWithin : PassView J → List Event → Type 0
  PostsWithin p events = count_by (λ j. is_ticket t (ticket j)) p.jobs.given ≤ count_by (asks t) events

  -- with the pass jobs were taken by these turns, and none was posted
  abbrev pub TakesThese : PassView J → List Turn → Type 0
  TakesThese p turns = (map (λ n. ticket n.item) p.jobs.taken ≡ map ticket_in turns) × (p.jobs.given ≡ [])

  -- of a ticket no more jobs were taken than orders were handed out
  pub taken_within : (loops workers : List (PassView J)) (events : List (List Event)) (turns : List (List Turn)) → Pairs PostsWithin loops events → Pairs TakesThese workers turns
      → IsWhole (map (λ p. p.jobs) (loops ++ workers)) → times_in (takes t) turns ≤ times_in (asks t) events
  taken_within loops workers events turns ls ws whole =
      let f : J → Bool = λ j. is_ticket t (ticket j) in
      let T : PassView J → ℕ = λ p. count_by (λ n. f n.item) p.jobs.taken in
      let G : PassView J → ℕ = λ p. count_by f p.jobs.given in
      let law = whole.no_more f in
      let t1 : sum_by (λ (h : HandView J). count_by (λ n. f n.item) h.taken) (map (λ p. p.jobs) (loops ++ workers)) ≡ sum_by T (loops ++ workers) = sum_map (λ (h : HandView J). count_by (λ n. f n.item) h.taken) (λ (p : PassView J). p.jobs) (loops ++ workers) in
      let g1 : sum_by (λ (h : HandView J). count_by f h.given) (map (λ p. p.jobs) (loops ++ workers)) ≡ sum_by G (loops ++ workers) = sum_map (λ (h : HandView J). count_by f h.given) (λ (p : PassView J). p.jobs) (loops ++ workers) in
      let t2 : sum_by T (loops ++ workers) ≡ sum_by T loops + sum_by T workers = sum_by-append T loops workers in
      let g2 : sum_by G (loops ++ workers) ≡ sum_by G loops + sum_by G workers = sum_by-append G loops workers in
      let took : sum_by (λ us. count_by (takes t) us) turns ≤ sum_by T workers = sum_ge TakesThese T (λ us. count_by (takes t) us) (λ p us w. by_turns p us w.0) workers turns ws in
      let gave : sum_by G loops ≤ sum_by (λ es. count_by (asks t) es) events = sum_le PostsWithin G (λ es. count_by (asks t) es) (λ p es l. l) loops events ls in
      let none : sum_by G workers ≡ 0 = none_of TakesThese G (λ p us w. ap (count_by f) w.1) workers turns ws in
      omega arith
    where
      by_turns : (p : PassView J) (us : List Turn) → map (λ n. ticket n.item) p.jobs.taken ≡ map ticket_in us → count_by (takes t) us ≤ count_by (λ n. is_ticket t (ticket n.item)) p.jobs.taken
      by_turns p us w =
          let a = count_map (is_ticket t) ticket_in us in
          let b = count_map (is_ticket t) (λ (n : Named J). ticket n.item) p.jobs.taken in
          let c = ap (count_by (is_ticket t)) w in
          omega arith

-- sums over the hands that some passes have on a loop's line, where each pass's is bounded
module _ {J : Type 0} (k : ℕ) (F : HandView Reply → ℕ) where
  abbrev pub IsBounded : PassView J → ℕ → Type 0
  IsBounded p n = (h : HandView Reply) → slice_get p.replies k ≡ Some h → F h ≤ n

  hands_le : (passes : List (PassView J)) (ns : List ℕ) (hands : List (HandView Reply)) → Pairs IsBounded passes ns → AreHandsOf passes k hands → sum_by F hands ≤ sum_by (λ n. n) ns
  hands_le [] [] [] b e = omega arith
  hands_le [] [] (h ∷ hs) b e = let none : 0 ≡ suc (length (map (λ (x : HandView Reply). Some x) hs)) = ap length e in absurd (omega arith)
  hands_le [] (n ∷ ns) hands b e = absurd b
  hands_le (p ∷ ps) [] hands b e = absurd b
  hands_le (p ∷ ps) (n ∷ ns) [] b e = let none : suc (length (map (λ (q : PassView J). slice_get q.replies k) ps)) ≡ 0 = ap length e in absurd (omega arith)
  hands_le (p ∷ ps) (n ∷ ns) (h ∷ hs) b e =
      let first : slice_get p.replies k ≡ Some h = ap (λ l. get_or l 0 (Some h)) e in
      let a : sum_by F (h ∷ hs) ≡ F h + sum_by F hs = sum_by-cons F h hs in
      let c : sum_by (λ m. m) (n ∷ ns) ≡ n + sum_by (λ m. m) ns = sum_by-cons (λ m. m) n ns in
      let d = b.0 h first in
      let r = hands_le ps ns hs b.1 (ap (drop 1) e) in
      omega arith

  -- and one pass's is within the sum
  one_within : (passes : List (PassView J)) (hands : List (HandView Reply)) → AreHandsOf passes k hands → (i : ℕ) (p : PassView J) (h : HandView Reply) → slice_get passes i ≡ Some p
      → slice_get p.replies k ≡ Some h → F h ≤ sum_by F hands
  one_within [] hands e i p h at own = absurd (let no : None ≡ Some p → ⊥ = λ z. cc in no at)
  one_within (q ∷ ps) [] e i p h at own = let none : suc (length (map (λ (r : PassView J). slice_get r.replies k) ps)) ≡ 0 = ap length e in absurd (omega arith)
  one_within (q ∷ ps) (g ∷ gs) e zero p h at own =
      let first : slice_get q.replies k ≡ Some g = ap (λ l. get_or l 0 (Some g)) e in
      let same : g ≡ h = same_Some g h (sym first ∙ ap (λ (r : PassView J). slice_get r.replies k) (same_Some q p at) ∙ own) in
      let a : sum_by F (g ∷ gs) ≡ F g + sum_by F gs = sum_by-cons F g gs in
      let b : F g ≡ F h = ap F same in
      omega arith
  one_within (q ∷ ps) (g ∷ gs) e (suc i) p h at own =
      let a : sum_by F (g ∷ gs) ≡ F g + sum_by F gs = sum_by-cons F g gs in
      let r = one_within ps gs (ap (drop 1) e) i p h at own in
      omega arith

pairs_append : {A B : Type 0} (R : A → B → Type 0) (xs us : List A) (ys vs : List B) → Pairs R xs ys → Pairs R us vs → Pairs R (xs ++ us) (ys ++ vs)
pairs_append R [] us [] vs p q = q
pairs_append R [] us (y ∷ ys) vs p q = absurd p
pairs_append R (x ∷ xs) us [] vs p q = absurd p
pairs_append R (x ∷ xs) us (y ∷ ys) vs p q = (p.0, pairs_append R xs us ys vs p.1 q)

pairs_to : {A B C : Type 0} (R : A → B → Type 0) (S : A → C → Type 0) (f : B → C) → ((a : A) (b : B) → R a b → S a (f b)) → (xs : List A) (ys : List B) → Pairs R xs ys → Pairs S xs (map f ys)
pairs_to R S f h [] [] p = tt
pairs_to R S f h [] (y ∷ ys) p = absurd p
pairs_to R S f h (x ∷ xs) [] p = absurd p
pairs_to R S f h (x ∷ xs) (y ∷ ys) p = (h x y p.0, pairs_to R S f h xs ys p.1)

no_sum : {A : Type 0} (l : List A) → sum_by (λ (n : ℕ). n) (map (λ (_ : A). zero) l) ≡ 0
no_sum [] = refl
no_sum (x ∷ l) = let a : sum_by (λ (n : ℕ). n) (0 ∷ map (λ (_ : _). zero) l) ≡ 0 + sum_by (λ (n : ℕ). n) (map (λ (_ : _). zero) l) = sum_by-cons (λ (n : ℕ). n) 0 (map (λ (_ : _). zero) l) in let b = no_sum l in omega arith

module _ {J : Type 0} where
  -- with the pass no reply was put
  abbrev pub PutsNone : {B : Type 0} → PassView J → B → Type 0
  PutsNone p b = (k : ℕ) (h : HandView Reply) → slice_get p.replies k ≡ Some h → h.given ≡ []

  -- with the pass these turns' replies were put
  abbrev pub PutsThese : PassView J → List Turn → Type 0
  PutsThese p turns = (k : ℕ) (h : HandView Reply) → slice_get p.replies k ≡ Some h → h.given ≡ put_for k turns

  -- of a ticket no more replies were collected by a loop than workers put
  pub offered_within : {B : Type 0} (loops workers : List (PassView J)) (sides : List B) (turns : List (List Turn)) → Pairs PutsNone loops sides → Pairs PutsThese workers turns
      → (k : ℕ) (hands : List (HandView Reply)) → AreHandsOf (loops ++ workers) k hands → IsWhole hands
      → (i : ℕ) (p : PassView J) (h : HandView Reply) → slice_get (loops ++ workers) i ≡ Some p → slice_get p.replies k ≡ Some h → (t : Ticket)
      → count_by (λ n. is_ticket t (ticket_of n.item.order)) h.taken ≤ sum_by (λ us. count_by (puts t) us) turns
  offered_within loops workers sides turns ls ws k hands are whole i p h at own t =
      let f : Reply → Bool = λ r. is_ticket t (ticket_of r.order) in
      let F : HandView Reply → ℕ = λ x. count_by (λ n. f n.item) x.taken in
      let G : HandView Reply → ℕ = λ x. count_by f x.given in
      let zeros : List ℕ = map (λ _. zero) sides in
      let most : List ℕ = map (λ us. count_by (puts t) us) turns in
      let first = pairs_to PutsNone (IsBounded k G) (λ _. zero) (λ q b none x e. let z : G x ≡ 0 = ap (count_by f) (none k x e) in omega arith) loops sides ls in
      let second = pairs_to PutsThese (IsBounded k G) (λ us. count_by (puts t) us)
      (λ q us puts x e. let z : G x ≡ count_by f (put_for k us) = ap (count_by f) (puts k x e) in let w = put_within t k us in omega arith) workers turns ws in
      let bound = hands_le k G (loops ++ workers) (zeros ++ most) hands (pairs_append (IsBounded k G) loops workers zeros most first second) are in
      let a : sum_by (λ (n : ℕ). n) (zeros ++ most) ≡ sum_by (λ (n : ℕ). n) zeros + sum_by (λ (n : ℕ). n) most = sum_by-append (λ (n : ℕ). n) zeros most in
      let b : sum_by (λ (n : ℕ). n) zeros ≡ 0 = no_sum sides in
      let c : sum_by (λ (n : ℕ). n) most ≡ sum_by (λ us. count_by (puts t) us) turns = sum_map (λ (n : ℕ). n) (λ us. count_by (puts t) us) turns in
      let part : F h ≤ sum_by F hands = one_within k F (loops ++ workers) hands are i p h at own in
      let law = whole.no_more f in
      omega arith
