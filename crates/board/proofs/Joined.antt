-- What passes know where one steps, one is made or one is joined to another; and counts of what was given and taken.
use Rattle.board.proofs.Words.{ap, arith, at_last, at_longer, Bool, count_by, get_elem?, given_count, IsLive, knows, length, length-append, length-set}
use Rattle.board.proofs.Words.{LineKnowledge, List, Named, PassKnowledge, refl, set, some, some-ne-none, subst, sum_by_push, sym, taken_count, unit_if, within}
use Rattle.board.proofs.Words.{ℕ, [], ⊎_elim, ◌++◌, ◌+◌, ◌∙◌, ◌∷◌, ◌≡◌, ◌≢◌}
use Rattle.atomic_table.proofs.Lists.{at_set, set_here, set_else}
use Rattle.tallies.proofs.Lists.{at_push, each_set, each_push, each_one, sum_set, sum_same, count_push, count_cons}
use Rattle.board.specs.Rule.{spent, with_given, with_taken, with_joined, IsSpent, IsJoined, AreKnown}

module _ {T : Type 0} where
  none_joined : {P : Type 0} (i : ℕ) (u : PassKnowledge T) → get_elem? [] i ≡ some u → P
  none_joined i u e = absurd (some-ne-none u (sym e))

  -- a pass that was joined is no live one
  apart : (passes : List (PassKnowledge T)) (views : List (LineKnowledge T)) (k : ℕ) (v : LineKnowledge T) (u : PassKnowledge T) → get_elem? views k ≡ some v → IsLive v
      → IsJoined passes views u → u.number ≢ k
  apart passes views k v u at live j same = let none = j.spent_there v (rw same at) in omega arith

  -- one knows more, and it is done
  pub known_set : (passes : List (PassKnowledge T)) (views : List (LineKnowledge T)) → AreKnown passes views → (k : ℕ) (v w : LineKnowledge T) → get_elem? views k ≡ some v → IsLive v
      → w.joined ≡ v.joined → AreKnown (set passes k w.own) (set views k w)
  known_set passes views K k v w at live same =
      let below = within views k v at in
      let size = K.size in
      let still : (u : PassKnowledge T) → IsJoined passes views u → IsJoined (set passes k w.own) (set views k w) u =
      λ u j.
      let ne = apart passes views k v u at live j in
      record {
        done = set_else passes k u.number w.own ne ∙ j.done;
        spent_there = λ z e. j.spent_there z (sym (set_else views k u.number w ne) ∙ e);
      } in
      record {
        size = length-set views k w ∙ size ∙ sym (length-set passes k w.own);
        own =
            λ i u e l.
            ⊎_elim
            (λ (h : (i ≡ k) × (w ≡ u)). rw h.0 (set_here passes k w.own (omega arith) ∙ ap (λ (x : LineKnowledge T). some x.own) h.1))
            (λ (h : (i ≢ k) × (get_elem? views i ≡ some u)). set_else passes k i w.own h.0 ∙ K.own i u h.1 l)
            (at_set views k i w u e);
        joined =
            each_set (λ _ u. (i : ℕ) (x : PassKnowledge T) → get_elem? u.joined i ≡ some x → IsJoined (set passes k w.own) (set views k w) x) views k w
            (λ i x e. still x (K.joined k v at i x (rw same at e)))
            (λ n u there i x e. still x (K.joined n u there i x e));
      }

  pub known_push : (passes : List (PassKnowledge T)) (views : List (LineKnowledge T)) → AreKnown passes views → (x : PassKnowledge T) → AreKnown (passes ++ x ∷ []) (views ++ knows x ∷ [])
  known_push passes views K x =
      let size = K.size in
      let still : (u : PassKnowledge T) → IsJoined passes views u → IsJoined (passes ++ x ∷ []) (views ++ knows x ∷ []) u =
      λ u j.
      let below = within passes u.number u j.done in
      record {
        done = at_longer passes (x ∷ []) u.number u j.done;
        spent_there =
            λ z e.
            ⊎_elim
            (λ (h : get_elem? views u.number ≡ some z). j.spent_there z h)
            (λ (h : (u.number ≡ length views) × (knows x ≡ z)). let here = h.0 in absurd (omega arith))
            (at_push views (knows x) z u.number e);
      } in
      record {
        size = let a = length-append views (knows x ∷ []) in let b = length-append passes (x ∷ []) in omega arith;
        own =
            each_push (λ i u. IsLive u → get_elem? (passes ++ x ∷ []) i ≡ some u.own) views (knows x)
            (λ l. at_last passes x (length views) (sym size))
            (λ i u e l. at_longer passes (x ∷ []) i u.own (K.own i u e l));
        joined =
            each_push (λ _ u. (i : ℕ) (y : PassKnowledge T) → get_elem? u.joined i ≡ some y → IsJoined (passes ++ x ∷ []) (views ++ knows x ∷ []) y) views (knows x)
            (λ i y e. none_joined i y e)
            (λ n u there i y e. still y (K.joined n u there i y e));
      }

  pub known_one : (x : PassKnowledge T) → AreKnown (x ∷ []) (knows x ∷ [])
  known_one x =
      record {
        size = refl;
        own = each_one (λ i u. IsLive u → get_elem? (x ∷ []) i ≡ some u.own) (knows x) (λ l. refl);
        joined =
            each_one (λ _ u. (i : ℕ) (y : PassKnowledge T) → get_elem? u.joined i ≡ some y → IsJoined (x ∷ []) (knows x ∷ []) y) (knows x)
            (λ i y e. none_joined i y e);
      }

  pub known_join : (passes : List (PassKnowledge T)) (views : List (LineKnowledge T)) → AreKnown passes views
      → ((k : ℕ) (u : PassKnowledge T) → get_elem? passes k ≡ some u → u.number ≡ k)
      → (k : ℕ) (v : LineKnowledge T) → get_elem? views k ≡ some v → IsLive v
      → (j : ℕ) (w : LineKnowledge T) → get_elem? (set views k (with_joined v w)) j ≡ some w → (j ≡ k → ⊥) → IsLive w
      → AreKnown passes (set (set views k (with_joined v w)) j (knows spent))
  known_join passes views K numbered k v at live j w with ne there =
      let both = with_joined v w in
      let V = set (set views k both) j (knows spent) in
      let beside : get_elem? views j ≡ some w = sym (set_else views k j both ne) ∙ with in
      let done : get_elem? passes j ≡ some w.own = K.own j w beside there in
      let number : w.own.number ≡ j = numbered j w.own done in
      -- what stands at a place then
      let at_place : (P : LineKnowledge T → Type 0) (n : ℕ) → P (knows spent) → (n ≡ k → P both) → ((z : LineKnowledge T) → n ≢ j → get_elem? views n ≡ some z → P z)
      → (z : LineKnowledge T) → get_elem? V n ≡ some z → P z =
      λ P n last first old z e.
      ⊎_elim
      (λ (h : (n ≡ j) × (knows spent ≡ z)). subst P h.1 last)
      (λ (h : (n ≢ j) × (get_elem? (set views k both) n ≡ some z)).
      ⊎_elim
      (λ (i : (n ≡ k) × (both ≡ z)). subst P i.1 (first i.0))
      (λ (i : (n ≢ k) × (get_elem? views n ≡ some z)). old z h.0 i.1)
      (at_set views k n both z h.1))
      (at_set (set views k both) j n (knows spent) z e) in
      let still : (u : PassKnowledge T) → IsJoined passes views u → IsJoined passes V u =
      λ u i.
      record {
        done = i.done;
        spent_there = at_place IsSpent u.number refl (λ same. absurd (apart passes views k v u at live i same)) (λ z _ e. i.spent_there z e);
      } in
      let new : IsJoined passes V w.own =
      record {
        done = rw (sym number) at done;
        spent_there = at_place IsSpent w.own.number refl (λ same. absurd (ne (sym number ∙ same))) (λ z other e. absurd (other number));
      } in
      let known : LineKnowledge T → Type 0 = λ u. (i : ℕ) (x : PassKnowledge T) → get_elem? u.joined i ≡ some x → IsJoined passes V x in
      record {
        size = length-set (set views k both) j (knows spent) ∙ length-set views k both ∙ K.size;
        own =
            λ n.
            at_place (λ u. IsLive u → get_elem? passes n ≡ some u.own) n (λ l. absurd (omega arith)) (λ same l. rw same (K.own k v at live))
            (λ z _ e l. K.own n z e l);
        joined =
            λ n.
            at_place known n (λ i x e. none_joined i x e)
            (λ same i x e.
            ⊎_elim
            (λ (h : get_elem? v.joined i ≡ some x). still x (K.joined k v at i x h))
            (λ (h : (i ≡ length v.joined) × (w.own ≡ x)). subst (IsJoined passes V) h.1 new)
            (at_push v.joined w.own x i e))
            (λ z _ there i x e. still x (K.joined n z there i x e));
      }

  -- counts
  module _ (f : T → Bool) where
    pub gives_balanced : (items : List T) (passes : List (PassKnowledge T)) (k : ℕ) (v : PassKnowledge T) → get_elem? passes k ≡ some v → (x : T)
        → taken_count f passes + count_by f items ≡ given_count f passes
        → taken_count f (set passes k (with_given v x)) + count_by f (items ++ x ∷ []) ≡ given_count f (set passes k (with_given v x))
    gives_balanced items passes k v at x old =
        let taken : taken_count f (set passes k (with_given v x)) ≡ taken_count f passes = sum_same (λ (u : PassKnowledge T). count_by (λ n. f n.item) u.taken) passes k v (with_given v x) at refl in
        let given : given_count f (set passes k (with_given v x)) + count_by f v.given ≡ given_count f passes + count_by f (v.given ++ x ∷ []) = sum_set (λ (u : PassKnowledge T). count_by f u.given) passes k v (with_given v x) at in
        let more = count_push f v.given x in
        let there = count_push f items x in
        omega arith

    pub takes_balanced : (x : T) (items : List T) (passes : List (PassKnowledge T)) (k : ℕ) (v : PassKnowledge T) → get_elem? passes k ≡ some v → (n : Named T) → n.item ≡ x
        → taken_count f passes + count_by f (x ∷ items) ≡ given_count f passes
        → taken_count f (set passes k (with_taken v n)) + count_by f items ≡ given_count f (set passes k (with_taken v n))
    takes_balanced x items passes k v at n is old =
        let given : given_count f (set passes k (with_taken v n)) ≡ given_count f passes = sum_same (λ (u : PassKnowledge T). count_by f u.given) passes k v (with_taken v n) at refl in
        let taken : taken_count f (set passes k (with_taken v n)) + count_by (λ m. f m.item) v.taken ≡ taken_count f passes + count_by (λ m. f m.item) (v.taken ++ n ∷ []) =
        sum_set (λ (u : PassKnowledge T). count_by (λ m. f m.item) u.taken) passes k v (with_taken v n) at in
        let more = count_push (λ (m : Named T). f m.item) v.taken n in
        let front = count_cons f x items in
        let same : unit_if (f n.item) ≡ unit_if (f x) = ap (λ y. unit_if (f y)) is in
        omega arith

    pub made_balanced : (items : List T) (passes : List (PassKnowledge T)) (k : ℕ) (v : PassKnowledge T) → get_elem? passes k ≡ some v → (w u : PassKnowledge T)
        → w.given ≡ v.given → w.taken ≡ v.taken → u.given ≡ [] → u.taken ≡ []
        → taken_count f passes + count_by f items ≡ given_count f passes
        → taken_count f (set passes k w ++ u ∷ []) + count_by f items ≡ given_count f (set passes k w ++ u ∷ [])
    made_balanced items passes k v at w u given taken nothing none old =
        let F : PassKnowledge T → ℕ = λ z. count_by f z.given in
        let G : PassKnowledge T → ℕ = λ z. count_by (λ n. f n.item) z.taken in
        let a : given_count f (set passes k w) ≡ given_count f passes = sum_same F passes k v w at (ap (count_by f) given) in
        let b : taken_count f (set passes k w) ≡ taken_count f passes = sum_same G passes k v w at (ap (count_by (λ (n : Named T). f n.item)) taken) in
        let c : given_count f (set passes k w ++ u ∷ []) ≡ given_count f (set passes k w) + F u = sum_by_push F (set passes k w) u in
        let d : taken_count f (set passes k w ++ u ∷ []) ≡ taken_count f (set passes k w) + G u = sum_by_push G (set passes k w) u in
        let e : F u ≡ 0 = ap (count_by f) nothing in
        let g : G u ≡ 0 = ap (count_by (λ (n : Named T). f n.item)) none in
        omega arith
