-- All passes, taken in one after another.
use Rattle.board.proofs.Words.{All, All-head, All-tail, ap, AreNumbered, arith, GatheringView, get_elem?, HandView, IsWhole, length, length-map, LineView, List}
use Rattle.board.proofs.Words.{maker_at, makers_at, MakerView, map, map-append, refl, Reply, same_Some, slice_get, Some, some, some-injective, some-ne-none}
use Rattle.board.proofs.Words.{subst, suc, sym, with_hand, zero, ℕ, [], ◌++◌, ◌+◌, ◌<◌, ◌∙◌, ◌∷◌, ◌≡◌}
use Rattle.std.proofs.Common.{append_assoc, append-nil}
use Rattle.board.specs.Boards.{BoardView, PassView, IsPassOf, IsNewGathering, IsGatheringOf, JoinsPass, AreAllIn, AreHandsOf, AreRepliesWhole, AreWhole}
use Rattle.board.proofs.Makers.{lines_of}
use Rattle.board.proofs.Taking.{below, nothing_at}

pub no_items : {A : Type 0} (l : List A) → length l ≡ 0 → l ≡ []
no_items [] e = refl
no_items (x ∷ l) e = absurd (omega arith)

at_some : {A : Type 0} (l : List A) (k : ℕ) → k < length l → (x : A) × (slice_get l k ≡ Some x)
at_some [] k h = absurd (omega arith)
at_some (x ∷ l) zero h = (x, refl)
at_some (x ∷ l) (suc k) h = at_some l k (omega arith)

by_index : {A : Type 0} (l : List A) (k : ℕ) (x : A) → get_elem? l k ≡ some x → slice_get l k ≡ Some x
by_index [] k x e = absurd (some-ne-none x (sym e))
by_index (y ∷ l) zero x e = ap (λ z. Some z) (some-injective y x e)
by_index (y ∷ l) (suc k) x e = by_index l k x e

map_some : {A B : Type 0} (F : A → B) (l : List A) (k : ℕ) (x : A) → slice_get l k ≡ Some x → slice_get (map F l) k ≡ Some (F x)
map_some F [] k x e = nothing_at x e
map_some F (y ∷ l) zero x e = ap (λ z. Some (F z)) (same_Some y x e)
map_some F (y ∷ l) (suc k) x e = map_some F l k x e

map_back : {A B : Type 0} (F : A → B) (l : List A) (k : ℕ) (y : B) → slice_get (map F l) k ≡ Some y → (x : A) × (slice_get l k ≡ Some x) × (F x ≡ y)
map_back F [] k y e = nothing_at y e
map_back F (x ∷ l) zero y e = (x, refl, same_Some (F x) y e)
map_back F (x ∷ l) (suc k) y e = map_back F l k y e

new_maker : (n key : ℕ) (lines : List LineView) (k : ℕ) (m : MakerView Reply) → slice_get (makers_at n key lines) k ≡ Some m → (m.next ≡ n) × (m.hands ≡ [])
new_maker n key [] k m e = nothing_at m e
new_maker n key (l ∷ ls) zero m e = let same = sym (same_Some (maker_at n key l) m e) in (ap (λ (x : MakerView Reply). x.next) same, ap (λ (x : MakerView Reply). x.hands) same)
new_maker n key (l ∷ ls) (suc k) m e = new_maker n (key + 1) ls k m e

module _ {J : Type 0} where
  -- these passes are taken in, of so many, and those are left
  pub record AreIn (board : BoardView) (n : ℕ) (passes taken left : List (PassView J)) (all : GatheringView J) : Type 0 where
    pub split : passes ≡ taken ++ left
    pub own : IsGatheringOf board all
    pub left_own : All (IsPassOf board) left
    pub jobs : all.jobs ≡ record (maker_at (n + 1) 0 board.jobs) { hands = map (λ p. p.jobs) taken }
    pub next : (k : ℕ) (m : MakerView Reply) → slice_get all.replies k ≡ Some m → m.next ≡ n + 1
    pub replies : (k : ℕ) (m : MakerView Reply) → slice_get all.replies k ≡ Some m → AreHandsOf taken k m.hands

  -- some are taken in
  abbrev pub SomeAreIn : BoardView → (n : ℕ) → (passes left : List (PassView J)) → GatheringView J → Type 0
  SomeAreIn board n passes left all = (taken : List (PassView J)) × AreIn board n passes taken left all

  pub none_in : (board : BoardView) (n : ℕ) (passes left : List (PassView J)) (all : GatheringView J) → IsNewGathering board n all → passes ≡ left → All (IsPassOf board) passes
      → SomeAreIn board n passes left all
  none_in board n passes left all new same own = (
    [],
    record {
      split = same;
      own =
          record {
            jobs = ap (λ (m : MakerView J). m.line) new.0;
            replies = ap (map (λ (m : MakerView Reply). m.line)) new.1 ∙ lines_of (n + 1) 0 board.replies;
          };
      left_own = subst (All (IsPassOf board)) same own;
      jobs = new.0;
      next = λ k m e. (new_maker (n + 1) 0 board.replies k m (rw new.1 at e)).0;
      replies = λ k m e. sym (ap (map (λ h. Some h)) (new_maker (n + 1) 0 board.replies k m (rw new.1 at e)).1);
    },
  )

  makers_size : (board : BoardView) (g : GatheringView J) → IsGatheringOf board g → length g.replies ≡ length board.replies
  makers_size board g own = sym (length-map g.replies (λ (m : MakerView Reply). m.line)) ∙ ap length own.replies ∙ length-map board.replies (λ (l : LineView). l.id)

  hands_size : (board : BoardView) (p : PassView J) → IsPassOf board p → length p.replies ≡ length board.replies
  hands_size board p own = sym (length-map p.replies (λ (h : HandView Reply). h.line)) ∙ ap length own.replies ∙ length-map board.replies (λ (l : LineView). l.id)

  pub one_in : (board : BoardView) (n : ℕ) (passes left more : List (PassView J)) (p : PassView J) (all now : GatheringView J) → SomeAreIn board n passes left all
      → left ≡ p ∷ more → IsGatheringOf board now → JoinsPass all p now → SomeAreIn board n passes more now
  one_in board n passes left more p all now S split own gathers =
      let taken = S.0 in
      let K = S.1 in
      let left_own : All (IsPassOf board) (p ∷ more) = subst (All (IsPassOf board)) split K.left_own in
      let mine : IsPassOf board p = All-head (IsPassOf board) p more left_own in
      let before = makers_size board all K.own in
      let after = makers_size board now own in
      let hands = hands_size board p mine in
      -- the maker at a place is the one before, with a hand more
      let maker : (k : ℕ) (m : MakerView Reply) → slice_get now.replies k ≡ Some m → (old : MakerView Reply) × (h : HandView Reply) × (slice_get all.replies k ≡ Some old) × (slice_get p.replies k ≡ Some h) × (m ≡ with_hand old h) =
      λ k m e.
      let there = below now.replies k m e in
      let old = at_some all.replies k (omega arith) in
      let h = at_some p.replies k (omega arith) in
      (old.0, h.0, old.1, h.1, same_Some m (with_hand old.0 h.0) (sym e ∙ gathers.replies k old.0 h.0 old.1 h.1)) in (
        taken ++ p ∷ [],
        record {
          split = K.split ∙ ap (λ l. taken ++ l) split ∙ sym (append_assoc taken (p ∷ []) more);
          own = own;
          left_own = All-tail (IsPassOf board) p more left_own;
          jobs =
              gathers.jobs ∙ ap (λ (m : MakerView J). with_hand m p.jobs) K.jobs
              ∙ ap (λ l. record (maker_at (n + 1) 0 board.jobs) { hands = l }) (sym (map-append (λ (q : PassView J). q.jobs) taken (p ∷ [])));
          next = λ k m e. let x = maker k m e in ap (λ (y : MakerView Reply). y.next) x.4 ∙ K.next k x.0 x.2;
          replies =
              λ k m e.
              let x = maker k m e in
              map-append (λ (q : PassView J). slice_get q.replies k) taken (p ∷ []) ∙ ap (λ l. l ++ slice_get p.replies k ∷ []) (K.replies k x.0 x.2)
              ∙ ap (λ o. map (λ h. Some h) x.0.hands ++ o ∷ []) x.3
              ∙ sym (ap (λ (y : MakerView Reply). map (λ h. Some h) y.hands) x.4 ∙ map-append (λ (h : HandView Reply). Some h) x.0.hands (x.1 ∷ []));
        },
      )

  all_of : (taken left passes : List (PassView J)) → left ≡ [] → passes ≡ taken ++ left → passes ≡ taken
  all_of taken left passes none split = split ∙ ap (λ l. taken ++ l) none ∙ append-nil taken

  pub all_in : (board : BoardView) (passes left : List (PassView J)) (all : GatheringView J) → SomeAreIn board (length passes) passes left all → left ≡ [] → AreNumbered passes → AreAllIn all
  all_in board passes left all S none numbered =
      let taken = S.0 in
      let K = S.1 in
      let same : passes ≡ taken = all_of taken left passes none K.split in
      let size : length passes ≡ length taken = ap length same in
      let jobs : all.jobs.hands ≡ map (λ p. p.jobs) taken = ap (λ (m : MakerView J). m.hands) K.jobs in
      let next : all.jobs.next ≡ length passes + 1 = ap (λ (m : MakerView J). m.next) K.jobs in
      let jobs_size : length all.jobs.hands ≡ length taken = ap length jobs ∙ length-map taken (λ (p : PassView J). p.jobs) in
      record {
        jobs =
            record {
              count = omega arith;
              numbered =
                  λ k h e.
                  let at = map_back (λ (p : PassView J). p.jobs) taken k h (by_index (map (λ (p : PassView J). p.jobs) taken) k h (rw jobs at e)) in
                  ap (λ (x : HandView J). x.number) (sym at.2) ∙ (numbered k at.0 (rw same at.1)).jobs;
            };
        replies =
            λ i m e.
            let hands = K.replies i m e in
            let next_of = K.next i m e in
            let a = length-map taken (λ (p : PassView J). slice_get p.replies i) in
            let b = length-map m.hands (λ (h : HandView Reply). Some h) in
            let c = ap length hands in
            record {
              count = omega arith;
              numbered =
                  λ k h e.
                  let some_h = rw (sym hands) at (map_some (λ (x : HandView Reply). Some x) m.hands k h (by_index m.hands k h e)) in
                  let at = map_back (λ (p : PassView J). slice_get p.replies i) taken k (Some h) some_h in
                  of_all at.0.replies i h (k + 1) at.2 (numbered k at.0 (rw same at.1)).replies;
            };
      }
    where
      of_all : (hands : List (HandView Reply)) (i : ℕ) (h : HandView Reply) (n : ℕ) → slice_get hands i ≡ Some h → All (λ x. x.number ≡ n) hands → h.number ≡ n
      of_all [] i h n e all = nothing_at h e
      of_all (x ∷ hands) zero h n e all = ap (λ (y : HandView Reply). y.number) (sym (same_Some x h e)) ∙ All-head (λ (y : HandView Reply). y.number ≡ n) x hands all
      of_all (x ∷ hands) (suc i) h n e all = of_all hands i h n e (All-tail (λ (y : HandView Reply). y.number ≡ n) x hands all)

  pub whole_jobs : (board : BoardView) (n : ℕ) (passes left : List (PassView J)) (all : GatheringView J) → SomeAreIn board n passes left all → left ≡ [] → IsWhole all.jobs.hands
      → IsWhole (map (λ p. p.jobs) passes)
  whole_jobs board n passes left all S none whole =
      subst IsWhole (ap (λ (m : MakerView J). m.hands) S.1.jobs ∙ ap (map (λ (p : PassView J). p.jobs)) (sym (all_of S.0 left passes none S.1.split))) whole

  pub whole_replies : (board : BoardView) (n : ℕ) (passes left : List (PassView J)) (all : GatheringView J) → SomeAreIn board n passes left all → left ≡ [] → AreWhole all.replies
      → AreRepliesWhole (length board.replies) passes
  whole_replies board n passes left all S none whole k less =
      let size = makers_size board all S.1.own in
      let m = at_some all.replies k (omega arith) in
      (m.0.hands, rw (all_of S.0 left passes none S.1.split) (S.1.replies k m.0 m.1), whole k m.0 m.1)
