-- The asyncs' words after each step, and the sums of sends.
use Rattle.std.proofs.Common.{◌≡◌, ℕ, ◌+◌, ◌<◌, ◌≤◌, List, length, set, length-set, refl, sym, ap, ◌∙◌, arith}
use Rattle.std.specs.Prelude.{slice_index, slice_set}
use Rattle.std.proofs.lemmas.List.{get_or-set_same, get_or-set_other}
use native.Mathlib.Decide.{ℕ_discrete}
use Rattle.limits.specs.declared.TheConstants.{MAX_ASYNCS, MAX_REQUESTS, MAX_SENDS}
use Rattle.tallies.specs.Counts.{raised}
use Rattle.tallies.proofs.Counts.{raised-there, raised-elsewhere, at-le-sum, sum-raised, length-raised}
use Rattle.desk.specs.Desk.{Desk, sent_own, taken, sent_by_another}
use Rattle.desk.specs.Inner.Rule.{AreCounts, SendsAreCounted, DeskIsSized, waiting_place}

-- the lists keep their lengths
pub own-sized : (d : Desk) (a : ℕ) → DeskIsSized d → DeskIsSized (sent_own d a)
own-sized d a is = record {
  own = length-raised d.view.own a 1 ∙ is.own;
  untaken = length-raised d.view.untaken a 1 ∙ is.untaken;
  taken = is.taken;
  waiting = length-raised d.waiting a 1 ∙ is.waiting;
  sent = is.sent;
}

pub others-sized : (d : Desk) (a : ℕ) → DeskIsSized d → DeskIsSized (sent_by_another d a)
others-sized d a is = record { own = is.own; untaken = is.untaken; taken = is.taken; waiting = length-raised d.waiting a 1 ∙ is.waiting; sent = length-raised d.sent a 1 ∙ is.sent }

pub taken-sized : (d : Desk) (a : ℕ) → DeskIsSized d → DeskIsSized (taken d a)
taken-sized d a is = record {
  own = is.own;
  untaken = length-set d.view.untaken a 0 ∙ is.untaken;
  taken = length-raised d.view.taken a (slice_index d.waiting a) ∙ is.taken;
  waiting = length-set d.waiting a 0 ∙ is.waiting;
  sent = is.sent;
}

-- and the sums are counted
pub own-counted : (d : Desk) (n m a : ℕ) → DeskIsSized d → SendsAreCounted d n m → a < MAX_ASYNCS → n < MAX_SENDS → SendsAreCounted (sent_own d a) (n + 1) m
own-counted d n m a sized is there few = record {
  own = (let size = sized.own in let old = is.own in let more = sum-raised d.view.own a 1 (omega arith) in omega arith);
  own_most = omega arith;
  others = is.others;
  others_most = is.others_most;
}

pub others-counted : (d : Desk) (n m a : ℕ) → DeskIsSized d → SendsAreCounted d n m → a < MAX_ASYNCS → m < MAX_SENDS → SendsAreCounted (sent_by_another d a) n (m + 1)
others-counted d n m a sized is there few = record {
  own = is.own;
  own_most = is.own_most;
  others = (let size = sized.sent in let old = is.others in let more = sum-raised d.sent a 1 (omega arith) in omega arith);
  others_most = omega arith;
}

pub taken-counted : (d : Desk) (n m a : ℕ) → SendsAreCounted d n m → SendsAreCounted (taken d a) n m
taken-counted d n m a is = record { own = is.own; own_most = is.own_most; others = is.others; others_most = is.others_most }

module _ (words : List ℕ) (d : Desk) (a : ℕ) (size : length words ≡ MAX_REQUESTS + MAX_ASYNCS) (is : AreCounts words d) (sized : DeskIsSized d) (there : a < MAX_ASYNCS) where
  abbrev i : ℕ
  i = waiting_place a

  written : (n : ℕ) → slice_index (set words i n) i ≡ n
  written n = get_or-set_same words i n 0 (omega arith)

  -- the words agree, after one of them and what waits there changed alike
  alike : (n k b : ℕ) → n ≡ k → b < MAX_ASYNCS → slice_index (set words i n) (waiting_place b) ≡ slice_index (slice_set d.waiting a k) b
  alike n k b same low = elim (ℕ_discrete b a) [
    | yes e ↦ rw e (let w = sized.waiting in written n ∙ same ∙ sym (get_or-set_same d.waiting a k 0 (omega arith)))
    | no ne ↦ get_or-set_other words i (waiting_place b) n 0 (λ k. ne (omega arith)) ∙ is.word b low ∙ sym (get_or-set_other d.waiting a b k 0 ne)
  ]

  -- one more waits
  one_more : slice_index words i + 1 ≡ slice_index d.waiting a + 1
  one_more = ap (λ n. n + 1) (is.word a there)

  -- and was sent by one side
  more_sent : (l : List ℕ) (rest : ℕ → ℕ) → length l ≡ MAX_ASYNCS
      → ((b : ℕ) → b < MAX_ASYNCS → slice_index l b + rest b ≡ slice_index d.view.taken b + slice_index d.waiting b)
      → (b : ℕ) → b < MAX_ASYNCS → slice_index (raised l a 1) b + rest b ≡ slice_index d.view.taken b + slice_index (raised d.waiting a 1) b
  more_sent l rest long was b low = elim (ℕ_discrete b a) [
    | yes e ↦ rw e (let waits = sized.waiting in
        let o = raised-there l a 1 (omega arith) in
        let w = raised-there d.waiting a 1 (omega arith) in
        let old = was a there in
        omega arith)
    | no ne ↦ (let o = raised-elsewhere l a 1 b ne in let w = raised-elsewhere d.waiting a 1 b ne in let old = was b low in omega arith)
  ]

  pub own-counts : AreCounts (set words i (slice_index words i + 1)) (sent_own d a)
  own-counts = record {
    word = λ b low. alike (slice_index words i + 1) (slice_index d.waiting a + 1) b one_more low;
    sends = more_sent d.view.own (slice_index d.sent) sized.own is.sends;
    untaken = untaken;
  }
    where
      untaken : (b : ℕ) → b < MAX_ASYNCS → slice_index (raised d.view.untaken a 1) b ≤ slice_index (raised d.waiting a 1) b
      untaken b low = elim (ℕ_discrete b a) [
        | yes e ↦ rw e (let size = sized.untaken in
            let waits = sized.waiting in
            let u = raised-there d.view.untaken a 1 (omega arith) in
            let w = raised-there d.waiting a 1 (omega arith) in
            let was = is.untaken a there in
            omega arith)
        | no ne ↦ (let u = raised-elsewhere d.view.untaken a 1 b ne in let w = raised-elsewhere d.waiting a 1 b ne in let was = is.untaken b low in omega arith)
      ]

  pub others-counts : AreCounts (set words i (slice_index words i + 1)) (sent_by_another d a)
  others-counts = record { word = λ b low. alike (slice_index words i + 1) (slice_index d.waiting a + 1) b one_more low; sends = sends; untaken = untaken }
    where
      untaken : (b : ℕ) → b < MAX_ASYNCS → slice_index d.view.untaken b ≤ slice_index (raised d.waiting a 1) b
      untaken b low = elim (ℕ_discrete b a) [
        | yes e ↦ rw e (let waits = sized.waiting in let w = raised-there d.waiting a 1 (omega arith) in let was = is.untaken a there in omega arith)
        | no ne ↦ (let w = raised-elsewhere d.waiting a 1 b ne in let was = is.untaken b low in omega arith)
      ]

      sends : (b : ℕ) → b < MAX_ASYNCS → slice_index d.view.own b + slice_index (raised d.sent a 1) b ≡ slice_index d.view.taken b + slice_index (raised d.waiting a 1) b
      sends b low = let it = more_sent d.sent (slice_index d.view.own) sized.sent (λ k few. let was = is.sends k few in omega arith) b low in omega arith

  -- what waits is within all sends, so that one more fits in a word
  pub within : (n m : ℕ) → SendsAreCounted d n m → slice_index words i ≤ MAX_SENDS + MAX_SENDS
  within n m counted =
      let own = sized.own in
      let sent = sized.sent in
      let mine = at-le-sum d.view.own a (omega arith) in
      let theirs = at-le-sum d.sent a (omega arith) in
      let was = is.sends a there in
      let word = is.word a there in
      let by_loop = counted.own in
      let by_others = counted.others in
      let most = counted.own_most in
      let most_others = counted.others_most in
      omega arith

  taken-here : slice_index (taken d a).view.taken a ≡ slice_index d.view.taken a + slice_index d.waiting a
  taken-here = let size_taken = sized.taken in raised-there d.view.taken a (slice_index d.waiting a) (omega arith)

  -- all own sends are taken
  pub own-taken : slice_index d.view.own a ≤ slice_index (taken d a).view.taken a
  own-taken = let now = taken-here in let was = is.sends a there in omega arith

  pub taken-counts : AreCounts (set words i 0) (taken d a)
  taken-counts = record { word = λ b low. alike 0 0 b refl low; sends = sends; untaken = untaken }
    where
      untaken : (b : ℕ) → b < MAX_ASYNCS → slice_index (slice_set d.view.untaken a 0) b ≤ slice_index (slice_set d.waiting a 0) b
      untaken b low = elim (ℕ_discrete b a) [
        | yes e ↦ rw e (let size = sized.untaken in let u : slice_index (slice_set d.view.untaken a 0) a ≡ 0 = get_or-set_same d.view.untaken a 0 0 (omega arith) in omega arith)
        | no ne ↦ (
            let u : slice_index (slice_set d.view.untaken a 0) b ≡ slice_index d.view.untaken b = get_or-set_other d.view.untaken a b 0 0 ne in
            let w : slice_index (slice_set d.waiting a 0) b ≡ slice_index d.waiting b = get_or-set_other d.waiting a b 0 0 ne in
            let was = is.untaken b low in
            omega arith)
      ]

      sends : (b : ℕ) → b < MAX_ASYNCS → slice_index d.view.own b + slice_index d.sent b ≡ slice_index (taken d a).view.taken b + slice_index (slice_set d.waiting a 0) b
      sends b low = elim (ℕ_discrete b a) [
        | yes e ↦ rw e here
        | no ne ↦ (let t = raised-elsewhere d.view.taken a (slice_index d.waiting a) b ne in
            let w : slice_index (slice_set d.waiting a 0) b ≡ slice_index d.waiting b = get_or-set_other d.waiting a b 0 0 ne in
            let was = is.sends b low in
            omega arith)
      ]
        where
          here : slice_index d.view.own a + slice_index d.sent a ≡ slice_index (taken d a).view.taken a + slice_index (slice_set d.waiting a 0) a
          here =
              let waits = sized.waiting in
              let t = taken-here in
              let w : slice_index (slice_set d.waiting a 0) a ≡ 0 = get_or-set_same d.waiting a 0 0 (omega arith) in
              let was = is.sends a there in
              omega arith
