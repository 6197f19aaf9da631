-- While nobody else sends, what is taken of an async is the loop's own sends.
use Rattle.serve.proofs.Words.{Anyhow, ap, arith, Bool, Calls, false, get_or-set_other, inl, inr, IsAlone, IsMirrored, length, length-set, List, Loop, LoopStep}
use Rattle.serve.proofs.Words.{new_view, Seats, Setting, slice_index, slice_set, step_mirrors, StepDid, subst, sym, thread_calls, true, ℕ, ℕ_discrete, [], ◌+◌}
use Rattle.serve.proofs.Words.{◌<◌, ◌∙◌, ◌≡◌, ◌≢◌, ◌≤◌}
use Rattle.std.proofs.lemmas.Bool.{cases_lt}
use Rattle.std.proofs.lemmas.List.{get_or-set_same, get_or_past}
use Rattle.limits.specs.declared.TheConstants.{MAX_ASYNCS}
use Rattle.tallies.specs.Counts.{raised, none_counted}
use Rattle.tallies.proofs.Counts.{raised-there, raised-elsewhere, length-raised, zeros}
use Rattle.marks.specs.Counts.{Taker, sent_together}
use Rattle.pool.specs.Share.{TriesToSend, TakesSends}

-- a count that was raised, whether or not it is there
raised_by_one : (xs ys : List ℕ) (a b n : ℕ) → length xs ≡ length ys → n + slice_index xs b ≡ slice_index ys b → n + slice_index (raised xs a 1) b ≡ slice_index (raised ys a 1) b
raised_by_one xs ys a b n wide h = elim (ℕ_discrete b a) [
  | yes same ↦ elim (cases_lt a (length xs)) [
    | inl inside ↦ there same inside
    | inr past ↦ beyond same past
  ]
  | no other ↦ elsewhere other
] where
  elsewhere : b ≢ a → n + slice_index (raised xs a 1) b ≡ slice_index (raised ys a 1) b
  elsewhere other =
      let x = raised-elsewhere xs a 1 b other in
      let y = raised-elsewhere ys a 1 b other in
      omega (arith, x, y, h)

  there : b ≡ a → a < length xs → n + slice_index (raised xs a 1) b ≡ slice_index (raised ys a 1) b
  there same inside =
      let at_xs = raised-there xs a 1 inside in
      let at_ys = raised-there ys a 1 (omega (arith, wide, inside)) in
      let was : n + slice_index xs a ≡ slice_index ys a = rw same at h in
      let now : n + slice_index (raised xs a 1) a ≡ slice_index (raised ys a 1) a = omega (arith, at_xs, at_ys, was) in
      rw same now

  beyond : b ≡ a → length xs ≤ a → n + slice_index (raised xs a 1) b ≡ slice_index (raised ys a 1) b
  beyond same past =
      let long_xs = length-raised xs a 1 in
      let long_ys = length-raised ys a 1 in
      let x = get_or_past xs b 0 (omega (arith, past, same)) in
      let y = get_or_past ys b 0 (omega (arith, past, same, wide)) in
      let x' = get_or_past (raised xs a 1) b 0 (omega (arith, past, same, long_xs)) in
      let y' = get_or_past (raised ys a 1) b 0 (omega (arith, past, same, wide, long_ys)) in
      omega (arith, x, y, x', y', h)

-- what was set to nothing is nothing
pub emptied : (xs : List ℕ) (a : ℕ) → slice_index (slice_set xs a 0) a ≡ 0
emptied xs a = elim (cases_lt a (length xs)) [
  | inl inside ↦ get_or-set_same xs a 0 0 inside
  | inr past ↦ (let long = length-set xs a 0 in get_or_past (slice_set xs a 0) a 0 (omega (arith, past, long)))
]

sends_alone : (t u : Taker) (a : ℕ) (ok : Bool) → TriesToSend t u a ok → IsAlone t → IsAlone u
sends_alone t u a true h alone = subst IsAlone (sym h.0) (
  alone.0,
  alone.1,
  length-raised t.untaken a 1 ∙ alone.2 ∙ sym (length-raised t.own a 1),
  λ b. raised_by_one t.untaken t.own a b (slice_index t.taken b) alone.2 (alone.3 b),
)
sends_alone t u a false h alone = subst IsAlone (sym h.0) alone

takes_alone : (t u : Taker) (a n : ℕ) → TakesSends t u a n → IsAlone t → IsAlone u
takes_alone t u a n h alone = (
  apart,
  joined,
  ap (λ (x : Taker). length x.untaken) h.0 ∙ length-set t.untaken a 0 ∙ alone.2 ∙ sym (ap (λ (x : Taker). length x.own) h.0),
  λ b. by b,
) where
  apart : u.apart ≡ 0
  apart = ap (λ (x : Taker). x.apart) h.0 ∙ alone.0

  joined : u.joined ≡ []
  joined = ap (λ (x : Taker). x.joined) h.0 ∙ alone.1

  here : slice_index u.taken a + slice_index u.untaken a ≡ slice_index u.own a
  here =
      let all = h.3 apart in
      let known : slice_index u.taken a ≡ slice_index u.own a + 0 = all ∙ ap (λ seats. slice_index u.own a + sent_together seats a) joined in
      let none : slice_index u.untaken a ≡ 0 = ap (λ (x : Taker). slice_index x.untaken a) h.0 ∙ emptied t.untaken a in
      omega (arith, known, none)

  elsewhere : (b : ℕ) → b ≢ a → slice_index u.taken b + slice_index u.untaken b ≡ slice_index u.own b
  elsewhere b other =
      let was = alone.3 b in
      let taken : slice_index u.taken b ≡ slice_index t.taken b = ap (λ (x : Taker). slice_index x.taken b) h.0 ∙ raised-elsewhere t.taken a n b other in
      let untaken : slice_index u.untaken b ≡ slice_index t.untaken b = ap (λ (x : Taker). slice_index x.untaken b) h.0 ∙ get_or-set_other t.untaken a b 0 0 other in
      let own : slice_index u.own b ≡ slice_index t.own b = ap (λ (x : Taker). slice_index x.own b) h.0 in
      omega (arith, was, taken, untaken, own)

  by : (b : ℕ) → slice_index u.taken b + slice_index u.untaken b ≡ slice_index u.own b
  by b = elim (ℕ_discrete b a) [
    | yes same ↦ rw same here
    | no other ↦ elsewhere b other
  ]

-- an object of which nothing is known
abbrev pub nothing_known : Calls (Unit {0})
nothing_known = record {
  view = λ s. new_view 0;
  opens = λ s slot request t. Unit {0};
  cancels = λ s slot request won t. Unit {0};
  sends = λ s a ok t. Unit {0};
  takes = λ s a n t. Unit {0};
}

abbrev Stays : Seats → Unit {0} → Type 0
Stays s t = IsAlone s.taker

kept : IsMirrored thread_calls nothing_known Anyhow Stays
kept = record {
  opens = λ s s' t slot request r h. (tt, tt, subst IsAlone (sym h.1) r);
  cancels = λ s s' t slot request won r h. (tt, tt, subst IsAlone (sym h.1) r);
  sends = λ s s' t a ok r h. (tt, tt, sends_alone s.taker s'.taker a ok h.0 r);
  takes = λ s s' t a n there r h. (tt, tt, takes_alone s.taker s'.taker a n h.0 r);
}

-- so each step of the loop leaves it
pub step_alone : (g : Setting) (old : Loop Seats) (did : StepDid) (new : Loop Seats) → LoopStep thread_calls g old did new → IsAlone old.shared.taker → IsAlone new.shared.taker
step_alone g old did new step alone =
    (step_mirrors thread_calls nothing_known g Anyhow Stays kept old did step.0 new tt (λ a handle is. tt) alone step.1).2

-- and it begins so
pub none_sent : (a : ℕ) → slice_index none_counted a + slice_index none_counted a ≡ slice_index none_counted a
none_sent a = let none : slice_index none_counted a ≡ 0 = zeros MAX_ASYNCS a in omega (arith, none)
