-- The parts of a room, after a place came in or went out.
use Rattle.handles.proofs.Words.{ap, arith, Check, count, Idle, insert, length, List, ListPlace, Parts, parts_of, remove, sym, Timer, with_part, ℕ, ◌+◌, ◌-◌}
use Rattle.handles.proofs.Words.{◌<◌, ◌∙◌, ◌≡◌, ◌≤◌}
use Rattle.std.proofs.Common.{◌++◌, take, drop, length-drop}
use Rattle.std.proofs.Math.Seq.{take-append_seam, drop-append_seam, drop-append-add}
use Rattle.std.proofs.lemmas.List.{take-append-drop, length-take-le, drop-drop}
use Rattle.std.proofs.lemmas.List.Edits.{insert-append_left, insert-append_right, remove-append_left, remove-append_right, length-insert, length-remove}

-- three lists, one behind the other, have them as their parts
parted : (a b c : List ListPlace) (i j : ℕ) → i ≡ length a → j ≡ length a + length b → ◌≡◌ {A = Parts} (parts_of (a ++ (b ++ c)) i j) (record { idle = a; check = b; timers = c })
parted a b c i j here there =
    let size : j - i ≡ length b = omega (arith, here, there) in
    let idle : take i (a ++ (b ++ c)) ≡ a = rw here (take-append_seam a (b ++ c)) in
    let behind : drop i (a ++ (b ++ c)) ≡ b ++ c = rw here (drop-append_seam a (b ++ c)) in
    let check : take (j - i) (drop i (a ++ (b ++ c))) ≡ b = rw (size, behind) (take-append_seam b c) in
    let timers : drop j (a ++ (b ++ c)) ≡ c = rw there (drop-append-add a (b ++ c) (length b) ∙ drop-append_seam b c) in
    λ k. record { idle = idle k; check = check k; timers = timers k }

module _ (xs : List ListPlace) (i j : ℕ) (le : i ≤ j) (within : j ≤ length xs) where
  abbrev idle : List ListPlace
  idle = take i xs

  abbrev check : List ListPlace
  check = take (j - i) (drop i xs)

  abbrev timers : List ListPlace
  timers = drop j xs

  from_check : drop (j - i) (drop i xs) ≡ drop j xs
  from_check =
      let e : i + (j - i) ≡ j = omega (arith, le) in
      drop-drop (j - i) i xs ∙ ap (λ (k : ℕ). drop k xs) e

  split : idle ++ (check ++ timers) ≡ xs
  split = ap (λ (ys : List ListPlace). idle ++ (check ++ ys)) (sym from_check) ∙ ap (λ (ys : List ListPlace). idle ++ ys) (take-append-drop (j - i) (drop i xs)) ∙ take-append-drop i xs

  many_idle : length idle ≡ i
  many_idle = length-take-le i xs (omega (arith, le, within))

  many_check : length check ≡ j - i
  many_check = length-take-le (j - i) (drop i xs) (omega (arith, length-drop i xs, within))

  -- all places are in one of them
  pub counted : count (parts_of xs i j) ≡ length xs
  counted = omega (arith, many_idle, many_check, length-drop j xs, le, within)

  module _ (at : ℕ) (p : ListPlace) where
    pub in_idle : at ≤ length idle → parts_of (insert xs at p) (i + 1) (j + 1) ≡ with_part Idle (insert idle at p) (parts_of xs i j)
    in_idle few =
        let is : insert xs at p ≡ insert idle at p ++ (check ++ timers) = ap (λ (ys : List ListPlace). insert ys at p) (sym split) ∙ insert-append_left idle (check ++ timers) at p few in
        let long = length-insert idle at p few in
        ap (λ (ys : List ListPlace). parts_of ys (i + 1) (j + 1)) is
        ∙ parted (insert idle at p) check timers (i + 1) (j + 1) (omega (arith, long, many_idle)) (omega (arith, long, many_idle, many_check, le))

    pub in_check : at ≤ length check → parts_of (insert xs (i + at) p) i (j + 1) ≡ with_part Check (insert check at p) (parts_of xs i j)
    in_check few =
        let place : i + at - i ≡ at = omega arith in
        let is : insert xs (i + at) p ≡ idle ++ (insert check at p ++ timers) =
        ap (λ (ys : List ListPlace). insert ys (i + at) p) (sym split) ∙ insert-append_right idle (check ++ timers) i (i + at) p many_idle (omega arith)
        ∙ ap (λ (k : ℕ). idle ++ insert (check ++ timers) k p) place ∙ ap (λ (ys : List ListPlace). idle ++ ys) (insert-append_left check timers at p few) in
        let long = length-insert check at p few in
        ap (λ (ys : List ListPlace). parts_of ys i (j + 1)) is
        ∙ parted idle (insert check at p) timers i (j + 1) (sym many_idle) (omega (arith, long, many_idle, many_check, le))

    pub in_timers : parts_of (insert xs (j + at) p) i j ≡ with_part Timer (insert timers at p) (parts_of xs i j)
    in_timers =
        let place : j + at - i - (j - i) ≡ at = omega (arith, le) in
        let is : insert xs (j + at) p ≡ idle ++ (check ++ insert timers at p) =
        ap (λ (ys : List ListPlace). insert ys (j + at) p) (sym split) ∙ insert-append_right idle (check ++ timers) i (j + at) p many_idle (omega (arith, le))
        ∙ ap (λ (ys : List ListPlace). idle ++ ys) (insert-append_right check timers (j - i) (j + at - i) p many_check (omega (arith, le)))
        ∙ ap (λ (k : ℕ). idle ++ (check ++ insert timers k p)) place in
        ap (λ (ys : List ListPlace). parts_of ys i j) is ∙ parted idle check (insert timers at p) i j (sym many_idle) (omega (arith, many_idle, many_check, le))

  module _ (at : ℕ) where
    pub out_of_idle : at < length idle → parts_of (remove xs at) (i - 1) (j - 1) ≡ with_part Idle (remove idle at) (parts_of xs i j)
    out_of_idle few =
        let is : remove xs at ≡ remove idle at ++ (check ++ timers) = ap (λ (ys : List ListPlace). remove ys at) (sym split) ∙ remove-append_left idle (check ++ timers) at few in
        let long = length-remove idle at few in
        ap (λ (ys : List ListPlace). parts_of ys (i - 1) (j - 1)) is
        ∙ parted (remove idle at) check timers (i - 1) (j - 1) (omega (arith, long, many_idle)) (omega (arith, long, many_idle, many_check, le))

    pub out_of_check : at < length check → parts_of (remove xs (i + at)) i (j - 1) ≡ with_part Check (remove check at) (parts_of xs i j)
    out_of_check few =
        let place : i + at - i ≡ at = omega arith in
        let is : remove xs (i + at) ≡ idle ++ (remove check at ++ timers) =
        ap (λ (ys : List ListPlace). remove ys (i + at)) (sym split) ∙ remove-append_right idle (check ++ timers) i (i + at) many_idle (omega arith)
        ∙ ap (λ (k : ℕ). idle ++ remove (check ++ timers) k) place ∙ ap (λ (ys : List ListPlace). idle ++ ys) (remove-append_left check timers at few) in
        let long = length-remove check at few in
        ap (λ (ys : List ListPlace). parts_of ys i (j - 1)) is
        ∙ parted idle (remove check at) timers i (j - 1) (sym many_idle) (omega (arith, long, many_idle, many_check, le))

    pub out_of_timers : parts_of (remove xs (j + at)) i j ≡ with_part Timer (remove timers at) (parts_of xs i j)
    out_of_timers =
        let place : j + at - i - (j - i) ≡ at = omega (arith, le) in
        let is : remove xs (j + at) ≡ idle ++ (check ++ remove timers at) =
        ap (λ (ys : List ListPlace). remove ys (j + at)) (sym split) ∙ remove-append_right idle (check ++ timers) i (j + at) many_idle (omega (arith, le))
        ∙ ap (λ (ys : List ListPlace). idle ++ ys) (remove-append_right check timers (j - i) (j + at - i) many_check (omega (arith, le)))
        ∙ ap (λ (k : ℕ). idle ++ (check ++ remove timers k)) place in
        ap (λ (ys : List ListPlace). parts_of ys i j) is ∙ parted idle check (remove timers at) i j (sym many_idle) (omega (arith, many_idle, many_check, le))
