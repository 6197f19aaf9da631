-- A send of another thread moves behind the accesses of the loop that take nothing.
use Rattle.schedules.proofs.Words.{Access, AccessMoves, ap, Bool, Cancels, Chain, Desk, DeskGets, false, GuestCall, is_open_request, List, listed_calls, Loop}
use Rattle.schedules.proofs.Words.{MAX_ASYNCS, None, Opens, Option, over, raised, refl, Sends, Setting, Some, started, State, Stays, step_retraced, StepDid}
use Rattle.schedules.proofs.Words.{steps_keep, StepsBy, Store, subst, suc, sym, Takes, TakesOwn, times, Touch, true, zero, ℕ, [], ◌++◌, ◌<◌, ◌∙◌, ◌∷◌, ◌≡◌}
use Rattle.std.proofs.Common.{sum}
use Rattle.limits.specs.declared.TheConstants.{MAX_SENDS}
use Rattle.reduction.specs.StepByStep.{StepByStep}
use Rattle.reduction.proofs.StepByStep.{steps_map}
use Rattle.desk.specs.Desk.{opened, cancelled, found_started, sent_own, sent_by_another, DeskCancels, DeskSends}

-- another thread sent to this async, and others to these, one after another
abbrev pub Got : Desk → ℕ → Desk → Type 0
Got d a e = (a < MAX_ASYNCS) × DeskGets d a true e

abbrev pub Gets : Desk → List ℕ → Desk → Type 0
Gets d late e = StepByStep Got late d e

-- what is open stays so, and a start is the same before and behind
pub gets_open : (c : ℕ × ℕ) (d e : Desk) (late : List ℕ) → Gets d late e → is_open_request e c ≡ is_open_request d c
gets_open c d e late h =
    steps_keep Got (λ sent x. is_open_request x c ≡ is_open_request d c) (λ a sent x y got was. ap (λ z. is_open_request z c) got.1.1 ∙ was) [] late d e h refl

pub gets_started : (c : ℕ × ℕ) (d e : Desk) (late : List ℕ) → Gets d late e → Gets (started d c) late (started e c)
gets_started c d e late h =
    (steps_map Got Got (λ x. started x c) (λ x. Unit {0}) (λ a x y held got. ((got.0, (got.1.0, ap (λ z. started z c) got.1.1)), tt)) late d e tt h).0

-- the access takes nothing
abbrev pub IsNoTake : Access → Type 0
IsNoTake (Takes async_no count) = ⊥
IsNoTake _ = Unit {0}

raise_both : (xs : List ℕ) (a b : ℕ) → raised (raised xs a 1) b 1 ≡ raised (raised xs b 1) a 1
raise_both (x ∷ xs) zero zero = refl
raise_both (x ∷ xs) (suc a) (suc b) = ap (λ ys. x ∷ ys) (raise_both xs a b)
raise_both _ _ _ = refl

-- the access goes first
abbrev pub First : Desk → ℕ → Access → Desk → Type 0
First d b a e = (mid : Desk) × AccessMoves d a mid × DeskGets mid b true e

module _ (d m e : Desk) (b : ℕ) (got : DeskGets d b true m) where
  cancels_first : (slot request : ℕ) (won : Bool) → DeskCancels m (slot, request) won e → First d b (Cancels slot request won) e
  cancels_first slot request true h = (
    cancelled d (slot, request),
    (h.0 ∙ ap (λ x. is_open_request x (slot, request)) got.1, (subst (λ (x : Desk). times (slot, request) x.view.found_started ≡ 0) got.1 h.1.0, refl)),
    (got.0, h.1.1 ∙ ap (λ x. cancelled x (slot, request)) got.1),
  )
  cancels_first slot request false h = (
    found_started d (slot, request),
    (h.0 ∙ ap (λ x. is_open_request x (slot, request)) got.1, refl),
    (got.0, h.1 ∙ ap (λ x. found_started x (slot, request)) got.1),
  )

  sends_first : (a : ℕ) (ok : Bool) → DeskSends m a ok e → First d b (Sends a ok) e
  sends_first a true h = (
    sent_own d a,
    (subst (λ (x : Desk). sum x.view.own < MAX_SENDS) got.1 h.0, refl),
    (
      got.0,
      h.1 ∙ ap (λ x. sent_own x a) got.1
          ∙ ap (λ xs. record (sent_own (sent_by_another d b) a) { waiting = xs }) (raise_both d.waiting b a),
    ),
  )
  sends_first a false h = (d, (subst (λ (x : Desk). sum x.view.own ≡ MAX_SENDS) got.1 h.0, refl), (got.0, h.1 ∙ got.1))

  one_first : (a : Access) → IsNoTake a → AccessMoves m a e → First d b a e
  one_first (Opens slot request) quiet h = (opened d (slot, request), refl, (got.0, h ∙ ap (λ x. opened x (slot, request)) got.1))
  one_first (Cancels slot request won) quiet h = cancels_first slot request won h
  one_first (Sends a ok) quiet h = sends_first a ok h
  one_first (Takes a count) quiet h = absurd quiet

pub moves_first : (d m e : Desk) (late : List ℕ) (a : Access) → IsNoTake a → Gets d late m → AccessMoves m a e → (mid : Desk) × AccessMoves d a mid × Gets mid late e
moves_first d m e [] a quiet h moves = (e, rw (← h) moves, refl)
moves_first d m e (b ∷ late) a quiet h moves =
    let rest = moves_first h.0 m e late a quiet h.2 moves in
    let one = one_first d h.0 rest.0 b h.1.1 a quiet rest.1 in
    (one.0, one.1, (rest.0, (h.1.0, one.2), rest.2))

-- a step takes what waits at an async first, or not at all
abbrev pub NoTakes : List Access → Type 0
NoTakes [] = Unit {0}
NoTakes (a ∷ rest) = IsNoTake a × NoTakes rest

abbrev pub TakesFirst : List Access → Type 0
TakesFirst [] = Unit {0}
TakesFirst (a ∷ rest) = NoTakes rest

-- what a guest's calls do takes nothing
no_takes : (touches : List Touch) (ahead : List Access) → Chain listed_calls touches ahead [] → NoTakes ahead
no_takes [] ahead h = subst NoTakes h tt
no_takes (Stays ∷ rest) ahead h = subst NoTakes h.1 (no_takes rest h.0 h.2)
no_takes (_ ∷ rest) ahead h = subst NoTakes (sym h.1) (tt, no_takes rest h.0 h.2)

none_first : (accesses : List Access) → NoTakes accesses → TakesFirst accesses
none_first [] h = tt
none_first (a ∷ rest) h = h.1

own_first : (old : Loop (List Access)) (taken : Option (ℕ × ℕ)) (ahead : List Access) → TakesOwn listed_calls old taken ahead → NoTakes ahead → TakesFirst old.shared
own_first old None ahead same h = none_first old.shared (subst NoTakes same h)
own_first old (Some taken) ahead is h = subst TakesFirst (sym is.1) h

pub takes_first : (g : Setting) (old : Loop Desk) (accesses : List Access) (did : StepDid) (made : List GuestCall) (state : State) (store : Store)
    → StepsBy g old accesses did made state store → TakesFirst accesses
takes_first g old accesses did made state store h =
    let it = step_retraced listed_calls listed_calls g did made (record { state = state; store = store; shared = [] }) (over accesses old) h in
    own_first (over accesses old) it.taken it.mid it.takes (no_takes it.touches it.mid it.moved)

-- so one that stands behind others takes nothing
pub no_take_behind : (a b : Access) (done ahead : List Access) → TakesFirst (b ∷ done ++ a ∷ ahead) → IsNoTake a
no_take_behind a b [] ahead h = h.0
no_take_behind a b (x ∷ done) ahead h = no_take_behind a x done ahead h.1
