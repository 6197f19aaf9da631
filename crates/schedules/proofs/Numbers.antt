-- The numbers of a loop's requests: they rise, and no order has one that was not given yet.
use Rattle.schedules.proofs.Words.{Access, ap, append-nil, append_assoc, arith, Bool, CallMoves, Cancels, cancels_won, cond, Desk, false, filter, find}
use Rattle.schedules.proofs.Words.{GuestCall, has_number, in_stage, is_open_stage, IsBeside, leaves_all, List, listed_calls, Loop, map, not, Opens, opens, over}
use Rattle.schedules.proofs.Words.{refl, Request, Requests, Sends, sent, Setting, Some, Stage, State, StepDid, StepsBy, Store, subst, sym, Takes, took, tried}
use Rattle.schedules.proofs.Words.{true, unmoved, with_stage, without_request, ℕ, [], ◌++◌, ◌+◌, ◌∙◌, ◌∷◌, ◌≡◌, ◌≤◌}
use Rattle.phases.proofs.StepsByCalls.{CallFate, changes_nothing, opens_one, cancels_one, IsKeptInSteps, IsKeptBy, step_keeps}
use Rattle.schedules.proofs.StartsMoveBefore.{OpensOther, OpenOthers}

-- the orders are of the loop of this number, and have numbers up to the last one
abbrev pub AreOwn : (n last : ℕ) → List Request → Type 0
AreOwn n last [] = Unit {0}
AreOwn n last (q ∷ qs) = (q.order.loop_no ≡ n) × (q.order.request ≤ last) × AreOwn n last qs

own_push : (n last last' : ℕ) (qs : List Request) (q : Request) → last ≤ last' → q.order.loop_no ≡ n → q.order.request ≤ last' → AreOwn n last qs → AreOwn n last' (qs ++ q ∷ [])
own_push n last last' [] q more mine le h = (mine, le, tt)
own_push n last last' (x ∷ qs) q more mine le h = (h.0, (let low = h.1 in omega (arith, low, more)), own_push n last last' qs q more mine le h.2)

own_staged : (n last number : ℕ) (s : Stage) (qs : List Request) → AreOwn n last qs → AreOwn n last (map (in_stage number s) qs)
own_staged n last number s [] h = tt
own_staged n last number s (q ∷ qs) h = by (has_number number q) (own_staged n last number s qs h.2) where
  by : (b : Bool) → AreOwn n last (map (in_stage number s) qs) → AreOwn n last (cond b (record q { stage = s }) q ∷ map (in_stage number s) qs)
  by true rest = (h.0, h.1, rest)
  by false rest = (h.0, h.1, rest)

own_filtered : (n last : ℕ) (p : Request → Bool) (qs : List Request) → AreOwn n last qs → AreOwn n last (filter p qs)
own_filtered n last p [] h = tt
own_filtered n last p (q ∷ qs) h = by (p q) (own_filtered n last p qs h.2) where
  by : (b : Bool) → AreOwn n last (filter p qs) → AreOwn n last (cond b (q ∷ filter p qs) (filter p qs))
  by true rest = (h.0, h.1, rest)
  by false rest = rest

pub own_found : (n last : ℕ) (p : Request → Bool) (qs : List Request) (q : Request) → find p qs ≡ Some q → AreOwn n last qs → (q.order.loop_no ≡ n) × (q.order.request ≤ last)
own_found n last p [] q found h = absurd (cc)
own_found n last p (x ∷ qs) q found h = by (p x) (λ is. own_found n last p qs q is h.2) found where
  by : (b : Bool) → (find p qs ≡ Some q → (q.order.loop_no ≡ n) × (q.order.request ≤ last)) → cond b (Some x) (find p qs) ≡ Some q → (q.order.loop_no ≡ n) × (q.order.request ≤ last)
  by true rest is = (let same : x ≡ q = cc in rw (← same) (h.0, h.1))
  by false rest is = rest is

-- a loop's requests, once so many numbers were given
pub record Numbered (n first : ℕ) (rs : Requests) : Type 0 where
  pub risen : first ≤ rs.last
  pub own : AreOwn n rs.last rs.outstanding

module _ (g : Setting) (first : ℕ) where
  abbrev pub Kept : List GuestCall → Requests → Type 0
  Kept made rs = Numbered g.loop_no first rs

  pub staged : (made : List GuestCall) (rs : Requests) (n : ℕ) (s : Stage) → is_open_stage s ≡ false → Kept made rs → Kept made (with_stage rs n s)
  staged made rs n s shut h = record { risen = h.risen; own = own_staged g.loop_no rs.last n s rs.outstanding h.own }

  called : (made : List GuestCall) (c : GuestCall) (rs rs' : Requests) → CallFate g rs c rs' → Kept made rs → Kept (made ++ c ∷ []) rs'
  called made c rs rs' (changes_nothing asks never e) h = subst (Numbered g.loop_no first) (sym e) h
  called made c rs rs' (cancels_one n q is args told found e) h = subst (Numbered g.loop_no first) (sym e) (record { risen = h.risen; own = own_staged g.loop_no rs.last n _ rs.outstanding h.own })
  called made c rs rs' (opens_one op place count slot is args told e) h = subst (Numbered g.loop_no first) (sym e) (record {
    risen = (let low = h.risen in omega (arith, low));
    own = own_push g.loop_no rs.last (rs.last + 1) rs.outstanding _ (omega arith) refl (omega arith) h.own;
  })

  pub keeps_numbered : IsKeptBy g Kept
  keeps_numbered = record {
    called = called;
    removed = λ made rs n h. record { risen = h.risen; own = own_filtered g.loop_no rs.last (λ q. not (has_number n q)) rs.outstanding h.own };
    staged = staged;
  }

-- The accesses that a step made so far open numbers above the first alone, and those that it makes are these and the rest.
record Foretold (first : ℕ) (all : List Access) (rs : Requests) (ahead : List Access) : Type 0 where
  pub done : List Access
  pub whole : done ++ ahead ≡ all
  pub risen : first ≤ rs.last
  pub above : (number : ℕ) → number ≤ first → OpenOthers number done

others_push : (number : ℕ) (done : List Access) (a : Access) → OpenOthers number done → OpensOther number a → OpenOthers number (done ++ a ∷ [])
others_push number [] a h one = (one, tt)
others_push number (x ∷ done) a h one = (h.0, others_push number done a h.1 one)

module _ (first : ℕ) (all : List Access) where
  -- one access is made
  made_one : (rs rs' : Requests) (a : Access) (ahead ahead' : List Access) → ahead ≡ a ∷ ahead' → rs.last ≤ rs'.last → ((number : ℕ) → number ≤ first → OpensOther number a)
      → Foretold first all rs ahead → Foretold first all rs' ahead'
  made_one rs rs' a ahead ahead' is more other h = record {
    done = h.done ++ a ∷ [];
    whole = append_assoc h.done (a ∷ []) ahead' ∙ ap (λ xs. h.done ++ xs) (sym is) ∙ h.whole;
    risen = (let low = h.risen in omega (arith, low, more));
    above = λ number le. others_push number h.done a (h.above number le) (other number le);
  }

  none_made : (rs rs' : Requests) (ahead ahead' : List Access) → ahead' ≡ ahead → rs'.last ≡ rs.last → Foretold first all rs ahead → Foretold first all rs' ahead'
  none_made rs rs' ahead ahead' is same h = record {
    done = h.done;
    whole = ap (λ xs. h.done ++ xs) is ∙ h.whole;
    risen = (let low = h.risen in omega (arith, low, same));
    above = h.above;
  }

  beside_made : (rs rs' : Requests) (ahead ahead' : List Access) → IsBeside listed_calls ahead ahead' → rs'.last ≡ rs.last → Foretold first all rs ahead → Foretold first all rs' ahead'
  beside_made rs rs' ahead ahead' (unmoved is) same h = none_made rs rs' ahead ahead' is same h
  beside_made rs rs' ahead ahead' (tried slot n is) same h = made_one rs rs' (Cancels slot n false) ahead ahead' is (omega (arith, same)) (λ number le. tt) h
  beside_made rs rs' ahead ahead' (sent a ok is) same h = made_one rs rs' (Sends a ok) ahead ahead' is (omega (arith, same)) (λ number le. tt) h
  beside_made rs rs' ahead ahead' (took a count is) same h = made_one rs rs' (Takes a count) ahead ahead' is (omega (arith, same)) (λ number le. tt) h

  call_made : (g : Setting) (made : List GuestCall) (c : GuestCall) (old new : Requests × List Access) → CallMoves listed_calls g old c new
      → Foretold first all old.0 old.1 → Foretold first all new.0 new.1
  call_made g made c old new (leaves_all asks never e beside) h = beside_made old.0 new.0 old.1 new.1 beside (ap (λ rs. rs.last) e) h
  call_made g made c old new (opens op place count slot may is args told e at) h =
      let more : new.0.last ≡ old.0.last + 1 = ap (λ rs. rs.last) e in
      let low = h.risen in
      made_one old.0 new.0 (Opens slot (old.0.last + 1)) old.1 new.1 at (omega (arith, more)) (λ number le same. omega (arith, low, le, same)) h
  call_made g made c old new (cancels_won n q is args told found e at) h =
      let same : new.0.last ≡ old.0.last = ap (λ rs. rs.last) e in
      made_one old.0 new.0 (Cancels q.order.slot n true) old.1 new.1 at (omega (arith, same)) (λ number le. tt) h

  keeps_foretold : (g : Setting) → IsKeptInSteps listed_calls g (λ made rs ahead. Foretold first all rs ahead)
  keeps_foretold g = record {
    called = call_made g;
    removed = λ made rs n ahead h. none_made rs (without_request rs n) ahead ahead refl refl h;
    beside = λ made rs ahead ahead' moves h. beside_made rs rs ahead ahead' moves refl h;
  }

-- a step opens no request whose number was given before
pub step_opens : (g : Setting) (old : Loop Desk) (accesses : List Access) (did : StepDid) (more : List GuestCall) (state : State) (store : Store) → (h : StepsBy g old accesses did more state store)
    → (number : ℕ) → number ≤ old.state.requests.last → OpenOthers number accesses
step_opens g old accesses did more state store h number le = subst (OpenOthers number) (sym (append-nil it.done) ∙ it.whole) (it.above number le) where
  last : ℕ
  last = old.state.requests.last

  start : Foretold last accesses old.state.requests accesses
  start = record { done = []; whole = refl; risen = omega arith; above = λ n low. tt }

  it : Foretold last accesses state.requests []
  it =
      step_keeps listed_calls g (λ made rs ahead. Foretold last accesses rs ahead) (keeps_foretold last accesses g) [] more (over accesses old) did
      (record { state = state; store = store; shared = [] }) h start

-- and so none of the first of them
pub others_front : (number : ℕ) (done ahead : List Access) → OpenOthers number (done ++ ahead) → OpenOthers number done
others_front number [] ahead h = tt
others_front number (a ∷ done) ahead h = (h.0, others_front number done ahead h.1)
