-- What the calls of a guest keep, and what they are over a whole run.
use Rattle.phases.proofs.Words.{ap, AreOpenedUpTo, arith, Bool, Call, Calls, CallStep, cond, false, GuestCall, GuestSteps, HostCall, HostStep, IsLawful, Lawful}
use Rattle.phases.proofs.Words.{List, map, refl, Requests, Setting, Some, State, steps_map, subst, true, Value, View, with_stage, ℕ, [], ◌++◌, ◌+◌, ◌<◌, ◌∙◌}
use Rattle.phases.proofs.Words.{◌∷◌, ◌≡◌, ◌≤◌}
use Rattle.tallies.specs.Requests.{is_request, times}
use Rattle.tallies.proofs.Requests.{same_parts, times_push}
use Rattle.valid.specs.Typing.{type_of}
use Rattle.phases.specs.View.{Opened, Cancelled, Sent}
use Rattle.phases.specs.Requests.{Cancelled as cancelled}
use Rattle.phases.specs.Guests.{trace_of}
use Rattle.phases.specs.Hosting.{Answered, Replies}
use Rattle.phases.proofs.CallMoves.{CallMoves, leaves_all, opens, cancels_won, call_moves}
use Rattle.phases.proofs.CancelFates.{IsBeside, unmoved, tried, sent, took, CancelMoves, wins, leaves}

-- the calls of a whole run are those of the loop that the host stands for
pub record Served {G S : Type 0} (calls : Calls S) (setting : G → Setting) (standing : G → State × S) (trace : List HostCall) (old new : G) : Type 0 where
  pub answers : Lawful (HostStep calls (setting old)) trace (standing old) (standing new)
  pub same : setting new ≡ setting old

pub served : {G S : Type 0} (calls : Calls S) (setting : G → Setting) (standing : G → State × S) (trace : List HostCall) (old new : G)
    → Lawful (Answered calls setting standing) trace old new → Served calls setting standing trace old new
served calls setting standing trace old new h =
    let it =
    steps_map (Answered calls setting standing) (HostStep calls (setting old)) standing (λ x. setting x ≡ setting old)
    (λ call x y same one. (subst (λ (g : Setting). HostStep calls g (standing x) call (standing y)) same one.step, one.same ∙ same)) trace old new refl h in
    record { answers = it.0; same = it.1 }

-- the calls of a trace, each with the function that its step names
pub named : {S : Type 0} (calls : Calls S) (g : Setting) (trace : List HostCall) (old new : State × S) → Lawful (HostStep calls g) trace old new
    → (made : List GuestCall) × (trace_of made ≡ trace) × GuestSteps calls g made old new
named calls g [] old new h = ([], refl, h)
named calls g (call ∷ trace) old new h =
    let rest = named calls g trace h.0 new h.2 in
    (record { function = h.1.0; call = call } ∷ rest.0, ap (λ xs. call ∷ xs) rest.1, (h.0, (h.1.1, h.1.2), rest.2))

-- a call with no arguments has none
pub no_arguments : (args : List Value) → map type_of args ≡ [] → args ≡ []
no_arguments [] h = refl
no_arguments (x ∷ xs) h = absurd (cc)

-- no number above the last is opened
opened_more : (last slot : ℕ) (v : View) → AreOpenedUpTo last v → AreOpenedUpTo (last + 1) (record v { opened = v.opened ++ (slot, last + 1) ∷ [] })
opened_more last slot v upto c within =
    let more = times_push c (slot, last + 1) v.opened in
    elim (is_request c (slot, last + 1)) as (λ b. is_request c (slot, last + 1) ≡ b → times c (v.opened ++ (slot, last + 1) ∷ []) ≡ times c v.opened + cond b 1 0 → c.1 ≤ last + 1) [
      | true ↦ λ e k. (let same = same_parts c (slot, last + 1) e in omega arith)
      | false ↦ λ e k. (let before = upto c (omega arith) in omega arith)
    ] refl more

module _ {S : Type 0} (calls : Calls S) (lawful : IsLawful calls) where
  abbrev UpTo : Requests × S → Type 0
  UpTo x = AreOpenedUpTo x.0.last (calls.view x.1)

  pub upto_view : (last : ℕ) (v w : View) → w.opened ≡ v.opened → AreOpenedUpTo last v → AreOpenedUpTo last w
  upto_view last v w same upto = λ c within. upto c (subst (λ (xs : List (ℕ × ℕ)). 0 < times c xs) same within)

  -- the last number stays, and what is opened
  left_upto : (old new : Requests × S) → new.0.last ≡ old.0.last → (calls.view new.1).opened ≡ (calls.view old.1).opened → UpTo old → UpTo new
  left_upto old new last same upto = rw last (upto_view old.0.last (calls.view old.1) (calls.view new.1) same upto)

  tried_opened : (v w : View) (c : ℕ × ℕ) → Cancelled v w c false → w.opened ≡ v.opened
  tried_opened v w c h = ap (λ u. u.opened) h ∙ either_way _ where
    either_way : (b : Bool) → (cond b (record v { found_started = v.found_started ++ c ∷ [] }) v).opened ≡ v.opened
    either_way true = refl
    either_way false = refl

  sent_opened : (v w : View) (a : ℕ) (answer : Bool) → Sent v w a answer → w.opened ≡ v.opened
  sent_opened v w a true h = ap (λ u. u.opened) h.0
  sent_opened v w a false h = ap (λ u. u.opened) h.0

  beside_opened : (s s' : S) → IsBeside calls s s' → (calls.view s').opened ≡ (calls.view s).opened
  beside_opened s s' (unmoved e) = ap (λ x. (calls.view x).opened) e
  beside_opened s s' (tried slot n at) = tried_opened (calls.view s) (calls.view s') (slot, n) (lawful.cancels s s' slot n false at)
  beside_opened s s' (sent a ok at) = sent_opened (calls.view s) (calls.view s') a ok (lawful.sends s s' a ok at)
  beside_opened s s' (took a count at) = ap (λ v. v.opened) (lawful.takes s s' a count at).0

  stayed_upto : (old new : Requests × S) → new.0 ≡ old.0 → IsBeside calls old.1 new.1 → UpTo old → UpTo new
  stayed_upto old new e beside = left_upto old new (ap (λ rs. rs.last) e) (beside_opened old.1 new.1 beside)

  won_upto : (old new : Requests × S) (slot n : ℕ) → new.0 ≡ with_stage old.0 n cancelled → calls.cancels old.1 slot n true new.1 → UpTo old → UpTo new
  won_upto old new slot n e at = left_upto old new (ap (λ rs. rs.last) e) (ap (λ v. v.opened) (lawful.cancels old.1 new.1 slot n true at).0)

  pub moved_upto : (old new : Requests × S) (n answer : ℕ) → CancelMoves calls old n answer new → UpTo old → UpTo new
  moved_upto old new n answer (wins q found won e at) = won_upto old new q.order.slot n e at
  moved_upto old new n answer (leaves refused e beside) = stayed_upto old new e beside

  moves_upto : (g : Setting) (old new : Requests × S) (c : GuestCall) → CallMoves calls g old c new → UpTo old → UpTo new
  moves_upto g old new c (leaves_all asks never e beside) upto = stayed_upto old new e beside upto
  moves_upto g old new c (opens op place count slot may is args told e at) upto =
      let view : Opened (calls.view old.1) (calls.view new.1) (slot, old.0.last + 1) = lawful.opens old.1 new.1 slot (old.0.last + 1) at in
      rw (e, view) (opened_more old.0.last slot (calls.view old.1) upto)
  moves_upto g old new c (cancels_won n q is args told found e at) upto = won_upto old new q.order.slot n e at upto

  pub taken_upto : (last : ℕ) (old new : S) (async_no answer : ℕ) → calls.takes old async_no answer new → AreOpenedUpTo last (calls.view old) → AreOpenedUpTo last (calls.view new)
  taken_upto last old new async_no answer h upto =
      upto_view last (calls.view old) (calls.view new) (ap (λ (v : View). v.opened) (lawful.takes old new async_no answer h).0) upto

  abbrev Keeps : State × S → Type 0
  Keeps x = AreOpenedUpTo x.0.requests.last (calls.view x.1)

  pub call_upto : (g : Setting) (old : State × S) (call : HostCall) (new : State × S) (f : Call) → CallStep calls g old call new f call.args → Keeps old → Keeps new
  call_upto g old call new f h =
      moves_upto g (old.0.requests, old.1) (new.0.requests, new.1) (record { function = f; call = call }) (call_moves calls g old call new f h)

  pub replies_upto : (g : Setting) (old new : State × S) (f : Call) (args : List Value) (memory memory' : List ℕ) (answer : Value)
      → Replies calls g old f args memory answer memory' new → Keeps old → Keeps new
  replies_upto g old new f args memory memory' answer h =
      call_upto g old (record { function = 0; args = args; before = memory; answer = Some answer; after = memory' }) new f (h 0)
