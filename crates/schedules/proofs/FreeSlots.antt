-- How a call of a guest goes at the requests and at the shared object, with the free slot that it takes, or the request that was open.
use Rattle.schedules.proofs.Words.{Answered, ap, Bool, CallMoves, Calls, Cancelled, cancels_won, cond, false, GuestCall, HandedOut, in_state, inl, inr}
use Rattle.schedules.proofs.Words.{is_free_slot, is_settled, IsBeside, leaves_all, List, Loop, None, Open, opens, Option, over, refl, Request, request_of}
use Rattle.schedules.proofs.Words.{Requests, Setting, Some, Stage, State, StepDid, steps_keep, StepsWith, subst, sym, TakesOwn, took, tried, true, unmoved}
use Rattle.schedules.proofs.Words.{with_requests, with_stage, with_work, without_request, WorkOrder, ℕ, [], ◌+◌, ◌<◌, ◌∙◌, ◌∷◌, ◌≡◌, ◌⊎◌}
use Rattle.limits.specs.declared.TheConstants.{MAX_REQUEST_NUMBER}
use Rattle.syntax.specs.declared.types.Value.{Value}
use Rattle.syntax.specs.declared.types.Value.TheVariants.{I32}
use Rattle.reduction.specs.Run.{HostCall}
use Rattle.imports.specs.declared.call.Call.{Call}
use Rattle.imports.specs.declared.call.Call.TheVariants.{QueueWork, Cancel}
use Rattle.order.specs.Uv.Bytes.{taken_out}
use Rattle.events.specs.declared.phase.EntryKind.{EntryKind}
use Rattle.events.specs.declared.phase.EntryKind.TheVariants as kind
use Rattle.phases.specs.declared.entry.Entry.{Entry}
use Rattle.phases.specs.Guests.{GuestStep, GuestSteps}
use Rattle.phases.specs.Host.{CallStep, CancelsFrom, Opens, next_work, request_cancel_state, stage_cancel_state}
use Rattle.phases.specs.Step.{RunsFrom, begun}
use Rattle.phases.proofs.CallMoves.{MayOpen, call_moves, queue_fate}
use Rattle.phases.proofs.StepGoes.{EntryGoes, skips, runs, works, StepGoes, rests, enters, same_requests, step_goes}

-- It opens no request and cancels none; it opens the next one, in a free slot; or it cancels one that was not settled.
pub data CallDone {S : Type 0} (calls : Calls S) (g : Setting) (old new : Requests × S) : Type 0 where
  keeps_all : new.0 ≡ old.0 → IsBeside calls old.1 new.1 → CallDone calls g old new
  opens_free : (o : WorkOrder) → o.loop_no ≡ g.loop_no → o.request ≡ old.0.last + 1 → is_free_slot old.0 o.slot ≡ true → new.0 ≡ with_work old.0 o
      → calls.opens old.1 o.slot (old.0.last + 1) new.1 → CallDone calls g old new
  cancels_open : (n : ℕ) (q : Request) → request_of old.0 n ≡ Some q → is_settled q.stage ≡ false → new.0 ≡ with_stage old.0 n Cancelled
      → calls.cancels old.1 q.order.slot n true new.1 → CallDone calls g old new

module _ {S : Type 0} (calls : Calls S) (g : Setting) (old : State × S) (call : HostCall) (new : State × S) where
  abbrev Done : Type 0
  Done = CallDone calls g (old.0.requests, old.1) (new.0.requests, new.1)

  -- where all stays
  stays : {P : Type 0} (requests : Requests) → new.0.requests ≡ requests → P × (◌≡◌ {A = Requests × S} (requests, new.1) (old.0.requests, old.1)) → Done
  stays requests e h = keeps_all (e ∙ ap (λ p. p.0) h.1) (unmoved (ap (λ p. p.1) h.1))

  queued : (op place count : ℕ) → CallStep calls g old call new QueueWork (I32 op ∷ I32 place ∷ I32 count ∷ []) → Done
  queued op place count h = by (queue_fate calls calls g call.before (old.0.requests, old.1) op place count h.0 (h.1, new.1) h.2).0 where
    requests : new.0.requests ≡ h.1
    requests = ap (λ s. s.requests) h.4

    by : ((MAX_REQUEST_NUMBER < h.0) × (◌≡◌ {A = Requests × S} (h.1, new.1) (old.0.requests, old.1)))
        ⊎ ((o : Opens calls g (old.0.requests, old.1) op (taken_out place count call.before) h.0 (h.1, new.1)) × MayOpen g o.slot count)
        → Done
    by (inl it) = stays h.1 requests it
    by (inr it) =
        opens_free (next_work g old.0.requests it.0.slot op (taken_out place count call.before)) refl refl it.0.free (requests ∙ it.0.kept) it.0.opened

  cancelled : (number : ℕ) → CallStep calls g old call new Cancel (I32 number ∷ []) → Done
  cancelled number h = from (request_of old.0.requests number) refl h.2 where
    requests : new.0.requests ≡ h.1
    requests = ap (λ s. s.requests) h.4

    won : (q : Request) → request_of old.0.requests number ≡ Some q → is_settled q.stage ≡ false → (b : Bool) → calls.cancels old.1 q.order.slot number b new.1
        → h.1 ≡ cond b (with_stage old.0.requests number Cancelled) old.0.requests → Done
    won q is free true at e = cancels_open number q is free (requests ∙ e) at
    won q is free false at e = keeps_all (requests ∙ e) (tried q.order.slot number at)

    staged : (q : Request) (s : Stage) → q.stage ≡ s → request_of old.0.requests number ≡ Some q
        → CancelsFrom calls (stage_cancel_state q.order.slot s) (old.0.requests, old.1) number h.0 (h.1, new.1) → Done
    staged q Open e is c = won q is (ap is_settled e) c.0 c.1 c.3
    staged q HandedOut e is c = won q is (ap is_settled e) c.0 c.1 c.3
    staged q (Answered end) e is c = stays h.1 requests c
    staged q Cancelled e is c = stays h.1 requests c

    from : (o : Option Request) → request_of old.0.requests number ≡ o → CancelsFrom calls (request_cancel_state o) (old.0.requests, old.1) number h.0 (h.1, new.1) → Done
    from None is c = stays h.1 requests c
    from (Some q) is c = staged q q.stage refl is c

  pub call_done : (f : Call) → CallStep calls g old call new f call.args → Done
  call_done f h = by (call_moves calls g old call new f h) where
    by : CallMoves calls g (old.0.requests, old.1) (record { function = f; call = call }) (new.0.requests, new.1) → Done
    by (leaves_all asks never e beside) = keeps_all e beside
    by (opens op place count slot may is args told e at) =
        queued op place count (subst (λ xs. CallStep calls g old call new QueueWork xs) args (rw (← is) h))
    by (cancels_won n q is args told found e at) =
        cancelled n (subst (λ xs. CallStep calls g old call new Cancel xs) args (rw (← is) h))

-- what a call, a removal and a move of the shared object leave as it is
pub record IsKept {S : Type 0} (calls : Calls S) (g : Setting) (P : Requests → S → Type 0) : Type 0 where
  pub called : (old new : Requests × S) → CallDone calls g old new → P old.0 old.1 → P new.0 new.1
  pub removed : (rs : Requests) (n : ℕ) (s : S) → P rs s → P (without_request rs n) s
  pub beside : (rs : Requests) (s s' : S) → IsBeside calls s s' → P rs s → P rs s'

-- then so do the steps of a loop
module _ {S : Type 0} (calls : Calls S) (g : Setting) (P : Requests → S → Type 0) (kept : IsKept calls g P) where
  abbrev At : Loop S → Type 0
  At l = P l.state.requests l.shared

  trace_keeps : (made : List GuestCall) (old new : State × S) → GuestSteps calls g made old new → P old.0.requests old.1 → P new.0.requests new.1
  trace_keeps =
      steps_keep (GuestStep calls g) (λ made x. P x.0.requests x.1)
      (λ c made old new h. kept.called (old.0.requests, old.1) (new.0.requests, new.1) (call_done calls g old c.call new c.function h.1)) []

  module _ (did : StepDid) (made : List GuestCall) (new : Loop S) where
    run_keeps : (old : Loop S) (kind : EntryKind) (number function : ℕ) (args : List Value) (reply : Option (List ℕ))
        → RunsFrom calls g old kind number function args reply did made new → At old → At new
    run_keeps old kind number function args reply h p =
        rw (ap (λ s. s.requests) h.finished) (trace_keeps made (begun old.state reply, old.shared) (h.state, new.shared) h.answers p)

    taken_keeps : (old : Loop S) (taken : Option (ℕ × ℕ)) (s : S) → TakesOwn calls old taken s → At old → P old.state.requests s
    taken_keeps old None s e p = subst (P old.state.requests) (sym e) p
    taken_keeps old (Some taken) s h p = kept.beside old.state.requests old.shared s (took taken.0 taken.1 h.1) p

    entry_keeps : (old : Loop S) (e : Entry) (E : S → S → Type 0) → EntryGoes calls calls g old e did made new E → At old → At new
    entry_keeps old e E (skips taken mid kind number at takes h back) p = subst At (sym h.1) (taken_keeps old taken mid takes p)
    entry_keeps old e E (runs u taken mid kind number function args prepares is takes h back) p =
        run_keeps (over mid (in_state old u)) kind number function args None h
        (rw (same_requests old.state u prepares) (taken_keeps old taken mid takes p))
    entry_keeps old e E (works number q told is found settled h back) p =
        run_keeps (in_state old (with_requests old.state (without_request old.state.requests number))) kind.After number h.0
        (I32 number ∷ I32 told.kind ∷ I32 told.code ∷ []) (Some told.bytes) h.2 (kept.removed old.state.requests number old.shared p)

    goes_keeps : (old : Loop S) (E : S → S → Type 0) → StepGoes calls calls g old did made new E → At old → At new
    goes_keeps old E (rests next requests roster none silent e back) p = subst At (sym e) (rw requests p)
    goes_keeps old E (enters e rest is h) p = entry_keeps (in_state old (record old.state { list = rest })) e E h p

    pub step_kept : (old : Loop S) → StepsWith calls g old did made new → At old → At new
    step_kept old h p = goes_keeps old _ (step_goes calls calls g did made new old h) p
