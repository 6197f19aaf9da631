-- One event more of a thread's loop.
use Rattle.serve.proofs.Words.{append-nil, append_assoc, ClockRaised, MAX_CALLBACKS, MovedBeside, RecordHandsOut, sum_by-append, thread_calls, ThreadHistory, ℕ}
use Rattle.serve.proofs.Words.{count_cons, EndOffered, IsByThread, LoopEnding, LoopRecord, LoopStep, MovesAlone, offered_in, option_map, OrderAsked, steps_join}
use Rattle.serve.proofs.Words.{BareDid, emitted, EntryKind, EventStep, GuestCall, IsOffered, IsOpening, new_view, order_of, PostsNone, ThreadStep, whole_did}
use Rattle.serve.proofs.Words.{ap, arith, end_of, Ended, EndsBy, HasDone, IsAlone, Loaded, MovesBy, opening, Option, Setting, Status, StepDid, Stepped, ∥∥₁_map}
use Rattle.serve.proofs.Words.{cond, Event, false, List, Loop, Order, refl, Reply, Seats, subst, sym, true, [], ◌++◌, ◌+◌, ◌∙◌, ◌∷◌, ◌≡◌, ◌≢◌, ◌≤◌}
use Rattle.std.proofs.Common.{add-zero}
use Rattle.handles.specs.Table.{saturated}
use Rattle.instance.specs.Fresh.{IsFresh}
use Rattle.events.specs.declared.did.StepDid.TheVariants as did
use Rattle.events.specs.declared.did.Hint.TheVariants.{For}
use Rattle.phases.specs.declared.entry.Status.TheVariants as status
use Rattle.events.specs.declared.ended.BareEnded.{BareEnded}
use Rattle.phases.specs.declared.did.BareDid.TheVariants as bare
use Rattle.phases.specs.declared.loop_core.Accepted.{Accepted}
use Rattle.phases.specs.declared.loop_core.Accepted.TheVariants as accepted
use Rattle.phases.specs.Accepting.{Accepts}
use Rattle.phases.specs.History.{emits_in}
use Rattle.phases.specs.Outside.{next_order_of, clock_in, after_clock}
use Rattle.phases.specs.PhaseList.{begin_list, hint_of}
use Rattle.phases.specs.Roster.{opening_roster}
use Rattle.serve.specs.Histories.{HasServed, is_callback_event, callbacks_in}

-- to raise the clock to 0 is to read it
clock_read : (s : Status) (n : ℕ) → clock_in s n 0 ≡ n
clock_read status.Failed n = refl
clock_read status.Running n = omega arith
clock_read status.Over n = omega arith

pub emitted_append : (events more : List Event) → emitted (events ++ more) ≡ emitted events ++ emitted more
emitted_append [] more = refl
emitted_append (x ∷ events) more = ap (λ xs. emits_in x ++ xs) (emitted_append events more) ∙ sym (append_assoc (emits_in x) (emitted events) (emitted more))

pub callbacks_append : (events more : List Event) → callbacks_in (events ++ more) ≡ callbacks_in events + callbacks_in more
callbacks_append events more = sum_by-append (λ x. cond (is_callback_event x) 1 0) events more

pub offered_append : (events more : List Event) → offered_in (events ++ more) ≡ offered_in events ++ offered_in more
offered_append [] more = refl
offered_append (EndOffered o end taken ∷ events) more = ap (λ xs. (o, end) ∷ xs) (offered_append events more)
offered_append (_ ∷ events) more = offered_append events more

pub none_append : (events more : List Event) → PostsNone events → PostsNone more → PostsNone (events ++ more)
none_append [] more h k = k
none_append (MovedBeside ∷ events) more h k = absurd h
none_append (_ ∷ events) more h k = none_append events more h k

-- some moves, and then more
pub moves_then : (old mid new : LoopRecord) (events more : List Event) → MovesBy old events mid → MovesBy mid more new → MovesBy old (events ++ more) new
moves_then old mid new events more h rest = record {
  setting = rest.setting ∙ h.setting;
  history = steps_join (ThreadStep thread_calls old.core.setting) events more old.core.loop mid.core.loop new.core.loop h.history (subst (λ g. ThreadHistory thread_calls g mid.core.loop more new.core.loop) h.setting rest.history);
  counted = (let a = h.counted in let b = rest.counted in let c = callbacks_append events more in omega arith);
  told = rest.told ∙ ap (λ xs. xs ++ emitted more) h.told ∙ append_assoc old.emits.items (emitted events) (emitted more) ∙ ap (λ xs. old.emits.items ++ xs) (sym (emitted_append events more));
}

pub alone_then : (old mid new : LoopRecord) → MovesAlone old mid → MovesAlone mid new → MovesAlone old new
alone_then old mid new h rest = record {
  events = h.events ++ rest.events;
  moves = moves_then old mid new h.events rest.events h.moves rest.moves;
  none = offered_append h.events rest.events ∙ ap (λ xs. xs ++ offered_in rest.events) h.none ∙ rest.none;
  unposted = none_append h.events rest.events h.unposted rest.unposted;
}

pub no_move : (old new : LoopRecord) → new.core.setting ≡ old.core.setting → new.core.loop ≡ old.core.loop → new.ran ≡ old.ran → new.emits.items ≡ old.emits.items → MovesAlone old new
no_move old new setting same ran emits = record {
  events = [];
  moves = record { setting = setting; history = same; counted = (omega (arith, ran)); told = emits ∙ sym (append-nil old.emits.items) };
  none = refl;
  unposted = tt;
}

-- a step that runs no callback
abbrev pub RunsNone : StepDid → Type 0
RunsNone d = (kind : EntryKind) (number : ℕ) (ended : Ended) → d ≢ did.Ran kind number ended

-- as it is told
pub tells_other : (d : BareDid) → ((kind : EntryKind) (number : ℕ) (ended : BareEnded) → d ≢ bare.Ran kind number ended) → RunsNone (whole_did d)
tells_other (bare.Ran of at end) not kind number ended is = absurd (not of at end refl)
tells_other _ not kind number ended is = absurd (cc)

-- one event
module _ (old new : LoopRecord) (same : new.core.setting ≡ old.core.setting) where
  moves_one : (e : Event) → EventStep thread_calls old.core.setting e old.core.loop new.core.loop → IsByThread e old.core.loop.state
      → new.ran ≡ old.ran + cond (is_callback_event e) 1 0 → new.emits.items ≡ old.emits.items ++ emits_in e → MovesBy old (e ∷ []) new
  moves_one e step own count more = record {
    setting = same;
    history = (new.core.loop, (step, own), refl);
    counted = (let one = count_cons is_callback_event e [] in omega (arith, one, count));
    told = more ∙ ap (λ xs. old.emits.items ++ xs) (sym (append-nil (emits_in e)));
  }

  -- that is no callback
  moves_quiet : (e : Event) → is_callback_event e ≡ false → emits_in e ≡ [] → EventStep thread_calls old.core.setting e old.core.loop new.core.loop → IsByThread e old.core.loop.state
      → new.ran ≡ old.ran → new.emits.items ≡ old.emits.items → MovesBy old (e ∷ []) new
  moves_quiet e quiet none step own count kept =
      let counted : new.ran ≡ old.ran + cond (is_callback_event e) 1 0 = count ∙ sym (add-zero old.ran) ∙ ap (λ b. old.ran + cond b 1 0) (sym quiet) in
      moves_one e step own counted (kept ∙ sym (append-nil old.emits.items) ∙ ap (λ xs. old.emits.items ++ xs) (sym none))

  -- a step that runs a callback
  pub moves_run : (kind : EntryKind) (number : ℕ) (ended : Ended) (told : StepDid) → told ≡ did.Ran kind number ended
      → LoopStep thread_calls old.core.setting old.core.loop told new.core.loop → new.ran ≡ old.ran + 1 → new.emits.items ≡ old.emits.items ++ new.core.loop.state.emits → MovesAlone old new
  moves_run kind number ended told is step count more =
      let ran_it : LoopStep thread_calls old.core.setting old.core.loop (did.Ran kind number ended) new.core.loop = subst (λ d. LoopStep thread_calls old.core.setting old.core.loop d new.core.loop) is step in
      record {
        events = Stepped (did.Ran kind number ended) new.core.loop.state.emits ran_it.0 ∷ [];
        moves = moves_one (Stepped (did.Ran kind number ended) new.core.loop.state.emits ran_it.0) (ran_it.1, refl) tt count more;
        none = refl;
        unposted = tt;
      }

  -- a step that runs none
  pub moves_other : (told : StepDid) → LoopStep thread_calls old.core.setting old.core.loop told new.core.loop → new.ran ≡ old.ran → new.emits.items ≡ old.emits.items → RunsNone told → MovesAlone old new
  moves_other told step count kept none =
      let it = quiet told step.0 none in
      record {
        events = Stepped told new.core.loop.state.emits step.0 ∷ [];
        moves = moves_quiet (Stepped told new.core.loop.state.emits step.0) it.0 it.1 (step.1, refl) tt count kept;
        none = refl;
        unposted = tt;
      } where
        quiet : (d : StepDid) (made : List GuestCall) → RunsNone d
            → (is_callback_event (Stepped d new.core.loop.state.emits made) ≡ false) × (emits_in (Stepped d new.core.loop.state.emits made) ≡ [])
        quiet (did.Ran kind number ended) made none = absurd (none kind number ended refl)
        quiet _ made none = (refl, refl)

  pub moves_order : (order : Option Order) → option_map order_of order ≡ (next_order_of old.core.loop.state).0 → new.core.loop ≡ record old.core.loop { state = (next_order_of old.core.loop.state).1 }
      → new.ran ≡ old.ran → new.emits.items ≡ old.emits.items → RecordHandsOut old order new
  moves_order order handed is count kept = moves_quiet (OrderAsked (option_map order_of order)) refl refl (handed, is) tt count kept

  -- a request is posted
  pub moves_beside : thread_calls.view new.core.loop.shared ≡ thread_calls.view old.core.loop.shared → new.core.loop.state ≡ old.core.loop.state → new.core.loop.store ≡ old.core.loop.store
      → new.ran ≡ old.ran → new.emits.items ≡ old.emits.items → MovesBy old (MovedBeside ∷ []) new
  moves_beside view state store count kept = moves_quiet MovedBeside refl refl (record { view = view; state = state; store = store }) tt count kept

  pub moves_accept : (reply : Reply) (a : Accepted) → Accepts reply old.core.loop a new.core.loop → new.ran ≡ old.ran → new.emits.items ≡ old.emits.items → IsOffered old reply new
  moves_accept reply accepted.Accepted h count kept =
      (true, moves_quiet (EndOffered (order_of reply.order) (end_of reply.outcome) true) refl refl (reply.computed, (h.0, h.1)) tt count kept)
  moves_accept reply (accepted.Stranger other) h count kept =
      (false, moves_quiet (EndOffered (order_of reply.order) (end_of reply.outcome) false) refl refl (reply.computed, (h.2, h.1)) tt count kept)

  -- the clock is read, and raised by how long the loop has nothing to do
  pub moves_wait : (mid : Loop Seats) (d clock ms : ℕ) → mid ≡ record old.core.loop { state = after_clock old.core.loop.state 0 } → clock ≡ mid.state.clock → ms ≡ saturated (clock + d)
      → new.core.loop ≡ record mid { state = after_clock mid.state ms } → old.core.loop.state.requests.outstanding ≡ [] → old.core.loop.state.clock ≡ old.core.loop.state.now → hint_of old.core.loop.state ≡ For d
      → new.ran ≡ old.ran → new.emits.items ≡ old.emits.items → MovesAlone old new
  moves_wait mid d clock ms read is_clock is_ms raised none still hint count kept =
      let l = old.core.loop in
      let same_loop : mid ≡ l = read ∙ ap (λ (n : ℕ). record l { state = record l.state { clock = n } }) (clock_read l.state.status l.state.clock) in
      let moment = is_ms ∙ ap (λ (n : ℕ). saturated (n + d)) (is_clock ∙ ap (λ (x : Loop Seats). x.state.clock) same_loop ∙ still) in
      let from_l = raised ∙ ap (λ (x : Loop Seats). record x { state = after_clock x.state ms }) same_loop in
      record {
        events = ClockRaised ms ∷ [];
        moves = moves_quiet (ClockRaised ms) refl refl from_l (none, still, (d, hint, moment)) count kept;
        none = refl;
        unposted = tt;
      }

-- a reply that is offered leaves what the loop shares, its handles and its phase
pub accepted_leaves : (reply : Reply) (old : Loop Seats) (a : Accepted) (new : Loop Seats) → Accepts reply old a new
    → (new.shared ≡ old.shared) × (new.state.roster ≡ old.state.roster) × (new.state.phase ≡ old.state.phase)
accepted_leaves reply old accepted.Accepted new h =
    (ap (λ (l : Loop Seats). l.shared) h.1, ap (λ (l : Loop Seats). l.state.roster) h.1, ap (λ (l : Loop Seats). l.state.phase) h.1)
accepted_leaves reply old (accepted.Stranger other) new h =
    (ap (λ (l : Loop Seats). l.shared) h.1, ap (λ (l : Loop Seats). l.state.roster) h.1, ap (λ (l : Loop Seats). l.state.phase) h.1)

-- a new loop opens so
pub opens_new : (g : Setting) (l : Loop Seats) (loaded : Loaded) (loop_no fuel work_fuel depth : ℕ) (seats : Seats)
    → g ≡ record { loaded = loaded; loop_no = loop_no; fuel = fuel; work_fuel = work_fuel; depth = depth }
    → l.state ≡ opening (opening_roster loaded.contents) (begin_list loaded.contents) → IsFresh loaded.contents l.store → l.shared ≡ seats → thread_calls.view seats ≡ new_view loop_no
    → IsOpening thread_calls g l
opens_new g l loaded loop_no fuel work_fuel depth seats is state store shared view =
    subst (λ x. IsOpening thread_calls x l) (sym is) (record { state = state; store = store.store; shared = ap thread_calls.view shared ∙ view })

-- a loop that has done nothing
abbrev pub done_nothing : (g : Setting) (l : Loop Seats) (emits : List ℕ) → emits ≡ [] → IsOpening thread_calls g l → IsAlone l.shared.taker → HasDone thread_calls g l 0 emits
done_nothing g l emits none opens alone = record { start = l; opens = opens; events = []; history = refl; alone = alone.3; counted = refl; told = none }

-- what is done is that of a loop of this number
pub served_by : {g : Setting} {l : Loop Seats} {ran : ℕ} {emits : List ℕ} (loop_no : ℕ) (ending : LoopEnding) → loop_no ≡ g.loop_no → ran ≤ MAX_CALLBACKS → EndsBy thread_calls ending l ran
    → ∥ HasDone thread_calls g l ran emits ∥₁ → ∥ HasServed loop_no ending emits ∥₁
served_by {g = g} {l = l} {ran = ran} loop_no ending same few ends was =
    ∥∥₁_map was (λ done. record { setting = g; numbered = sym same; ended = record { now = l; ran = ran; few = few; done = done; ends = ends } })
