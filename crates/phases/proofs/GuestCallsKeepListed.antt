-- No call of a guest takes away what a loop has listed.
use Rattle.phases.proofs.Words.{after_again, ap, arith, async_handle, Bool, Call, Calls, CallStep, Cancelled, cond, false, find, find-append, Grows, GuestCall}
use Rattle.phases.proofs.Words.{GuestStep, GuestSteps, has_number, HostCall, HostStep, in_stage, in_table, INVALID, is_callback, is_settled, IsClosing}
use Rattle.phases.proofs.Words.{IsSettledIn, IsSomeAnd, Kind, Lawful, length, List, map, MatchBool, MatchOption, MAX_ASYNCS, MAX_HANDLES, next_work, None}
use Rattle.phases.proofs.Words.{NONE_LEFT, not, Open, Option, option_map_or, option_or, Record, record_of, refl, Request, Requests, Roster, same_kind, Setting}
use Rattle.phases.proofs.Words.{slice_get, Some, Stage, State, steps_keep, subst, suc, sym, Table, taken_out, true, with_async, with_handles, with_made}
use Rattle.phases.proofs.Words.{with_requests, with_roster, with_stage, with_work, WorkOrder, zero, ℕ, [], ◌&&◌, ◌++◌, ◌+◌, ◌==◌, ◌∙◌, ◌∷◌, ◌≡◌, ◌≤◌}
use Rattle.std.specs.FinMap as finite
use Rattle.std.proofs.lemmas.Bool.{eqb-false}
use Rattle.std.proofs.lemmas.List.{length_push}
use Rattle.handles.specs.declared.handle.Kind.TheVariants as kind
use Rattle.handles.specs.Table.{new_record, with_record, with_started, saturated, stopped, closed, was_started, after_start, after_stop, after_close}
use Rattle.tallies.proofs.Requests.{either}
use Rattle.phases.specs.Roster.{is_open, is_open_of, Makes, MakesAsync, stopped_in, started_in, again_in, closed_in}
use Rattle.phases.proofs.CallMoves.{RosterStep, stays, makes, makes_async, stops, starts, starts_again, closes, CallMoves, leaves_all, opens, cancels_won, call_moves, call_rest}
use Rattle.phases.proofs.RosterKeeps.{choose, changed, still_closing, closing_there}

-- steps of it
pub grows_same : (s t : State) → t.list ≡ s.list → t.phase ≡ s.phase → t.roster ≡ s.roster → t.requests ≡ s.requests → Grows s t
grows_same s t list phase roster requests = record {
  list = list;
  phase = phase;
  callbacks = ap (λ r. r.callbacks) roster;
  settled = λ number h. rw requests h;
  asyncs = λ async_no handle h. ap (λ r. async_handle r async_no) roster ∙ h;
  few = λ h. rw roster h;
  closing = λ handle h. rw roster h;
}

pub grows_refl : (s : State) → Grows s s
grows_refl s = grows_same s s refl refl refl refl

pub grows_on : (s t u : State) → Grows s t → Grows t u → Grows s u
grows_on s t u first second = record {
  list = second.list ∙ first.list;
  phase = second.phase ∙ first.phase;
  callbacks = second.callbacks ∙ first.callbacks;
  settled = λ number h. second.settled number (first.settled number h);
  asyncs = λ async_no handle h. second.asyncs async_no handle (first.asyncs async_no handle h);
  few = λ h. second.few (first.few h);
  closing = λ handle h. second.closing handle (first.closing handle h);
}

-- the requests
abbrev pub Settles : Requests → Requests → Type 0
Settles rs us = (number : ℕ) → IsSettledIn rs number → IsSettledIn us number

pub grows_requests : (s : State) (us : Requests) → Settles s.requests us → Grows s (with_requests s us)
grows_requests s us settles = record {
  list = refl;
  phase = refl;
  callbacks = refl;
  settled = settles;
  asyncs = λ async_no handle h. h;
  few = λ h. h;
  closing = λ handle h. h;
}

abbrev pub IsSettledOne : Option Request → Type 0
IsSettledOne o = MatchOption o ⊥ (λ r. is_settled r.stage ≡ true)

pub picked : (b : Bool) (x y : Request) (o u : Option Request) → (b ≡ true → is_settled x.stage ≡ true → is_settled y.stage ≡ true) → (IsSettledOne o → IsSettledOne u)
    → IsSettledOne (cond b (Some x) o) → IsSettledOne (cond b (Some y) u)
picked true x y o u f g h = f refl h
picked false x y o u f g h = g h

settled_or : (o u : Option Request) → IsSettledOne o → IsSettledOne (option_or o u)
settled_or None u h = absurd h
settled_or (Some r) u h = h

module _ (number : ℕ) (stage : Stage) (settles : is_settled stage ≡ true) (n : ℕ) where
  found_staged : (xs : List Request) → IsSettledOne (find (has_number n) xs) → IsSettledOne (find (has_number n) (map (in_stage number stage) xs))
  found_staged [] h = h
  found_staged (x ∷ xs) h =
      let staged : Request = record x { stage = stage } in
      elim (has_number number x) as (λ b. IsSettledOne (find (has_number n) (cond b staged x ∷ map (in_stage number stage) xs))) [
        | true ↦ picked (has_number n x) x staged (find (has_number n) xs) (find (has_number n) (map (in_stage number stage) xs)) (λ _ _. settles) (found_staged xs) h
        | false ↦ picked (has_number n x) x x (find (has_number n) xs) (find (has_number n) (map (in_stage number stage) xs)) (λ _ e. e) (found_staged xs) h
      ]

-- a request in a settled stage
pub settles_stage : (rs : Requests) (number : ℕ) (stage : Stage) → is_settled stage ≡ true → Settles rs (with_stage rs number stage)
settles_stage rs number stage settles n h = found_staged number stage settles n rs.outstanding h

-- a request more
pub settles_work : (rs : Requests) (o : WorkOrder) → Settles rs (with_work rs o)
settles_work rs o n h =
    let new : List Request = record { order = o; stage = Open } ∷ [] in
    subst IsSettledOne (sym (find-append (has_number n) rs.outstanding new)) (settled_or (find (has_number n) rs.outstanding) (find (has_number n) new) h)

pub settles_same : (rs us : Requests) → us ≡ rs → Settles rs us
settles_same rs us e n h = rw e h

-- the handles
abbrev pub StayClosing : Table → Table → Type 0
StayClosing t u = (handle : ℕ) → IsClosing t handle → IsClosing u handle

mapped : (P : Table → Type 0) (f : Record → Table) (o : Option Record) (t : Table) → P t → ((r : Record) → o ≡ Some r → P (f r)) → P (option_map_or f o t)
mapped P f None t p q = p
mapped P f (Some r) t p q = q r refl

module _ (t : Table) (handle : ℕ) where
  in_place : (r new : Record) (n : ℕ) → record_of t handle ≡ Some r → (r.closing ≡ true → new.closing ≡ true) → StayClosing t (changed t handle new n)
  in_place r new n is keeps =
      still_closing t handle new n
      (λ other was here. keeps (let it : IsSomeAnd (Some r) (λ s. s.closing ≡ true) = rw (ap (record_of t) here ∙ is) at was in it))

  pub stop_closing : StayClosing t (after_stop t handle)
  stop_closing =
      mapped (StayClosing t) (λ r. with_record t handle (stopped r)) (record_of t handle) t (λ other h. h)
      (λ r is. in_place r (stopped r) t.last_start is (λ e. e))

  pub start_closing : (callback due repeat : ℕ) → StayClosing t (after_start t handle callback due repeat)
  start_closing callback due repeat =
      let n = saturated (t.last_start + 1) in
      mapped (StayClosing t) _ (record_of t handle) t (λ other h. h)
      (λ r is. (
      let started : Record = record r { callback = callback; due = due; repeat = repeat } in
      let active : Record = record started { active = true; start = n } in
      choose (StayClosing t) (r.active && not (same_kind r.kind kind.Timer)) t (with_started t handle started) (λ _ other h. h) (λ _. in_place r active n is (λ e. e))))

  pub again_closing : (now : ℕ) → StayClosing t (after_again t handle now)
  again_closing now =
      let n = saturated (t.last_start + 1) in
      mapped (StayClosing t) _ (record_of t handle) t (λ other h. h)
      (λ r is. (
      let started : Record = record r { due = saturated (now + r.repeat) } in
      let active : Record = record started { active = true; start = n } in
      choose (StayClosing t) (r.start == 0) t (cond (r.repeat == 0) (with_record t handle (stopped r)) (with_started t handle started)) (λ _ other h. h)
      (λ _. choose (StayClosing t) (r.repeat == 0) (with_record t handle (stopped r)) (with_started t handle started)
      (λ _. in_place r (stopped r) t.last_start is (λ e. e))
      (λ _. in_place r active n is (λ e. e)))))

  pub close_closing : (callback : ℕ) → StayClosing t (after_close t handle callback)
  close_closing callback =
      mapped (StayClosing t) (λ r. with_record t handle (closed r callback)) (record_of t handle) t (λ other h. h)
      (λ r is. in_place r (closed r callback) t.last_start is (λ _. refl))

  pub made_closing : (k : Kind) → record_of t handle ≡ None → StayClosing t (with_record t handle (new_record k))
  made_closing k none = still_closing t handle (new_record k) t.last_start (λ other was here. absurd (closing_there t handle other none was here))

-- the roster
pub record Holds (r u : Roster) : Type 0 where
  pub callbacks : u.callbacks ≡ r.callbacks
  pub asyncs : (async_no handle : ℕ) → async_handle r async_no ≡ Some handle → async_handle u async_no ≡ Some handle
  pub few : length r.asyncs ≤ MAX_ASYNCS → length u.asyncs ≤ MAX_ASYNCS
  pub closing : StayClosing r.handles u.handles

pub grows_roster : (s : State) (u : Roster) → Holds s.roster u → Grows s (with_roster s u)
grows_roster s u holds = record {
  list = refl;
  phase = refl;
  callbacks = holds.callbacks;
  settled = λ number h. h;
  asyncs = holds.asyncs;
  few = holds.few;
  closing = holds.closing;
}

pub holds_same : (r u : Roster) → u ≡ r → Holds r u
holds_same r u e = record {
  callbacks = ap (λ v. v.callbacks) e;
  asyncs = λ async_no handle h. ap (λ v. async_handle v async_no) e ∙ h;
  few = λ h. rw e h;
  closing = λ handle h. rw e h;
}

pub holds_handles : (r : Roster) (t : Table) → StayClosing r.handles t → Holds r (with_handles r t)
holds_handles r t closing = record {
  callbacks = refl;
  asyncs = λ async_no handle h. h;
  few = λ h. h;
  closing = closing;
}

one_more : (xs : List (Option ℕ)) (x : Option ℕ) (n handle : ℕ) → in_table (slice_get xs n) ≡ Some handle → in_table (slice_get (xs ++ x ∷ []) n) ≡ Some handle
one_more [] x n handle h = absurd (cc)
one_more (y ∷ ys) x zero handle h = h
one_more (y ∷ ys) x (suc n) handle h = one_more ys x n handle h

holds_async : (r : Roster) (handle callback : ℕ) → (length r.asyncs == MAX_ASYNCS) ≡ false → record_of r.handles handle ≡ None → Holds r (with_async callback r handle)
holds_async r handle callback room none = record {
  callbacks = refl;
  asyncs = λ async_no other h. one_more r.asyncs (Some handle) async_no other h;
  few = λ h. (let more = length_push r.asyncs (Some handle) in let other = eqb-false (length r.asyncs) MAX_ASYNCS room in omega (arith, more, other, h));
  closing = λ other h. start_closing (with_record r.handles handle (new_record kind.Async)) handle callback 0 0 other (made_closing r.handles handle kind.Async none other h);
}

-- the answers of handles' calls
holds_makes : (made : Roster → ℕ → Roster) (r : Roster) (answer : ℕ) (u : Roster) → (record_of r.handles answer ≡ None → Holds r (made r answer)) → Makes made r answer u → Holds r u
holds_makes made r answer u holds =
    either (finite.len r.handles.records == MAX_HANDLES) _ _ _
    (λ h. holds_same r u h.1)
    (λ h. subst (Holds r) (sym h.2) (holds h.1))

holds_made : (k : Kind) (r : Roster) (answer : ℕ) (u : Roster) → Makes (with_made k) r answer u → Holds r u
holds_made k r answer u = holds_makes (with_made k) r answer u (λ none. holds_handles r (with_record r.handles answer (new_record k)) (made_closing r.handles answer k none))

holds_made_async : (callback : ℕ) (r : Roster) (answer : ℕ) (u : Roster) → MakesAsync callback r answer u → Holds r u
holds_made_async callback r answer u =
    either (not (is_callback r callback)) _ _ _ (λ h. holds_same r u h.1) (by (length r.asyncs == MAX_ASYNCS) refl) where
      by : (b : Bool) → (length r.asyncs == MAX_ASYNCS) ≡ b → MatchBool b ((answer ≡ NONE_LEFT) × (u ≡ r)) (Makes (with_async callback) r answer u) → Holds r u
      by true full h = holds_same r u h.1
      by false room h = holds_makes (with_async callback) r answer u (holds_async r answer callback room) h

module _ (r : Roster) where
  abbrev HoldsAfter : ℕ × Roster → Type 0
  HoldsAfter p = Holds r p.1

  refused_or : (b : Bool) (done : ℕ × Roster) → HoldsAfter done → HoldsAfter (cond b (INVALID, r) done)
  refused_or b done h = choose HoldsAfter b (INVALID, r) done (λ _. holds_same r r refl) (λ _. h)

  holds_stopped : (k : Kind) (handle : ℕ) → HoldsAfter (stopped_in k handle r)
  holds_stopped k handle =
      refused_or (not (is_open_of k r handle)) _ (holds_handles r (after_stop r.handles handle) (stop_closing r.handles handle))

  holds_started : (k : Kind) (handle callback due repeat : ℕ) → HoldsAfter (started_in k handle callback due repeat r)
  holds_started k handle callback due repeat =
      refused_or (not (is_open_of k r handle)) _
      (refused_or (not (is_callback r callback)) _
      (holds_handles r (after_start r.handles handle callback due repeat) (start_closing r.handles handle callback due repeat)))

  holds_again : (handle now : ℕ) → HoldsAfter (again_in handle now r)
  holds_again handle now =
      refused_or (not (is_open_of kind.Timer r handle)) _
      (refused_or (not (was_started r.handles handle)) _
      (holds_handles r (after_again r.handles handle now) (again_closing r.handles handle now)))

  holds_closed : (handle callback : ℕ) → HoldsAfter (closed_in handle callback r)
  holds_closed handle callback =
      refused_or (not (is_open r handle)) _
      (refused_or (not (is_callback r callback)) (0, record r { handles = after_close r.handles handle callback; closing = r.closing ++ handle ∷ [] })
      (record {
        callbacks = refl;
        asyncs = λ async_no other h. h;
        few = λ h. h;
        closing = close_closing r.handles handle callback;
      }))

pub holds_after : (r u : Roster) → RosterStep r u → Holds r u
holds_after r u (stays e) = holds_same r u e
holds_after r u (makes k answer h) = holds_made k r answer u h
holds_after r u (makes_async callback answer h) = holds_made_async callback r answer u h
holds_after r u (stops k handle e) = subst (Holds r) (sym e) (holds_stopped r k handle)
holds_after r u (starts k handle callback due repeat e) = subst (Holds r) (sym e) (holds_started r k handle callback due repeat)
holds_after r u (starts_again handle now e) = subst (Holds r) (sym e) (holds_again r handle now)
holds_after r u (closes handle callback e) = subst (Holds r) (sym e) (holds_closed r handle callback)

-- each call of a guest
module _ {S : Type 0} (calls : Calls S) (g : Setting) where
  settles_moves : (old new : Requests × S) (c : GuestCall) → CallMoves calls g old c new → Settles old.0 new.0
  settles_moves old new c (leaves_all asks never e beside) = settles_same old.0 new.0 e
  settles_moves old new c (opens op place count slot may is args told e at) = subst (Settles old.0) (sym e) (settles_work old.0 (next_work g old.0 slot op (taken_out place count c.call.before)))
  settles_moves old new c (cancels_won n q is args told found e at) = subst (Settles old.0) (sym e) (settles_stage old.0 n Cancelled refl)

  pub call_grows : (old : State × S) (call : HostCall) (new : State × S) (f : Call) → CallStep calls g old call new f call.args → Grows old.0 new.0
  call_grows old call new f h =
      let rest = call_rest calls g old call new f h in
      let holds = holds_after old.0.roster new.0.roster rest.roster in
      record {
        list = rest.list;
        phase = rest.phase;
        callbacks = holds.callbacks;
        settled = settles_moves (old.0.requests, old.1) (new.0.requests, new.1) (record { function = f; call = call }) (call_moves calls g old call new f h);
        asyncs = holds.asyncs;
        few = holds.few;
        closing = holds.closing;
      }

  pub trace_grows : (trace : List HostCall) (old new : State × S) → Lawful (HostStep calls g) trace old new → Grows old.0 new.0
  trace_grows trace old new h =
      steps_keep (HostStep calls g) (λ trace x. Grows old.0 x.0) (λ call trace x y step was. grows_on old.0 x.0 y.0 was (call_grows x call y step.0 step.2))
      [] trace old new h (grows_refl old.0)

  -- whether the loop goes on
  pub trace_status : (trace : List HostCall) (old new : State × S) → Lawful (HostStep calls g) trace old new → new.0.status ≡ old.0.status
  trace_status trace old new h =
      steps_keep (HostStep calls g) (λ trace x. x.0.status ≡ old.0.status) (λ call trace x y step was. (call_rest calls g x call y step.0 step.2).status ∙ was)
      [] trace old new h refl

  pub guest_grows : (made : List GuestCall) (old new : State × S) → GuestSteps calls g made old new → Grows old.0 new.0
  guest_grows made old new h =
      steps_keep (GuestStep calls g) (λ made x. Grows old.0 x.0) (λ c made x y step was. grows_on old.0 x.0 y.0 was (call_grows x c.call y c.function step.1))
      [] made old new h (grows_refl old.0)
