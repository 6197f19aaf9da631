-- What the runs of a world are to one of its loops.
use Rattle.world.proofs.Words.{after_clock, Answer, ap, AreTold, Bool, cases_eq, cast_signed, ClockRaised, CollectsFrom, cond, Contains, Core, core, count_by}
use Rattle.world.proofs.Words.{Desk, desk_calls, either, EndOffered, entry_told, EntryTells, eq-eqb, Event, EventStep, Failed, false, FinishesJob, GuestCall}
use Rattle.world.proofs.Words.{handing, History, Idle, in_state, inl, inr, is_after, is_after_event, is_failed, is_of_owner, is_some, IsEndOf, length, List}
use Rattle.world.proofs.Words.{LogEntry, Loop, lowest_open, MAX_JOBS, MovedBeside, ne_eqb, next_in, next_order_of, None, Only, Option, OrderAsked, Over, pos}
use Rattle.world.proofs.Words.{PostsJob, PostsOrder, refl, Request, Running, set_apart, set_here, Setting, slice_get, slice_set, Some, Started, StartsJob}
use Rattle.world.proofs.Words.{State, Status, Step, StepDid, Stepped, steps_join, StepsLoop, subst, suc, sym, Taken, true, UnlessFailed, w32, Worker}
use Rattle.world.proofs.Words.{WorkerTakesJob, WorkOrder, World, WorldRun, WorldStep, zero, ℕ, [], ◌++◌, ◌==◌, ◌↔◌, ◌∙◌, ◌∷◌, ◌≡◌, ◌≢◌, ◌⊎◌}
use Rattle.events.specs.declared.did.StepDid.TheVariants as did
use Rattle.phases.specs.History.{CancelAnswered, calls_in, guest_calls as calls_within}
use Rattle.phases.proofs.Histories.{calls_push}
use Rattle.desk.specs.Inner.Law.{desk_beside}
use Rattle.world_log.specs.declared.step.Step.TheVariants as step
use Rattle.world_log.specs.declared.entry.LogEntry.TheVariants as line
use Rattle.world_log.specs.declared.outcome.PostOutcome.TheVariants as post
use Rattle.world_log.specs.declared.outcome.CollectOutcome.TheVariants as collect
use Rattle.world.proofs.GuestsOfRuns.{step_calls, guest_calls, kept_in_run}
use Rattle.world.proofs.LogsTellHistories.{told_push, tells_callback, tells_cancel, contains_push, count_push}

pub set_there : {X : Type 0} (xs : List X) (n k : ℕ) (v : X) → is_some (slice_get (slice_set xs n v) k) ≡ is_some (slice_get xs k)
set_there (y ∷ ys) zero zero v = refl
set_there (y ∷ ys) (suc n) (suc k) v = set_there ys n k v
set_there _ _ _ v = refl

set_all : {X : Type 0} (P : X → Type 0) (xs : List X) (k : ℕ) (v : X) → P v → ((n : ℕ) (x : X) → slice_get xs n ≡ Some x → P x)
    → (n : ℕ) (x : X) → slice_get (slice_set xs k v) n ≡ Some x → P x
set_all P [] k v p all n x h = absurd (cc)
set_all P (y ∷ ys) zero v p all zero x h = let same : v ≡ x = cc in subst P same p
set_all P (y ∷ ys) zero v p all (suc n) x h = all (suc n) x h
set_all P (y ∷ ys) (suc k) v p all zero x h = all zero x h
set_all P (y ∷ ys) (suc k) v p all (suc n) x h = set_all P ys k v p (λ m. all (suc m)) n x h

abbrev inner : {X : Type 0} → X → Option X → X
inner x None = x
inner x (Some y) = y

-- each reply is what its order gives
abbrev pub AllEnds : List Answer → Type 0
AllEnds [] = Unit {0}
AllEnds (a ∷ rest) = ∥ IsEndOf a.order a.end ∥₁ × AllEnds rest

ends_more : (xs : List Answer) (a : Answer) → ∥ IsEndOf a.order a.end ∥₁ → AllEnds xs → AllEnds (xs ++ a ∷ [])
ends_more [] a h all = (h, tt)
ends_more (x ∷ xs) a h all = (all.0, ends_more xs a h all.1)

-- where no order is handed out nothing changes
by_lowest : (s : State) (o : Option Request) → (handing s.requests o).0 ≡ None → s ≡ record s { requests = (handing s.requests o).1 }
by_lowest s None h = refl
by_lowest s (Some q) h = absurd (cc)

none_handed : (status : Status) (s : State) → (next_in status s).0 ≡ None → s ≡ (next_in status s).1
none_handed Failed s h = refl
none_handed Running s h = by_lowest s (lowest_open s.requests) h
none_handed Over s h = by_lowest s (lowest_open s.requests) h

-- A history of the loop of a number, which may be there, from where it began.
module _ (Begins : Setting → Loop Desk → Type 0) (there : Bool) (j : ℕ) where
  pub record Told (log : List LogEntry) (made : List GuestCall) (g : Setting) (l : Loop Desk) : Type 0 where
    pub start : Loop Desk
    pub begins : Begins g start
    pub events : List Event
    pub history : History desk_calls g start events l
    pub told : AreTold j log events
    pub calls : calls_within events ≡ made
    pub callbacks : (r : ℕ) → count_by (is_after j r) log ≡ count_by (is_after_event r) events
    pub cancels : (r : ℕ) → Contains log (line.Cancel j r (pos 0)) ↔ Contains events (CancelAnswered r 0)

  -- one event more
  told_more : (log : List LogEntry) (made more : List GuestCall) (g : Setting) (l m : Loop Desk) (entry : LogEntry) (e : Event) → EventStep desk_calls g e l m → EntryTells j entry e → calls_in e ≡ more
      → Told log made g l → Told (log ++ entry ∷ []) (made ++ more) g m
  told_more log made more g l m entry e step tells is was = record {
    start = was.start;
    begins = was.begins;
    events = was.events ++ e ∷ [];
    history = steps_join (λ x e y. EventStep desk_calls g e x y) was.events (e ∷ []) was.start l m was.history (m, step, refl);
    told = told_push j log was.events entry e was.told tells;
    calls = calls_push was.events e ∙ ap (λ cs. cs ++ calls_in e) was.calls ∙ ap (λ cs. made ++ cs) is;
    callbacks = λ r. count_push j r log was.events entry e (was.callbacks r) (tells_callback j r entry e tells);
    cancels = λ r. contains_push j log was.events entry (line.Cancel j r (pos 0)) e (CancelAnswered r 0) (was.cancels r) (tells_cancel j g r entry e l m step tells);
  }

  -- what others do
  told_beside : (log : List LogEntry) (made : List GuestCall) (g : Setting) (l : Loop Desk) (entry : LogEntry) → is_of_owner j entry ≡ false
      → Told log made g l → Told (log ++ entry ∷ []) (made ++ []) g l
  told_beside log made g l entry other was = told_more log made [] g l l entry MovedBeside (record { view = refl; state = refl; store = refl }) other refl was

  pub record Keeps (w : World) (log : List LogEntry) (made : List GuestCall) : Type 0 where
    pub stays : is_some (slice_get w.loops j) ≡ there
    pub loops : (p : Core Desk) → slice_get w.loops j ≡ Some p → Told log made p.setting p.loop
    pub replies : (n : ℕ) (xs : List Answer) → slice_get w.replies n ≡ Some xs → AllEnds xs

  -- an event of a loop, which the line tells
  record Happens (g : Setting) (l m : Loop Desk) (entry : LogEntry) (more : List GuestCall) : Type 0 where
    pub event : Event
    pub step : EventStep desk_calls g event l m
    pub tells : EntryTells j entry event
    pub calls : calls_in event ≡ more

  module _ (w : World) (log : List LogEntry) (made : List GuestCall) (keeps : Keeps w log made) where
    abbrev Next : World → LogEntry → List GuestCall → Type 0
    Next w' entry more = Keeps w' (log ++ entry ∷ []) (made ++ more)

    same_replies : (w' : World) → w'.replies ≡ w.replies → (n : ℕ) (xs : List Answer) → slice_get w'.replies n ≡ Some xs → AllEnds xs
    same_replies w' e n xs h = keeps.replies n xs (ap (λ x. slice_get x n) (sym e) ∙ h)

    set_replies : (w' : World) (k : ℕ) (ys : List Answer) → w'.replies ≡ slice_set w.replies k ys → AllEnds ys → (n : ℕ) (xs : List Answer) → slice_get w'.replies n ≡ Some xs → AllEnds xs
    set_replies w' k ys e all n xs h = set_all AllEnds w.replies k ys all keeps.replies n xs (ap (λ x. slice_get x n) (sym e) ∙ h)

    -- no loop changes
    kept : (w' : World) (entry : LogEntry) → is_of_owner j entry ≡ false → w'.loops ≡ w.loops
        → ((n : ℕ) (xs : List Answer) → slice_get w'.replies n ≡ Some xs → AllEnds xs) → Next w' entry []
    kept w' entry other e replies = record {
      stays = ap (λ ls. is_some (slice_get ls j)) e ∙ keeps.stays;
      loops = λ p h. told_beside log made p.setting p.loop entry other (keeps.loops p (ap (λ ls. slice_get ls j) (sym e) ∙ h));
      replies = replies;
    }

    only : (w' : World) (entry told : LogEntry) → is_of_owner j told ≡ false → Only w entry told w' → Next w' entry []
    only w' entry told other h = kept w' entry (ap (is_of_owner j) h.0 ∙ other) (ap (λ x. x.loops) h.1) (same_replies w' (ap (λ x. x.replies) h.1))

    -- the loop of a number changes, or it has an event in which it does not
    moved_with : (w' : World) (entry : LogEntry) (more : List GuestCall) (n : ℕ) (g : Setting) (l m : Loop Desk)
        → slice_get w.loops n ≡ Some (core g l) → w'.loops ≡ slice_set w.loops n (core g m)
        → ((n : ℕ) (xs : List Answer) → slice_get w'.replies n ≡ Some xs → AllEnds xs)
        → (n ≡ j → Happens g l m entry more) → (n ≢ j → (is_of_owner j entry ≡ false) × (more ≡ [])) → Next w' entry more
    moved_with w' entry more n g l m at e replies here apart = record {
      stays = ap (λ ls. is_some (slice_get ls j)) e ∙ set_there w.loops n j (core g m) ∙ keeps.stays;
      loops = λ p h. elim (cases_eq n j) [
        | inl same ↦
            let at_j : slice_get w.loops j ≡ Some (core g l) = ap (slice_get w.loops) (sym same) ∙ at in
            let now : slice_get w'.loops j ≡ Some (core g m) =
            ap (λ ls. slice_get ls j) e ∙ (ap (λ k. slice_get (slice_set w.loops k (core g m)) j) same ∙ set_here w.loops j (core g m) (core g l) at_j) in
            let is : core g m ≡ p = ap (inner {X = Core Desk} p) (sym now ∙ h) in
            let event = here same in
            rw (sym is) (told_more log made more g l m entry event.event event.step event.tells event.calls (keeps.loops (core g l) at_j))
        | inr other ↦
            let no = apart other in
            rw no.1 (told_beside log made p.setting p.loop entry no.0 (keeps.loops p (sym (ap (λ ls. slice_get ls j) e ∙ set_apart w.loops n j (core g m) other) ∙ h)))
      ];
      replies = replies;
    }

    -- the same where the guest calls nothing
    moved : (w' : World) (entry told : LogEntry) (n : ℕ) (g : Setting) (l m : Loop Desk) → entry ≡ told → (is_of_owner j told ≡ (n == j)) ⊎ (is_of_owner j told ≡ false)
        → slice_get w.loops n ≡ Some (core g l) → w'.loops ≡ slice_set w.loops n (core g m)
        → ((n : ℕ) (xs : List Answer) → slice_get w'.replies n ≡ Some xs → AllEnds xs)
        → (n ≡ j → Happens g l m entry []) → Next w' entry []
    moved w' entry told n g l m is whose at e replies here =
        moved_with w' entry [] n g l m at e replies here (λ other. (ap (is_of_owner j) is ∙ apart other whose, refl)) where
          apart : n ≢ j → (is_of_owner j told ≡ (n == j)) ⊎ (is_of_owner j told ≡ false) → is_of_owner j told ≡ false
          apart other (inl own) = own ∙ ne_eqb n j other
          apart other (inr none) = none

    -- a loop that stays, in an event of its own
    stayed_own : (w' : World) (entry told : LogEntry) (n : ℕ) (g : Setting) (l : Loop Desk) → entry ≡ told → is_of_owner j told ≡ (n == j)
        → slice_get w.loops n ≡ Some (core g l) → w'.loops ≡ w.loops
        → ((n : ℕ) (xs : List Answer) → slice_get w'.replies n ≡ Some xs → AllEnds xs)
        → (n ≡ j → Happens g l l entry []) → Next w' entry []
    stayed_own w' entry told n g l is own at e replies here = record {
      stays = ap (λ ls. is_some (slice_get ls j)) e ∙ keeps.stays;
      loops = λ p h. elim (cases_eq n j) [
        | inl same ↦
            let now : slice_get w'.loops j ≡ Some (core g l) = ap (λ ls. slice_get ls j) e ∙ (ap (slice_get w.loops) (sym same) ∙ at) in
            let at_j : slice_get w.loops j ≡ Some (core g l) = ap (slice_get w.loops) (sym same) ∙ at in
            let is_p : core g l ≡ p = ap (inner {X = Core Desk} p) (sym now ∙ h) in
            let event = here same in
            rw (sym is_p) (told_more log made [] g l l entry event.event event.step event.tells event.calls (keeps.loops (core g l) at_j))
        | inr other ↦
            told_beside log made p.setting p.loop entry (ap (is_of_owner j) is ∙ own ∙ ne_eqb n j other) (keeps.loops p (ap (λ ls. slice_get ls j) (sym e) ∙ h))
      ];
      replies = replies;
    }

    unless_next : (w' : World) (n : ℕ) (l : Loop Desk) (entry : LogEntry) (P : Type 0) → (P → Next w' entry []) → UnlessFailed w n l entry w' P → Next w' entry []
    unless_next w' n l entry P f h = either (is_failed l.state.status) _ _ (Next w' entry []) (only w' entry (line.Failed n) refl) f h

    order_next : (w' : World) (n : ℕ) (g : Setting) (l : Loop Desk) (out : Option WorkOrder × State) (entry : LogEntry) → slice_get w.loops n ≡ Some (core g l)
        → next_order_of l.state ≡ out → PostsOrder w n g l out entry w' → Next w' entry []
    order_next w' n g l (None, s) entry at is h =
        stayed_own w' entry (line.Post n post.Nothing) n g l h.0 refl at (ap (λ x. x.loops) h.1) (same_replies w' (ap (λ x. x.replies) h.1))
        (λ same. record {
          event = OrderAsked None;
          step = (sym (ap (λ p. p.0) is), ap (in_state l) (none_handed l.state.status l.state (ap (λ p. p.0) is)));
          tells = h.0 ∙ ap (λ k. line.Post k post.Nothing) same;
          calls = refl;
        })
    order_next w' n g l (Some o, s) entry at is h =
        moved w' entry (line.Post n (post.Request o.request)) n g l (in_state l s) h.0 (inl refl) at (ap (λ x. x.loops) h.1) (same_replies w' (ap (λ x. x.replies) h.1))
        (λ same. record {
          event = OrderAsked (Some o);
          step = (sym (ap (λ p. p.0) is), ap (in_state l) (sym (ap (λ p. p.1) is)));
          tells = h.0 ∙ ap (λ k. line.Post k (post.Request o.request)) same;
          calls = refl;
        })

    posts_next : (w' : World) (n : ℕ) (entry : LogEntry) → PostsJob w n entry w' → Next w' entry []
    posts_next w' n entry h =
        unless_next w' n h.1 entry _
        (λ k. either (length w.jobs == MAX_JOBS) _ _ (Next w' entry []) (only w' entry (line.Post n post.Full) refl)
        (order_next w' n h.0 h.1 (next_order_of h.1.state) entry h.2 refl) k)
        h.3

    take_next : (w' : World) (n : ℕ) (state : Worker) (jobs : List WorkOrder) (entry : LogEntry) → WorkerTakesJob w n state jobs entry w' → Next w' entry []
    take_next w' n Idle (o ∷ jobs) entry h = kept w' entry (ap (is_of_owner j) h.0) (ap (λ x. x.loops) h.1) (same_replies w' (ap (λ x. x.replies) h.1))
    take_next w' n _ _ entry h = only w' entry _ refl h

    -- a worker's start, and another's send
    beside : (g : Setting) (l m : Loop Desk) (entry told : LogEntry) → entry ≡ told → is_of_owner j told ≡ false
        → desk_calls.view m.shared ≡ desk_calls.view l.shared → m.state ≡ l.state → m.store ≡ l.store → Happens g l m entry []
    beside g l m entry told is none view state store = record { event = MovedBeside; step = record { view = view; state = state; store = store }; tells = ap (is_of_owner j) is ∙ none; calls = refl }

    start_next : (w' : World) (n : ℕ) (state : Worker) (entry : LogEntry) → StartsJob w n state entry w' → Next w' entry []
    start_next w' n (Taken o) entry h =
        either h.3 _ _ (Next w' entry [])
        (λ k. moved w' entry _ o.loop_no h.0 h.1 h.2 k.0 (inr refl) h.4 (ap (λ x. x.loops) k.1) (same_replies w' (ap (λ x. x.replies) k.1))
        (λ same. beside h.0 h.1 h.2 entry _ k.0 refl (desk_beside.starts h.1.shared h.2.shared o.slot o.request h.3 h.5.0) h.5.1 h.5.2))
        (λ k. kept w' entry (ap (is_of_owner j) k.0) (ap (λ x. x.loops) k.1) (same_replies w' (ap (λ x. x.replies) k.1)))
        h.6
    start_next w' n _ entry h = only w' entry _ refl h

    finish_next : (w' : World) (n : ℕ) (state : Worker) (entry : LogEntry) → FinishesJob w n state entry w' → Next w' entry []
    finish_next w' n (Started o) entry h =
        kept w' entry (ap (is_of_owner j) h.told) (ap (λ x. x.loops) h.after)
        (set_replies w' o.loop_no _ (ap (λ x. x.replies) h.after) (ends_more h.replies (record { order = o; end = h.end }) h.right (keeps.replies o.loop_no h.replies h.waiting)))
    finish_next w' n _ entry h = only w' entry _ refl h

    collect_next : (w' : World) (n : ℕ) (g : Setting) (l : Loop Desk) (replies : List Answer) (entry : LogEntry) → slice_get w.loops n ≡ Some (core g l) → AllEnds replies
        → CollectsFrom w n g l replies entry w' → Next w' entry []
    collect_next w' n g l [] entry at all h = only w' entry _ refl h
    collect_next w' n g l (a ∷ replies) entry at all h =
        either h.0 _ _ (Next w' entry [])
        (λ k. moved w' entry _ n g l _ k.1 (inl refl) at (ap (λ x. x.loops) k.2) (set_replies w' n replies (ap (λ x. x.replies) k.2) all.1)
        (λ same. record { event = EndOffered a.order a.end true; step = (all.0, (k.0, refl)); tells = k.1 ∙ ap (λ i. line.Collect i (collect.Request a.order.request)) same; calls = refl }))
        (λ k. stayed_own w' entry _ n g l k.1 refl at (ap (λ x. x.loops) k.2) (set_replies w' n replies (ap (λ x. x.replies) k.2) all.1)
        (λ same. record { event = EndOffered a.order a.end false; step = (all.0, (k.0, refl)); tells = k.1 ∙ ap (λ i. line.Collect i collect.Stranger) same; calls = refl }))
        h.1

    -- a step of a loop
    told_elsewhere : (n : ℕ) (told : StepDid) (emits : List ℕ) → n ≢ j → is_of_owner j (entry_told n told emits) ≡ false
    told_elsewhere n did.Failed emits other = refl
    told_elsewhere n _ emits other = ne_eqb n j other

    loop_next : (w' : World) (n : ℕ) (entry : LogEntry) (h : StepsLoop w n entry w') → Next w' entry (cond (n == j) h.made [])
    loop_next w' n entry h =
        moved_with w' entry (cond (n == j) h.made []) n h.setting h.old h.new h.at (ap (λ x. x.loops) h.after) (same_replies w' (ap (λ x. x.replies) h.after))
        (λ same. record {
          event = Stepped h.did h.new.state.emits h.made;
          step = (h.steps, refl);
          tells = h.told ∙ ap (λ k. entry_told k h.did h.new.state.emits) same;
          calls = rw (eq-eqb n j same) refl;
        })
        (λ other. (ap (is_of_owner j) h.told ∙ told_elsewhere n h.did h.new.state.emits other, rw (ne_eqb n j other) refl))

    pub step_next : (s : Step) (entry : LogEntry) (w' : World) (h : WorldStep w s entry w') → Next w' entry (step_calls j w s entry w' h)
    step_next (step.Loop n) entry w' h = loop_next w' n entry h
    step_next (step.Post n) entry w' h = posts_next w' n entry h
    step_next (step.Take n) entry w' h = take_next w' n h.0 w.jobs entry h.2
    step_next (step.Start n) entry w' h = start_next w' n h.0 entry h.2
    step_next (step.Finish n) entry w' h = finish_next w' n h.0 entry h.2
    step_next (step.Collect n) entry w' h = unless_next w' n h.1 entry _ (collect_next w' n h.0 h.1 h.2 entry h.3 (keeps.replies n h.2 h.4)) h.5
    step_next (step.Send n a) entry w' h =
        moved w' entry _ n h.0 h.1 h.2 h.7 (inr refl) h.5 (ap (λ x. x.loops) h.8) (same_replies w' (ap (λ x. x.replies) h.8))
        (λ same. beside h.0 h.1 h.2 entry _ h.7 refl (desk_beside.gets h.1.shared h.2.shared a h.3 h.6.0) h.6.1 h.6.2)
    step_next (step.Cancel n request) entry w' h =
        unless_next w' n h.1 entry _
        (λ k. moved w' entry _ n h.0 h.1 h.2 k.2 (inl refl) h.4 (ap (λ x. x.loops) k.3) (same_replies w' (ap (λ x. x.replies) k.3))
        (λ same. record { event = CancelAnswered request h.3; step = (k.0, k.1); tells = k.2 ∙ ap (λ i. line.Cancel i request (cast_signed w32 h.3)) same; calls = refl })) h.5
    step_next (step.Clock n ms) entry w' h =
        unless_next w' n h.1 entry _
        (λ k. moved w' entry _ n h.0 h.1 _ k.0 (inl refl) h.2 (ap (λ x. x.loops) k.1) (same_replies w' (ap (λ x. x.replies) k.1))
        (λ same. record { event = ClockRaised ms; step = refl; tells = ((after_clock h.1.state ms).clock, k.0 ∙ ap (λ i. line.Clock i (after_clock h.1.state ms).clock) same); calls = refl })) h.3

  pub run_keeps : (steps : List Step) (told : List LogEntry) (w w' : World) (log : List LogEntry) (made : List GuestCall) → Keeps w log made
      → (run : WorldRun w steps told w') → Keeps w' (log ++ told) (made ++ guest_calls j w steps told w' run)
  run_keeps steps told w w' log made keeps run = kept_in_run j Keeps (λ w log made s entry w' h was. step_next w log made was s entry w' h) w log made steps told w' run keeps
