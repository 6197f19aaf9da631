-- The histories of one account of all threads, as what its loops did.
use Rattle.schedules.proofs.Words.{Bool, count_by, eqb-true, subst, true, ◌&&◌, ◌==◌}
use Rattle.schedules.proofs.Words.{ap, AreInThread, arith, ClockRaised, EndOffered, Event, IsInThread, length, List, Loaded, Loop, MovedBeside, OrderAsked}
use Rattle.schedules.proofs.Words.{passed_in, refl, Seats, Served, Serving, Setting, setting_at, slice_get, Some, StandBehind, State, Stepped, suc, sym}
use Rattle.schedules.proofs.Words.{thread_calls, ThreadHistory, zero, ℕ, [], ◌<◌, ◌∙◌, ◌∷◌, ◌≡◌}
use Rattle.serve.specs.declared.served.LoopEnding.{LoopEnding}
use Rattle.serve.specs.Histories.{HasEnded, IsByThread}
use Rattle.serve.specs.Joint.{JointRun, asks}
use Rattle.serve.proofs.AtDesk.{passes_through}
use Rattle.schedules.specs.Served.{loop_did, Reports, GoesInThreads}
use Rattle.pool.specs.SeatsLaw.{seats_lawful}
use Rattle.claims.specs.Views.{WorkerView, is_ticket, ticket_of_request}
use Rattle.claims.specs.declared.seats.Ticket.{Ticket}
use Rattle.claims.proofs.Numbers.{is_ticket_itself}
use Rattle.tallies.proofs.Lists.{counted}
use Rattle.std.specs.Prelude.{Contains}
use Rattle.std.proofs.lemmas.Option.{slice_get_within}
use Rattle.world.specs.Laws.{is_begun, is_of_job, RunsJoin}
use Rattle.serve.proofs.Lookups.{is_there}
use Rattle.schedules.specs.Laws.{IsAsInWorld, IsOfThreads}
use Rattle.schedules.specs.Together.{LoopDid, DidInThread, AllDidInThread, IsOneRun}
use Rattle.schedules.proofs.Begun.{jobs_begun, begun_count, begun_along, each_counted}
use Rattle.schedules.proofs.OneRun.{AreLeft, AllAreLeft, all_begun, run_of}
use Rattle.schedules.proofs.ServedReplies.{stand_behind}
use Rattle.schedules.proofs.ServedStarts.{contained, begun_asked, left_of, none_left, answered_started, asked_somewhere, are_left, all_started, part_begun}

own_event : (e : Event) (s : State) → IsByThread e s → IsInThread e
own_event (Stepped did emits made) s h = tt
own_event (OrderAsked order) s h = tt
own_event (EndOffered o end is_taken) s h = tt
own_event (ClockRaised ms) s h = tt
own_event MovedBeside s h = tt
own_event _ s h = absurd h

module _ (g : Setting) where
  pub in_thread : (old : Loop Seats) (events : List Event) (now : Loop Seats) (h : ThreadHistory thread_calls g old events now) → AreInThread (passed_in g old events now h)
  in_thread old [] now h = tt
  in_thread old (e ∷ events) now h = (own_event e old.state h.1.1, in_thread h.0 events now h.2)

  did_in_thread : {how : LoopEnding} {emits : List ℕ} (ended : HasEnded thread_calls g how emits) → StandBehind thread_calls [] (loop_did g ended).passed
      → DidInThread thread_calls g (loop_did g ended)
  did_in_thread ended behind = record {
    opens = ended.done.opens;
    through = passes_through g ended.done.start ended.done.events ended.now ended.done.history;
    in_thread = in_thread ended.done.start ended.done.events ended.now ended.done.history;
    alone = ended.done.alone;
    behind = behind;
  }

module _ (loaded : Loaded) (serving : Serving) (gone_of : Setting → LoopDid Seats → List (ℕ × ℕ)) where
  abbrev at_place : ℕ → Setting
  at_place k = setting_at loaded serving k

  -- a history for each answer, of the loop of its place
  abbrev Each : (place : ℕ → ℕ) → List Served → List (List Event) → Type 0
  Each place served loops =
      (k : ℕ) (s : Served) (events : List Event) → slice_get served k ≡ Some s → slice_get loops k ≡ Some events
      → (ended : HasEnded thread_calls (at_place (place k)) s.ending s.emits.items) × (ended.done.events ≡ events) × StandBehind thread_calls [] (loop_did (at_place (place k)) ended).passed
      × AreLeft thread_calls (loop_did (at_place (place k)) ended) (gone_of (at_place (place k)) (loop_did (at_place (place k)) ended))

  record Listed (place : ℕ → ℕ) (served : List Served) (loops : List (List Event)) : Type 0 where
    pub settings : List Setting
    pub dids : List (LoopDid Seats)
    pub setting_count : length settings ≡ length served
    pub each_setting : (k : ℕ) → k < length served → slice_get settings k ≡ Some (at_place (place k))
    pub each_place : (k : ℕ) (g : Setting) → slice_get settings k ≡ Some g → g.loop_no ≡ place k
    pub each_did : (k : ℕ) (s : Served) (events : List Event) → slice_get served k ≡ Some s → slice_get loops k ≡ Some events
        → (d : LoopDid Seats) × (slice_get dids k ≡ Some d) × Reports (at_place (place k)) s events d
    pub all : AllDidInThread thread_calls settings dids
    pub left : AllAreLeft thread_calls gone_of settings dids

  -- one loop more, at the front
  module _ (place : ℕ → ℕ) (s : Served) (served : List Served) (events : List Event) (loops : List (List Event)) (ended : HasEnded thread_calls (at_place (place 0)) s.ending s.emits.items)
      (same : ended.done.events ≡ events) (behind : StandBehind thread_calls [] (loop_did (at_place (place 0)) ended).passed)
      (first_left : AreLeft thread_calls (loop_did (at_place (place 0)) ended) (gone_of (at_place (place 0)) (loop_did (at_place (place 0)) ended))) (rest : Listed (λ k. place (suc k)) served loops) where
    abbrev first : LoopDid Seats
    first = loop_did (at_place (place 0)) ended

    first_setting : (k : ℕ) → k < length (s ∷ served) → slice_get (at_place (place 0) ∷ rest.settings) k ≡ Some (at_place (place k))
    first_setting zero low = refl
    first_setting (suc k) low = rest.each_setting k (omega (arith, low))

    first_place : (k : ℕ) (g : Setting) → slice_get (at_place (place 0) ∷ rest.settings) k ≡ Some g → g.loop_no ≡ place k
    first_place zero g at = let it : at_place (place 0) ≡ g = cc in ap (λ (x : Setting). x.loop_no) (sym it)
    first_place (suc k) g at = rest.each_place k g at

    first_did : (k : ℕ) (x : Served) (es : List Event) → slice_get (s ∷ served) k ≡ Some x → slice_get (events ∷ loops) k ≡ Some es
        → (d : LoopDid Seats) × (slice_get (first ∷ rest.dids) k ≡ Some d) × Reports (at_place (place k)) x es d
    first_did zero x es at told =
        let it : s ≡ x = cc in
        let also : events ≡ es = cc in (
          first,
          refl,
          rw (← also, ← it) (record { ended = ended; same = same; did = refl }),
        )
    first_did (suc k) x es at told = rest.each_did k x es at told

    listed_first : Listed place (s ∷ served) (events ∷ loops)
    listed_first = record {
      settings = at_place (place 0) ∷ rest.settings;
      dids = first ∷ rest.dids;
      setting_count = ap suc rest.setting_count;
      each_setting = first_setting;
      each_place = first_place;
      each_did = first_did;
      all = (did_in_thread (at_place (place 0)) ended behind, rest.all);
      left = (first_left, rest.left);
    }

  listed : (place : ℕ → ℕ) (served : List Served) (loops : List (List Event)) → length served ≡ length loops → Each place served loops → Listed place served loops
  listed place [] [] wide each = record {
    settings = [];
    dids = [];
    setting_count = refl;
    each_setting = λ k low. absurd (omega (arith, low));
    each_place = λ k g at. absurd (cc);
    each_did = λ k s events at told. absurd (cc);
    all = tt;
    left = tt;
  }
  listed place (s ∷ served) (events ∷ loops) wide each =
      let one = each 0 s events refl refl in
      listed_first place s served events loops one.0 one.1 one.2 one.3
      (listed (λ k. place (suc k)) served loops (omega (arith, wide)) (λ k x es at told. each (suc k) x es at told))
  listed place _ _ wide each = absurd (omega (arith, wide))

module _ (joins : RunsJoin) (in_world : IsAsInWorld) (of_threads : IsOfThreads) {loaded : Loaded} {serving : Serving} {served : List Served} {crew : WorkerView}
    (run : JointRun loaded serving served crew) (count : length served ≡ serving.loops) where
  wide : length served ≡ length run.loops
  wide = count ∙ sym run.loop_count

  all_loops : Listed loaded serving (left_of run) (λ k. k) served run.loops
  all_loops =
      listed loaded serving (left_of run) (λ k. k) served run.loops wide
      (λ k s events at told.
      let each = run.each k s events at told in
      let g : Setting = setting_at loaded serving k in (
        each.0,
        each.1,
        stand_behind run wide k s events at told,
        are_left run k s events at told (in_thread g each.0.done.start each.0.done.events each.0.now each.0.done.history),
      ))

  abbrev of_all : (r : IsOneRun all_loops.settings all_loops.dids) × (jobs_begun r.log ≡ all_begun (left_of run) all_loops.settings all_loops.dids)
  of_all = run_of thread_calls (seats_lawful (λ s. s.loop_seat) (λ s. s.taker)) joins (left_of run) in_world of_threads all_loops.settings all_loops.dids all_loops.each_place all_loops.all all_loops.left

  counts : (l r : ℕ) → count_by (is_begun l r) of_all.0.log ≡ count_by (is_of_job l r) (all_begun (left_of run) all_loops.settings all_loops.dids)
  counts l r = begun_count l r of_all.0.log ∙ ap (count_by (is_of_job l r)) of_all.1

  begun : (t : Ticket) → Contains crew.started t → 0 < count_by (is_begun t.loop_no t.request) of_all.0.log
  begun t there =
      let some = counted (is_ticket t) crew.started t (is_ticket_itself t) there in
      let it = asked_somewhere run wide t some in
      let low = slice_get_within run.loops it.0 it.1 it.2 in
      let s = is_there served it.0 (omega (arith, low, wide)) in
      let did = all_loops.each_did it.0 s.0 it.1 s.1 it.2 in
      let g : Setting = setting_at loaded serving it.0 in
      let setting = all_loops.each_setting it.0 (omega (arith, low, wide)) in
      let part = part_begun run (is_of_job t.loop_no t.request) all_loops.settings all_loops.dids it.0 g did.0 setting did.1 in
      let ended = did.2.ended in
      let none = none_left run g did.0 (t.slot, t.request) (subst (λ n. 0 < count_by (is_ticket (record { loop_no = n; slot = t.slot; request = t.request })) crew.started) it.4 some) in
      let asked = begun_asked t it.0 (left_of run g did.0) it.4 none g ended.done.start ended.done.events ended.now ended.done.history in
      let same = ap (λ (x : LoopDid Seats). count_by (is_of_job t.loop_no t.request) (begun_along it.0 (left_of run g did.0) x.passed)) did.2.did in
      let events = ap (count_by (asks t)) did.2.same in
      let first = it.3 in
      let all = counts t.loop_no t.request in
      omega (arith, part, asked, same, events, first, all)

  begins : (l r : ℕ) → 0 < count_by (is_begun l r) of_all.0.log → (slot : ℕ) × Contains crew.started (ticket_of_request l (slot, r))
  begins l r some =
      let same = counts l r in
      let it = each_counted _ (is_of_job l r) (all_begun (left_of run) all_loops.settings all_loops.dids) (all_started run all_loops.settings all_loops.dids) (omega (arith, some, same)) in
      let parts = both_of (it.0.loop_no == l) (it.0.request == r) it.2 in
      let loop = eqb-true it.0.loop_no l parts.0 in
      let number = eqb-true it.0.request r parts.1 in
      (it.1.0, contained (ticket_of_request l (it.1.0, r)) crew.started (subst (λ (x : ℕ × ℕ). 0 < count_by (is_ticket (ticket_of_request x.0 (it.1.0, x.1))) crew.started) (λ i. (loop i, number i)) it.1.1))
    where
      both_of : (a b : Bool) → (a && b) ≡ true → (a ≡ true) × (b ≡ true)
      both_of true true e = (refl, refl)
      both_of _ _ e = absurd (cc)

  pub in_threads : GoesInThreads run
  in_threads = record {
    settings = all_loops.settings;
    dids = all_loops.dids;
    setting_count = all_loops.setting_count ∙ count;
    each_setting = λ k low. all_loops.each_setting k (omega (arith, low, count));
    each_did = all_loops.each_did;
    one_run = of_all.0;
    begun = begun;
    begins = begins;
    answered = answered_started run;
  }
