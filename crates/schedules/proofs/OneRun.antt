-- What loops did in their threads, one loop after another, as one run of a world. Of each loop so many requests are named that no worker
-- starts: among them are those that are cancelled in the end, and none that is found started or whose reply is taken.
use Rattle.schedules.proofs.Words.{Answered, answered, ap, append-nil, AreInPlace, AreInThread, arith, Bool, Calls, ClockRaised, cond, core, count_by, Desk}
use Rattle.schedules.proofs.Words.{EndOffered, eq-eqb, eqb-true, Event, EventStep, false, filter-append, handed_in, has_number, HasLoop, Idle, in_stage}
use Rattle.schedules.proofs.Words.{in_state, is_failed, is_full, is_of_loop, is_pending, is_settled, IsAsInWorld, IsInThread, IsLawful, IsOpening, last_in}
use Rattle.schedules.proofs.Words.{length, lines_of, List, log_of, LogEntry, Loop, map_get, MAX_ASYNCS, MovedBeside, nat_lt, next_order_of, None, opening_loop}
use Rattle.schedules.proofs.Words.{opening_threads, opening_world, Option, OrderAsked, over, Passed, PassesThrough, refl, replicate, Request, RunsJoin, Setting}
use Rattle.schedules.proofs.Words.{slice_get, slice_index, Some, StandBehind, State, Step, Stepped, subst, suc, sum_by-append, sym, TakesReplyTo, times, true}
use Rattle.schedules.proofs.Words.{WorkEnd, WorkOrder, World, WorldRun, zero, ℕ, [], ◌&&◌, ◌++◌, ◌+◌, ◌<◌, ◌==◌, ◌∙◌, ◌∷◌, ◌≡◌, ◌≢◌, ◌≤◌}
use Rattle.std.proofs.lemmas.List.{length-replicate}
use Rattle.tallies.proofs.Counts.{zeros}
use Rattle.phases.proofs.Asyncs.{Few}
use Rattle.desk.specs.Desk.{new_desk}
use Rattle.schedules.specs.Laws.{IsOfThreads}
use Rattle.schedules.specs.Together.{lines_along, LoopDid, IsOneRun, StandsBehind, AllDidInThread}
use Rattle.world_log.specs.declared.outcome.JobId.{JobId}
use Rattle.schedules.proofs.Begun.{jobs_begun, begun_append, begun_in, begun_along}
use Rattle.schedules.proofs.OwnDesk.{Stands, EndsSo}
use Rattle.schedules.proofs.OwnRequests.{FitsOne, FitsAt, map_member, find_member, place_of, same_order}
use Rattle.schedules.proofs.Along.{NextIs, is_over, is_none, is_some, next_is, IsApart, IsShut, shut_along, event_grows, grows_along, apart_along}
use Rattle.schedules.proofs.OwnRun.{IsBesideLoop, IsAt, GoesTo, rests, stepped, clocked, asked_none, hands_out, takes_reply}

-- how many orders are handed out in an event, and then so many
abbrev with_handed : Event → ℕ → ℕ
with_handed (OrderAsked (Some o)) k = 1 + k
with_handed _ k = k

abbrev handed_along : {S : Type 0} → List (Passed S) → ℕ → ℕ
handed_along [] k = k
handed_along (p ∷ passed) k = with_handed p.event (handed_along passed k)

beside_on : (n : ℕ) (w mid w' : World) (told more : List LogEntry) → IsBesideLoop n w told mid → IsBesideLoop n mid more w' → IsBesideLoop n w (told ++ more) w'
beside_on n w mid w' told more h k = record {
  loops = λ i other. k.loops i other ∙ h.loops i other;
  replies = λ i other. k.replies i other ∙ h.replies i other;
  workers = k.workers ∙ h.workers;
  others = λ i other. filter-append (is_of_loop i) told more ∙ ap (λ (xs : List LogEntry). xs ++ log_of i more) (h.others i other) ∙ k.others i other;
  none_full = sum_by-append (λ (x : LogEntry). cond {A = ℕ} (is_full x) 1 0) told more ∙ (let x = h.none_full in let y = k.none_full in omega (arith, x, y));
}

module _ {S : Type 0} (calls : Calls S) where
  -- what the loop takes a reply to, and is not cancelled in the end, is none of these
  abbrev pub AreAnswered : (now : Loop S) (gone : List (ℕ × ℕ)) → List (Passed S) → Type 0
  AreAnswered now gone [] = Unit {0}
  AreAnswered now gone (p ∷ passed) =
      ((o : WorkOrder) (end : WorkEnd) → p.event ≡ EndOffered o end true → times (o.slot, o.request) (calls.view now.shared).cancelled ≡ 0 → times (o.slot, o.request) gone ≡ 0)
      × AreAnswered now gone passed

  -- these may be left to workers that start nothing
  pub record AreLeft (d : LoopDid S) (gone : List (ℕ × ℕ)) : Type 0 where
    pub cancelled : (c : ℕ × ℕ) → 0 < times c (calls.view d.now.shared).cancelled → 0 < times c gone
    pub found : (c : ℕ × ℕ) → 0 < times c (calls.view d.now.shared).found_started → times c gone ≡ 0
    pub answered : AreAnswered d.now gone d.passed

  module _ (gone_of : Setting → LoopDid S → List (ℕ × ℕ)) where
    abbrev pub AllAreLeft : List Setting → List (LoopDid S) → Type 0
    AllAreLeft [] [] = Unit {0}
    AllAreLeft (g ∷ settings) (d ∷ dids) = AreLeft d (gone_of g d) × AllAreLeft settings dids
    AllAreLeft _ _ = ⊥

-- what is begun of all loops
module _ {S : Type 0} (gone_of : Setting → LoopDid S → List (ℕ × ℕ)) where
  abbrev pub all_begun : List Setting → List (LoopDid S) → List JobId
  all_begun (g ∷ settings) (d ∷ dids) = begun_along g.loop_no (gone_of g d) d.passed ++ all_begun settings dids
  all_begun _ _ = []

module _ {S : Type 0} (calls : Calls S) (lawful : IsLawful calls) (joins : RunsJoin) (g : Setting) (now : Loop S) (gone : List (ℕ × ℕ)) where
  goes_on : (w : World) (old mid new : Loop S) (first more : List LogEntry) (starts others : List JobId) (handed handed' : List (ℕ × ℕ)) (next next' left left' : ℕ)
      → (h : GoesTo calls lawful g gone w mid first starts handed next left) → GoesTo calls lawful g gone h.world new more others handed' next' left'
      → GoesTo calls lawful g gone w new (first ++ more) (starts ++ others) handed' next' left'
  goes_on w old mid new first more starts others handed handed' next next' left left' h k = record {
    steps = h.steps ++ k.steps;
    told = h.told ++ k.told;
    world = k.world;
    run = joins w h.world k.world h.steps k.steps h.told k.told h.run k.run;
    at = k.at;
    own = filter-append (is_of_loop g.loop_no) h.told k.told ∙ (λ i. h.own i ++ k.own i);
    starts = begun_append h.told k.told ∙ (λ i. h.starts i ++ k.starts i);
    beside = beside_on g.loop_no w h.world k.world h.told k.told h.beside k.beside;
  }

  -- one event
  module _ (w : World) (old : Loop S) (handed : List (ℕ × ℕ)) (next left : ℕ) where
    abbrev Goes : Event → Loop S → Type 0
    Goes e new = GoesTo calls lawful g gone w new (lines_of g.loop_no old.state e) (begun_in g.loop_no gone e) (handed ++ handed_in e) (with_handed e next) left

    nothing_handed : (new : Loop S) (lines : List LogEntry) → GoesTo calls lawful g gone w new lines [] handed next left → GoesTo calls lawful g gone w new lines [] (handed ++ []) next left
    nothing_handed new lines h = rw (append-nil handed) h

    asks_none : (new : Loop S) → IsAt calls lawful g gone w old handed next left → EventStep calls g (OrderAsked None) old new → Goes (OrderAsked None) new
    asks_none new r h = by (next_is old.state) where
      done : next_order_of old.state ≡ (None, old.state) → Goes (OrderAsked None) new
      done is =
          let same : new ≡ old = h.1 ∙ ap (λ (x : Option WorkOrder × State). in_state old x.1) is in
          nothing_handed new (lines_of g.loop_no old.state (OrderAsked None))
          (rw same (asked_none calls lawful g gone w old handed next left r (is_failed old.state.status) refl is))

      by : NextIs old.state → Goes (OrderAsked None) new
      by (is_over failed is) = done is
      by (is_none on is) = done is
      by (is_some q on lowest is) = absurd (let it = h.0 ∙ ap (λ (x : Option WorkOrder × State). x.0) is in cc)

    asks_some : (o : WorkOrder) (new : Loop S) → IsAt calls lawful g gone w old handed next (1 + left) → EventStep calls g (OrderAsked (Some o)) old new → Goes (OrderAsked (Some o)) new
    asks_some o new r h = by (next_is old.state) where
      by : NextIs old.state → Goes (OrderAsked (Some o)) new
      by (is_over failed is) = absurd (let it = h.0 ∙ ap (λ (x : Option WorkOrder × State). x.0) is in cc)
      by (is_none on is) = absurd (let it = h.0 ∙ ap (λ (x : Option WorkOrder × State). x.0) is in cc)
      by (is_some q on lowest is) =
          let it = h.0 ∙ ap (λ (x : Option WorkOrder × State). x.0) is in
          let same : q.order ≡ o = cc in
          let moved = h.1 ∙ ap (λ (x : Option WorkOrder × State). in_state old x.1) is in
          rw (on, ← same, moved) (hands_out calls lawful g gone w old handed next left r q on lowest is)

    pending_not_cancelled : (opened cancelled : List (ℕ × ℕ)) (c : ℕ × ℕ) → is_pending opened cancelled c ≡ true → times c cancelled ≡ 0
    pending_not_cancelled opened cancelled c h = eqb-true (times c cancelled) 0 (third (nat_lt 0 c.1) (last_in c.0 opened == c.1) (times c cancelled == 0) h) where
      third : (a b e : Bool) → (a && (b && e)) ≡ true → e ≡ true
      third true true e h = h
      third _ _ e h = absurd (cc)

    -- what is answered is never cancelled
    answered_shut : (r : IsAt calls lawful g gone w old handed next left) (o : WorkOrder) (end : WorkEnd) → TakesReplyTo o old.state
        → IsShut (o.slot, o.request) (answered old.state.requests o end) (calls.view old.shared)
    answered_shut r o end takes = record {
      low = rw (← takes.one.order) f.low;
      settled = λ x at same.
          let it = map_member (in_stage o.request (Answered end)) old.state.requests.outstanding x at in
          rw (← it.2)
          (staged it.0 (has_number o.request it.0) refl (ap (λ y. y.request) (sym (same_order o.request (Answered end) it.0)) ∙ ap (λ (y : Request). y.order.request) it.2 ∙ same));
      none = ap (λ (x : WorkOrder). times (x.slot, x.request) (calls.view old.shared).cancelled) (sym takes.one.order)
          ∙ pending_not_cancelled (calls.view old.shared).opened (calls.view old.shared).cancelled (place_of takes.one.request) (f.pending takes.one.unsettled);
    } where
      f : FitsOne g.loop_no handed gone w.workers (calls.view old.shared).opened (calls.view old.shared).cancelled old.state.requests.last takes.one.request
      f = r.fits.each takes.one.request (find_member (has_number o.request) old.state.requests.outstanding takes.one.request takes.one.outstanding).0

      staged : (x : Request) (b : Bool) → has_number o.request x ≡ b → x.order.request ≡ o.request → is_settled (cond b (record x { stage = Answered end }) x).stage ≡ true
      staged x true is same = refl
      staged x false is same = absurd (let it = eq-eqb x.order.request o.request same in cc)

    -- beside it the object is moved, and the loop stands as before
    moved : (new : Loop S) → EventStep calls g MovedBeside old new → IsAt calls lawful g gone w old handed next left → IsAt calls lawful g gone w new handed next left
    moved new h r = record {
      desk = r.desk;
      there = r.there ∙ (λ i. Some (core g (record { state = sym h.state i; store = sym h.store i; shared = r.desk })));
      jobs = r.jobs;
      replies = r.replies;
      stands = rw h.view r.stands;
      fits = rw (h.state, h.view) r.fits;
      few = subst Few (sym h.state) r.few;
      idle = r.idle;
      room = r.room;
    }

    event_goes : (p : Passed S) (passed : List (Passed S)) → IsInThread p.event → EventStep calls g p.event old p.new → EndsSo handed gone (calls.view p.new.shared)
        → StandsBehind calls handed p → AreAnswered calls now gone (p ∷ passed) → AreInThread passed → PassesThrough calls g p.new passed now
        → IsAt calls lawful g gone w old handed next (with_handed p.event left) → Goes p.event p.new
    event_goes p passed own h ends behind answers rest through r = by p.event refl own h r where
      by : (e : Event) → p.event ≡ e → IsInThread e → EventStep calls g e old p.new → IsAt calls lawful g gone w old handed next (with_handed e left) → Goes e p.new
      by (Stepped did emits made) is own h r =
          nothing_handed p.new (lines_of g.loop_no old.state (Stepped did emits made)) (stepped calls lawful g gone w old handed next left r did emits made p.new h ends)
      by (OrderAsked None) is own h r = asks_none p.new r h
      by (OrderAsked (Some o)) is own h r = asks_some o p.new r h
      by (EndOffered o end true) is own h r =
          let it = behind.taken o end is in
          let shut = subst (λ (l : Loop S). IsShut (o.slot, o.request) l.state.requests (calls.view l.shared)) (sym h.1.1) (answered_shut r o end h.1.0) in
          let live = answers.0 o end is (shut_along calls lawful g (o.slot, o.request) passed p.new now rest through shut).none in
          nothing_handed p.new (lines_of g.loop_no old.state (EndOffered o end true))
          (rw h.1.1 (takes_reply calls lawful g gone w old handed next left r o end h.0 h.1.0 it.0 it.1.0 it.1.1 live))
      by (EndOffered o end false) is own h r =
          nothing_handed p.new [] (rw h.1.1 (rests calls lawful g gone w old handed next left r))
      by (ClockRaised ms) is own h r =
          nothing_handed p.new (lines_of g.loop_no old.state (ClockRaised ms))
          (rw h (clocked calls lawful g gone w old handed next left r ms))
      by MovedBeside is own h r = nothing_handed p.new [] (rests calls lawful g gone w p.new handed next left (moved p.new h r))
      by _ is own h r = absurd own

  -- all events
  module _ (cancelled : (c : ℕ × ℕ) → 0 < times c (calls.view now.shared).cancelled → 0 < times c gone)
      (apart : (c : ℕ × ℕ) → 0 < times c (calls.view now.shared).found_started → times c gone ≡ 0)
      (alone : (a : ℕ) → slice_index (calls.view now.shared).taken a + slice_index (calls.view now.shared).untaken a ≡ slice_index (calls.view now.shared).own a) where
    pub record GoesAll (w : World) (lines : List LogEntry) (starts : List JobId) (left : ℕ) : Type 0 where
      pub handed : List (ℕ × ℕ)
      pub next : ℕ
      pub goes : GoesTo calls lawful g gone w now lines starts handed next left

    pub goes_all : (passed : List (Passed S)) (old : Loop S) (w : World) (handed : List (ℕ × ℕ)) (next left : ℕ) → AreInThread passed → PassesThrough calls g old passed now
        → StandBehind calls handed passed → AreAnswered calls now gone passed → IsAt calls lawful g gone w old handed next (handed_along passed left)
        → GoesAll w (lines_along g.loop_no old passed) (begun_along g.loop_no gone passed) left
    goes_all [] old w handed next left own h behind answers r = record {
      handed = handed;
      next = next;
      goes = rw (sym h) at (rests calls lawful g gone w old handed next left r);
    }
    goes_all (p ∷ passed) old w handed next left own h behind answers r =
        let wide = (event_grows calls lawful g p.event old p.new own.0 h.0 r.stands.wide).wide in
        let grows = grows_along calls lawful g passed p.new now own.1 h.1 wide in
        let ends : EndsSo handed gone (calls.view p.new.shared) = record {
          cancelled = λ c some. cancelled c (grows.cancelled c some);
          found = λ c some. (behind.0.found c some, apart c (grows.found c some));
          alone = λ a. let x = grows.sends a in let y = alone a in omega (arith, x, y);
        } in
        let one = event_goes w old handed next (handed_along passed left) p passed own.0 h.0 ends behind.0 answers own.1 h.1 r in
        let rest = goes_all passed p.new one.world (handed ++ handed_in p.event) (with_handed p.event next) left own.1 h.1 behind.1 answers.1 one.at in
        record {
          handed = rest.handed;
          next = rest.next;
          goes =
              goes_on w old p.new now (lines_of g.loop_no old.state p.event) (lines_along g.loop_no p.new passed) (begun_in g.loop_no gone p.event)
              (begun_along g.loop_no gone passed) (handed ++ handed_in p.event) rest.handed (with_handed p.event next) rest.next
              (handed_along passed left) left one rest.goes;
        }

module _ {S : Type 0} (calls : Calls S) (lawful : IsLawful calls) (joins : RunsJoin) (gone_of : Setting → LoopDid S → List (ℕ × ℕ)) where
  -- a loop that opens knows nothing, and has nothing outstanding
  module _ (g : Setting) (d : LoopDid S) (opens : IsOpening calls g d.start) (w : World) (next left : ℕ) where
    opening_stands : Stands [] (gone_of g d) (calls.view d.start.shared) (new_desk g.loop_no)
    opening_stands = rw opens.shared (record {
      known = refl;
      waits = refl;
      wide = record { own = refl; taken = refl; untaken = refl };
      covers = λ a. let none = zeros MAX_ASYNCS a in omega (arith, none);
      never = λ c some. absurd (let it : 0 < 0 = some in omega (arith, it));
      begun = λ c some. absurd (let it : 0 < 0 = some in omega (arith, it));
      given = λ c some. absurd (let it : 0 < 0 = some in omega (arith, it));
    })

    opening_fits : FitsAt calls lawful g [] (gone_of g d) w.workers d.start.state.requests d.start.shared
    opening_fits = rw opens.state (record {
      each = λ q at. absurd at;
      one = λ a b at_a. absurd at_a;
      known = λ c some. absurd (let it : 0 < 0 = some in omega (arith, it));
      few = λ c some. absurd (let it : 0 < 0 = rw opens.shared at some in omega (arith, it));
    })

    starts : slice_get w.loops g.loop_no ≡ Some (opening_loop g) → w.jobs ≡ [] → slice_get w.replies g.loop_no ≡ Some []
        → ((k : ℕ) → next ≤ k → k < length w.workers → slice_get w.workers k ≡ Some Idle) → next + left ≤ length w.workers
        → IsAt calls lawful g (gone_of g d) w d.start [] next left
    starts there jobs replies idle room = record {
      desk = new_desk g.loop_no;
      there = there ∙ (λ i. Some (core g (record { state = sym opens.state i; store = sym opens.store i; shared = new_desk g.loop_no })));
      jobs = jobs;
      replies = replies;
      stands = opening_stands;
      fits = opening_fits;
      few = subst Few (sym opens.state) (omega arith);
      idle = idle;
      room = room;
    }

  -- what all of them hand out
  abbrev all_count : List (LoopDid S) → ℕ
  all_count [] = 0
  all_count (d ∷ dids) = handed_along d.passed (all_count dids)

  -- the loops of these settings, from this place on, have yet to begin
  abbrev AreReady : (k : ℕ) → List Setting → World → Type 0
  AreReady k [] w = Unit {0}
  AreReady k (g ∷ settings) w = (g.loop_no ≡ k) × (slice_get w.loops k ≡ Some (opening_loop g)) × (slice_get w.replies k ≡ Some []) × AreReady (k + 1) settings w

  ready_still : (k : ℕ) (settings : List Setting) (w w' : World) → ((i : ℕ) → k ≤ i → slice_get w'.loops i ≡ slice_get w.loops i) → ((i : ℕ) → k ≤ i → slice_get w'.replies i ≡ slice_get w.replies i)
      → AreReady k settings w → AreReady k settings w'
  ready_still k [] w w' loops replies h = tt
  ready_still k (g ∷ settings) w w' loops replies h = (
    h.0,
    loops k (omega arith) ∙ h.1,
    replies k (omega arith) ∙ h.2,
    ready_still (k + 1) settings w w' (λ i more. loops i (omega (arith, more))) (λ i more. replies i (omega (arith, more))) h.3,
  )

  pub record RunsAll (k : ℕ) (settings : List Setting) (dids : List (LoopDid S)) (w : World) : Type 0 where
    pub steps : List Step
    pub told : List LogEntry
    pub world : World
    pub run : WorldRun w steps told world
    pub none_full : count_by is_full told ≡ 0
    pub starts : jobs_begun told ≡ all_begun gone_of settings dids
    pub logs : (l : ℕ) (d : LoopDid S) → slice_get dids l ≡ Some d → (m : ℕ) → m ≡ k + l → log_of m told ≡ lines_along m d.start d.passed
    pub loops : (l : ℕ) (g : Setting) (d : LoopDid S) → slice_get settings l ≡ Some g → slice_get dids l ≡ Some d → (m : ℕ) → m ≡ k + l
        → (desk : Desk) × HasLoop world m g (over desk d.now)
    pub before : (i : ℕ) → i < k → (log_of i told ≡ []) × (slice_get world.loops i ≡ slice_get w.loops i)

  -- one loop, and then the others
  module _ (k : ℕ) (g : Setting) (settings : List Setting) (d : LoopDid S) (dids : List (LoopDid S)) (w : World) (here : g.loop_no ≡ k) (handed : List (ℕ × ℕ)) (next left : ℕ)
      (one : GoesTo calls lawful g (gone_of g d) w d.now (lines_along g.loop_no d.start d.passed) (begun_along g.loop_no (gone_of g d) d.passed) handed next left) (rest : RunsAll (k + 1) settings dids one.world) where
    abbrev all_told : List LogEntry
    all_told = one.told ++ rest.told

    own_lines : log_of g.loop_no all_told ≡ lines_along g.loop_no d.start d.passed
    own_lines =
        filter-append (is_of_loop g.loop_no) one.told rest.told
        ∙ (λ i. one.own i ++ (rest.before g.loop_no (omega (arith, here))).0 i) ∙ append-nil (lines_along g.loop_no d.start d.passed)

    logs : (l : ℕ) (x : LoopDid S) → slice_get (d ∷ dids) l ≡ Some x → (m : ℕ) → m ≡ k + l → log_of m all_told ≡ lines_along m x.start x.passed
    logs zero x at m is =
        let same : d ≡ x = cc in
        let place : g.loop_no ≡ m = omega (arith, here, is) in
        rw (← place, ← same) own_lines
    logs (suc l) x at m is =
        filter-append (is_of_loop m) one.told rest.told ∙ ap (λ (xs : List LogEntry). xs ++ log_of m rest.told) (one.beside.others m (λ same. omega (arith, here, is, same)))
        ∙ rest.logs l x at m (omega (arith, is))

    loops : (l : ℕ) (h : Setting) (x : LoopDid S) → slice_get (g ∷ settings) l ≡ Some h → slice_get (d ∷ dids) l ≡ Some x → (m : ℕ) → m ≡ k + l
        → (desk : Desk) × HasLoop rest.world m h (over desk x.now)
    loops zero h x at_g at m is =
        let same : d ≡ x = cc in
        let setting : g ≡ h = cc in
        let place : g.loop_no ≡ m = omega (arith, here, is) in
        let there = (rest.before g.loop_no (omega (arith, here))).1 ∙ one.at.there in (
          one.at.desk,
          rw (← place, ← same, ← setting) there,
        )
    loops (suc l) h x at_g at m is = rest.loops l h x at_g at m (omega (arith, is))

    runs_on : RunsAll k (g ∷ settings) (d ∷ dids) w
    runs_on = record {
      steps = one.steps ++ rest.steps;
      told = all_told;
      world = rest.world;
      run = joins w one.world rest.world one.steps rest.steps one.told rest.told one.run rest.run;
      none_full = sum_by-append (λ (x : LogEntry). cond {A = ℕ} (is_full x) 1 0) one.told rest.told ∙ (let x = one.beside.none_full in let y = rest.none_full in omega (arith, x, y));
      starts = begun_append one.told rest.told ∙ (λ i. one.starts i ++ rest.starts i);
      logs = logs;
      loops = loops;
      before = λ i low.
          let other : g.loop_no ≢ i = λ same. omega (arith, here, low, same) in
          let behind = rest.before i (omega (arith, low)) in (
            filter-append (is_of_loop i) one.told rest.told ∙ ap (λ (xs : List LogEntry). xs ++ log_of i rest.told) (one.beside.others i other) ∙ behind.0,
            behind.1 ∙ one.beside.loops i other,
          );
    }

  runs_all : (settings : List Setting) (dids : List (LoopDid S)) (k : ℕ) (w : World) (next : ℕ) → AllDidInThread calls settings dids → AllAreLeft calls gone_of settings dids → AreReady k settings w → w.jobs ≡ []
      → ((i : ℕ) → next ≤ i → i < length w.workers → slice_get w.workers i ≡ Some Idle) → next + all_count dids ≤ length w.workers → RunsAll k settings dids w
  runs_all [] [] k w next all left ready jobs idle room = record {
    steps = [];
    told = [];
    world = w;
    run = refl;
    none_full = refl;
    starts = refl;
    logs = λ l d at. absurd (cc);
    loops = λ l g d at. absurd (cc);
    before = λ i low. (refl, refl);
  }
  runs_all (g ∷ settings) (d ∷ dids) k w next all left ready jobs idle room =
      let did = all.0 in
      let here : g.loop_no ≡ k = ready.0 in
      let r =
      starts g d did.opens w next (handed_along d.passed (all_count dids)) (ap (slice_get w.loops) here ∙ ready.1) jobs (ap (slice_get w.replies) here ∙ ready.2) idle room in
      let its = left.0 in
      let one =
      goes_all calls lawful joins g d.now (gone_of g d) its.cancelled its.found did.alone d.passed d.start w [] next (all_count dids) did.in_thread did.through did.behind its.answered r in
      let still =
      ready_still (k + 1) settings w one.goes.world (λ i more. one.goes.beside.loops i (λ same. omega (arith, here, more, same)))
      (λ i more. one.goes.beside.replies i (λ same. omega (arith, here, more, same))) ready.3 in
      runs_on k g settings d dids w here one.handed one.next (all_count dids) one.goes
      (runs_all settings dids (k + 1) one.goes.world one.next all.1 left.1 still one.goes.at.jobs one.goes.at.idle one.goes.at.room)
  runs_all _ _ k w next all left ready jobs idle room = absurd all

  -- as all begin
  ready_from : (k : ℕ) (settings : List Setting) (w : World)
      → ((l : ℕ) (g : Setting) → slice_get settings l ≡ Some g → (m : ℕ) → m ≡ k + l → (g.loop_no ≡ m) × (slice_get w.loops m ≡ Some (opening_loop g)) × (slice_get w.replies m ≡ Some []))
      → AreReady k settings w
  ready_from k [] w each = tt
  ready_from k (g ∷ settings) w each =
      let it = each 0 g refl k (omega arith) in
      (it.0, it.1, it.2, ready_from (k + 1) settings w (λ l h at m is. each (suc l) h at m (omega (arith, is))))

  workers_idle : (count k : ℕ) → k < count → slice_get (replicate count Idle) k ≡ Some Idle
  workers_idle zero k low = absurd (omega (arith, low))
  workers_idle (suc count) zero low = refl
  workers_idle (suc count) (suc k) low = workers_idle count k (omega (arith, low))

  -- one run, in which just these jobs are begun
  abbrev pub IsRunOf : (settings : List Setting) (dids : List (LoopDid S)) → Type 0
  IsRunOf settings dids = (r : IsOneRun settings dids) × (jobs_begun r.log ≡ all_begun gone_of settings dids)

  pub run_of : IsAsInWorld → IsOfThreads → (settings : List Setting) (dids : List (LoopDid S)) → AreInPlace settings → AllDidInThread calls settings dids → AllAreLeft calls gone_of settings dids
      → IsRunOf settings dids
  run_of in_world of_threads settings dids placed all left =
      let count = all_count dids in
      let first = opening_world settings count in
      let ready =
      ready_from 0 settings first (λ l g at m is. let same : l ≡ m = omega (arith, is) in (
        placed l g at ∙ same,
        rw (← same) (map_get opening_loop settings l g at),
        rw (← same) (map_get (λ _. []) settings l g at),
      )) in
      let long : length first.workers ≡ count = length-replicate count Idle in
      let it =
      runs_all settings dids 0 first 0 all left ready refl (λ i more low. workers_idle count i (omega (arith, low, long))) (omega (arith, long)) in
      let threads = of_threads settings count it.steps it.told it.world it.run it.none_full in (
        record {
          workers = count;
          log = it.told;
          world = it.world;
          threads = threads;
          in_world = in_world settings count threads.atoms it.told (record (opening_threads settings count) { world = it.world }) placed threads.run;
          logs = λ l d at. it.logs l d at l (omega arith);
          loops = λ l g d at_g at. it.loops l g d at_g at l (omega arith);
        },
        it.starts,
      )

-- where just those are left that are cancelled in the end
module _ {S : Type 0} (calls : Calls S) (lawful : IsLawful calls) where
  opening_apart : (g : Setting) (l : Loop S) → IsOpening calls g l → IsApart (calls.view l.shared)
  opening_apart g l opens = subst IsApart (sym opens.shared) (λ c some. refl)

  abbrev cancelled_in : Setting → LoopDid S → List (ℕ × ℕ)
  cancelled_in g d = (calls.view d.now.shared).cancelled

  all_answered : (now : Loop S) (passed : List (Passed S)) → AreAnswered calls now (calls.view now.shared).cancelled passed
  all_answered now [] = tt
  all_answered now (p ∷ passed) = (λ o end is none. none, all_answered now passed)

  cancelled_are_left : (settings : List Setting) (dids : List (LoopDid S)) → AllDidInThread calls settings dids → AllAreLeft calls cancelled_in settings dids
  cancelled_are_left [] [] all = tt
  cancelled_are_left (g ∷ settings) (d ∷ dids) all = (
    record {
      cancelled = λ c some. some;
      found = apart_along calls lawful g d.passed d.start d.now all.0.in_thread all.0.through (opening_apart g d.start all.0.opens);
      answered = all_answered d.now d.passed;
    },
    cancelled_are_left settings dids all.1,
  )
  cancelled_are_left _ _ all = absurd all

  pub one_run : RunsJoin → IsAsInWorld → IsOfThreads → (settings : List Setting) (dids : List (LoopDid S)) → AreInPlace settings → AllDidInThread calls settings dids → IsOneRun settings dids
  one_run joins in_world of_threads settings dids placed all = (run_of calls lawful joins cancelled_in in_world of_threads settings dids placed all (cancelled_are_left settings dids all)).0
