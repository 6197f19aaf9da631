-- How the history of a loop in its thread goes on, tied to its pass.
use Rattle.serve.proofs.Words.{Failed, Loop, next_in, Over, Request, Running, Seats, State, Status}
use Rattle.serve.proofs.Words.{ap, arith, Collects, emitted, end_of, EndOffered, Err, Event, handed_out, HasDone, HasTied, IsOffered, IsTied, IsTiedSoFar, List}
use Rattle.serve.proofs.Words.{LoopRecord, LoopThread, MovedBeside, MovesAlone, MovesBy, None, offered_in, Ok, OnOk, Option, option_to_list, Order, order_of}
use Rattle.serve.proofs.Words.{OrderAsked, Posts, PostsAmong, RecordHandsOut, RecordPosts, refl, Reply, Result, Some, steps_join, subst, sym, thread_calls}
use Rattle.serve.proofs.Words.{ThreadStep, Ticket, ticket_of, [], ∥∥₁_map, ◌++◌, ◌∙◌, ◌∷◌, ◌≡◌, ◌≢◌}
use Rattle.std.specs.Prelude.{IfSome, IfNone}
use Rattle.serve.specs.Inner.Posts.{IsBehind}
use Rattle.atomic_table.specs.Seated.{TableId}
use Rattle.phases.specs.Host.{with_requests}
use Rattle.phases.specs.Outside.{handing, next_order_of}
use Rattle.phases.specs.Requests.{lowest_open, Requests}
use Rattle.serve.specs.Inner.Threads.{HandsOutNone, Stays, KeepsGoing}
use Rattle.serve.proofs.OneTable.{claims_of, unposted_claims, alone_claims, handed_claims}
use Rattle.serve.proofs.OneEventMore.{no_move, emitted_append, callbacks_append}
use Rattle.serve.proofs.PostsBehind.{GoesBehind, goes_unposted, moves_posted, behind_posted, handed_append, found_then, beside_then}
use Rattle.serve.proofs.Tying.{tied_more, tied_less, tied_made, tied_post, tied_collect}

pub when_none : {A P : Type 0} (r : Option A) → ((x : A) → r ≢ Some x) → IfNone r P → P
when_none None not h = h
when_none (Some x) not h = absurd (not x refl)

pub is_none : {A : Type 0} (r : Option A) → ((x : A) → r ≢ Some x) → r ≡ None
is_none None not = refl
is_none (Some x) not = absurd (not x refl)

pub when_ok : {T E P : Type 0} (r : Result T E) → ((x : E) → r ≢ Err x) → OnOk r P → P
when_ok (Ok x) not h = h
when_ok (Err e) not h = absurd (not e refl)

-- a history, and more events
pub done_more : (old new : LoopRecord) (events : List Event) → MovesBy old events new → GoesBehind old new events
    → (d : HasDone thread_calls old.core.setting old.core.loop old.ran old.emits.items) → IsBehind old.core.setting d
    → (e : HasDone thread_calls new.core.setting new.core.loop new.ran new.emits.items) × (e.events ≡ d.events ++ events) × IsBehind new.core.setting e
done_more old new events moves goes d behind =
    let g = old.core.setting in
    let it = goes (handed_out d.events) behind.posts moves.history in
    subst (λ x. (e : HasDone thread_calls x new.core.loop new.ran new.emits.items) × (e.events ≡ d.events ++ events) × IsBehind x e) (sym moves.setting) (
      record {
        start = d.start;
        opens = d.opens;
        events = d.events ++ events;
        history = steps_join (ThreadStep thread_calls old.core.setting) d.events events d.start old.core.loop new.core.loop d.history moves.history;
        alone = new.alone.3;
        counted = (let a = d.counted in let b = moves.counted in let c = callbacks_append d.events events in omega arith);
        told = moves.told ∙ ap (λ xs. xs ++ emitted events) d.told ∙ sym (emitted_append d.events events);
      },
      refl,
      record {
        posts = subst (λ xs. PostsAmong xs new.core.loop.shared.loop_seat) (sym (handed_append d.events events)) it.0;
        found = found_then g [] d.events events d.start old.core.loop new.core.loop d.history moves.history behind.found it.1;
        beside = beside_then g [] d.events events d.start old.core.loop new.core.loop d.history moves.history behind.beside it.2;
      },
    )

-- a loop that has handed out none has none left
handed_none : (rs : Requests) (o : Option Request) → (handing rs o).0 ≡ None → (handing rs o).1 ≡ rs
handed_none rs None none = refl
handed_none rs (Some r) none = absurd (cc)

still_none : (status : Status) (s : State) → (next_in status s).0 ≡ None → (next_in status s).1 ≡ s
still_none Failed s none = refl
still_none Running s none = ap (with_requests s) (handed_none s.requests (lowest_open s.requests) none)
still_none Over s none = ap (with_requests s) (handed_none s.requests (lowest_open s.requests) none)

pub hands_out_none : (old new : LoopRecord) → RecordHandsOut old None new → HandsOutNone new
hands_out_none old new handed =
    let s = old.core.loop.state in
    let none = sym handed.history.1.0.0 in
    let same : new.core.loop.state ≡ (next_order_of s).1 = ap (λ (l : Loop Seats). l.state) (handed.history.2 ∙ handed.history.1.0.1) in
    ap (λ x. (next_order_of x).0) (same ∙ still_none s.status s none) ∙ none

module _ {J : Type 0} (ticket : J → Ticket) (old new : LoopThread J) where
  pub told_more : (kept kept' : List J) (events : List Event) → MovesBy old.recorded events new.recorded → GoesBehind old.recorded new.recorded events
      → ((was : List Event) → IsTied ticket old.loop_no old.pass kept was → IsTied ticket new.loop_no new.pass kept' (was ++ events)) → ∥ HasTied ticket old kept ∥₁ → ∥ HasTied ticket new kept' ∥₁
  told_more kept kept' events moves goes f h = ∥∥₁_map h one where
    one : HasTied ticket old kept → HasTied ticket new kept'
    one t =
        let e = done_more old.recorded new.recorded events moves goes t.done t.behind in
        record { done = e.0; tied = subst (IsTied ticket new.loop_no new.pass kept') (sym e.1) (f t.done.events t.tied); behind = e.2 }

  -- the record stays
  pub told_still : (kept kept' : List J) → new.recorded ≡ old.recorded → ((was : List Event) → IsTied ticket old.loop_no old.pass kept was → IsTied ticket new.loop_no new.pass kept' was)
      → ∥ HasTied ticket old kept ∥₁ → ∥ HasTied ticket new kept' ∥₁
  told_still kept kept' same f h = ∥∥₁_map h one where
    Done : LoopRecord → List Event → Type 0
    Done r events = (d : HasDone thread_calls r.core.setting r.core.loop r.ran r.emits.items) × (d.events ≡ events) × IsBehind r.core.setting d

    one : HasTied ticket old kept → HasTied ticket new kept'
    one t =
        let e : Done new.recorded t.done.events = subst (λ r. Done r t.done.events) (sym same) (t.done, refl, t.behind) in
        record { done = e.0; tied = subst (IsTied ticket new.loop_no new.pass kept') (sym e.1) (f t.done.events t.tied); behind = e.2 }

  -- no reply is offered
  stays_quiet : new.board ≡ old.board → claims_of new.recorded ≡ claims_of old.recorded → new.loop_no ≡ old.loop_no → new.pass ≡ old.pass → new.kept ≡ old.kept
      → (events : List Event) → offered_in events ≡ [] → MovesBy old.recorded events new.recorded → GoesBehind old.recorded new.recorded events → Stays ticket old new
  stays_quiet board claims number pass kept events none moves goes = record {
    board = board;
    claims = ap (λ (x : TableId × List Ticket). x.0) claims;
    joined = ap (λ (x : TableId × List Ticket). x.1) claims;
    setting = moves.setting;
    told = told_more (option_to_list old.kept) (option_to_list new.kept) events moves goes
        (λ was tied.
        subst (λ n. IsTied ticket n new.pass (option_to_list new.kept) (was ++ events)) (sym number)
        (subst (λ p. IsTied ticket old.loop_no p (option_to_list new.kept) (was ++ events)) (sym pass)
        (subst (λ k. IsTied ticket old.loop_no old.pass (option_to_list k) (was ++ events)) (sym kept) (tied_more ticket old.loop_no old.pass (option_to_list old.kept) was events none tied))));
  }

  -- the loop moves alone
  pub stays_alone : new.board ≡ old.board → new.loop_no ≡ old.loop_no → new.pass ≡ old.pass → new.kept ≡ old.kept → MovesAlone old.recorded new.recorded → Stays ticket old new
  stays_alone board number pass kept moves =
      stays_quiet board (alone_claims old.recorded new.recorded moves) number pass kept moves.events moves.none moves.moves (goes_unposted old.recorded new.recorded moves.events moves.unposted)

  pub stays_same : new.board ≡ old.board → new.loop_no ≡ old.loop_no → new.pass ≡ old.pass → new.kept ≡ old.kept → new.recorded ≡ old.recorded → Stays ticket old new
  stays_same board number pass kept same =
      stays_alone board number pass kept
      (no_move old.recorded new.recorded (ap (λ (r : LoopRecord). r.core.setting) same) (ap (λ (r : LoopRecord). r.core.loop) same) (ap (λ (r : LoopRecord). r.ran) same) (ap (λ (r : LoopRecord). r.emits.items) same))

  -- it is offered a reply that was collected
  pub stays_offered : (reply : Reply) → new.board ≡ old.board → new.loop_no ≡ old.loop_no → new.kept ≡ old.kept → reply.order.loop_no ≡ old.loop_no → Collects old.pass new.pass old.loop_no reply
      → IsOffered old.recorded reply new.recorded → Stays ticket old new
  stays_offered reply board number kept of_loop collects offered =
      let e : List Event = EndOffered (order_of reply.order) (end_of reply.outcome) offered.0 ∷ [] in
      record {
        board = board;
        claims = ap (λ (x : TableId × List Ticket). x.0) (unposted_claims old.recorded new.recorded e tt offered.1.history);
        joined = ap (λ (x : TableId × List Ticket). x.1) (unposted_claims old.recorded new.recorded e tt offered.1.history);
        setting = offered.1.setting;
        told = told_more (option_to_list old.kept) (option_to_list new.kept) e offered.1 (goes_unposted old.recorded new.recorded e tt)
            (λ was tied.
            subst (λ n. IsTied ticket n new.pass (option_to_list new.kept) (was ++ e)) (sym number)
            (subst (λ k. IsTied ticket old.loop_no new.pass (option_to_list k) (was ++ e)) (sym kept) (tied_collect ticket old.loop_no old.pass new.pass (option_to_list old.kept) reply offered.0 was of_loop collects tied)));
      }

  -- it is asked for an order, and posts none that it has
  pub stays_asked : (order : Option Order) → new.board ≡ old.board → new.loop_no ≡ old.loop_no → new.pass ≡ old.pass → old.kept ≡ None → new.kept ≡ None → RecordHandsOut old.recorded order new.recorded → Stays ticket old new
  stays_asked order board number pass was_none none handed =
      stays_alone board number pass (none ∙ sym was_none) (record { events = _; moves = handed; none = refl; unposted = tt })

  -- no job is kept
  pub told_none : new.kept ≡ None → IsTiedSoFar ticket new → ∥ HasTied ticket new [] ∥₁
  told_none none h = subst (λ k. ∥ HasTied ticket new (option_to_list k) ∥₁) none h

  -- it hands out an order, and posts its request
  module _ (mid : LoopRecord) (order : Order) (handed : RecordHandsOut old.recorded (Some order) mid) (posts : RecordPosts mid (order.slot, order.request) new.recorded) where
    abbrev asked : List Event
    asked = OrderAsked (Some (order_of order)) ∷ MovedBeside ∷ []

    moves : MovesBy old.recorded asked new.recorded
    moves = moves_posted old.recorded mid new.recorded order handed posts

    goes : GoesBehind old.recorded new.recorded asked
    goes = behind_posted old.recorded mid new.recorded order handed posts

    -- no job is kept of it
    pub stays_posted : new.board ≡ old.board → new.loop_no ≡ old.loop_no → new.pass ≡ old.pass → old.kept ≡ None → new.kept ≡ None → Stays ticket old new
    stays_posted board number pass was_none none = stays_quiet board (handed_claims old.recorded mid new.recorded order handed posts) number pass (none ∙ sym was_none) asked refl moves goes

    -- or its job was made
    told_made : (job : J) → new.loop_no ≡ old.loop_no → new.pass ≡ old.pass → old.kept ≡ None → ticket job ≡ ticket_of order → IsTiedSoFar ticket old → ∥ HasTied ticket new (job ∷ []) ∥₁
    told_made job number pass none made h =
        told_more [] (job ∷ []) asked moves goes
        (λ was tied.
        subst (λ n. IsTied ticket n new.pass (job ∷ []) (was ++ asked)) (sym number)
        (subst (λ p. IsTied ticket old.loop_no p (job ∷ []) (was ++ asked)) (sym pass) (tied_made ticket old.loop_no old.pass order job was made tied)))
        (subst (λ k. ∥ HasTied ticket old (option_to_list k) ∥₁) none h)

    -- its job was made, unless that has another ticket
    pub told_maybe : (made : Option J) → new.board ≡ old.board → new.loop_no ≡ old.loop_no → new.pass ≡ old.pass → old.kept ≡ None → new.kept ≡ None
        → IfSome made (λ job. ticket job ≡ ticket_of order) → IsTiedSoFar ticket old → ∥ HasTied ticket new (option_to_list made) ∥₁
    told_maybe (Some job) board number pass was_none none made h = told_made job number pass was_none made h
    told_maybe None board number pass was_none none made h = told_none none ((stays_posted board number pass was_none none).told h)

  -- the job that was kept is taken
  pub told_taken : (job : J) → new.loop_no ≡ old.loop_no → new.pass ≡ old.pass → new.recorded ≡ old.recorded → old.kept ≡ Some job → IsTiedSoFar ticket old → ∥ HasTied ticket new (job ∷ []) ∥₁
  told_taken job number pass same some h =
      told_still (job ∷ []) (job ∷ []) same
      (λ was tied.
      subst (λ n. IsTied ticket n new.pass (job ∷ []) was) (sym number) (subst (λ p. IsTied ticket old.loop_no p (job ∷ []) was) (sym pass) tied))
      (subst (λ k. ∥ HasTied ticket old (option_to_list k) ∥₁) some h)

  pub stays_less : new.board ≡ old.board → new.loop_no ≡ old.loop_no → new.pass ≡ old.pass → new.recorded ≡ old.recorded → new.kept ≡ None → Stays ticket old new
  stays_less board number pass same none = record {
    board = board;
    claims = ap (λ (x : TableId × List Ticket). x.0) (ap claims_of same);
    joined = ap (λ (x : TableId × List Ticket). x.1) (ap claims_of same);
    setting = ap (λ (r : LoopRecord). r.core.setting) same;
    told = told_still (option_to_list old.kept) (option_to_list new.kept) same
        (λ was tied.
        subst (λ k. IsTied ticket new.loop_no new.pass (option_to_list k) was) (sym none)
        (subst (λ n. IsTied ticket n new.pass [] was) (sym number)
        (subst (λ p. IsTied ticket old.loop_no p [] was) (sym pass) (tied_less ticket old.loop_no old.pass (option_to_list old.kept) was tied))));
  }

  -- it is posted
  pub told_post : (job : J) → new.loop_no ≡ old.loop_no → new.recorded ≡ old.recorded → new.kept ≡ None → Posts old.pass new.pass job → ∥ HasTied ticket old (job ∷ []) ∥₁ → IsTiedSoFar ticket new
  told_post job number same none posts h =
      subst (λ k. ∥ HasTied ticket new (option_to_list k) ∥₁) (sym none)
      (told_still (job ∷ []) [] same (λ was tied. subst (λ n. IsTied ticket n new.pass [] was) (sym number) (tied_post ticket old.loop_no old.pass new.pass job was posts tied)) h)

  -- or kept again
  pub told_kept : (job : J) → new.loop_no ≡ old.loop_no → new.recorded ≡ old.recorded → new.pass ≡ old.pass → new.kept ≡ Some job → ∥ HasTied ticket old (job ∷ []) ∥₁ → IsTiedSoFar ticket new
  told_kept job number same pass some h =
      subst (λ k. ∥ HasTied ticket new (option_to_list k) ∥₁) (sym some)
      (told_still (job ∷ []) (job ∷ []) same
      (λ was tied. subst (λ n. IsTied ticket n new.pass (job ∷ []) was) (sym number) (subst (λ p. IsTied ticket old.loop_no p (job ∷ []) was) (sym pass) tied)) h)

module _ {J : Type 0} (ticket : J → Ticket) where
  pub stays_then : (a b c : LoopThread J) → Stays ticket a b → Stays ticket b c → Stays ticket a c
  stays_then a b c h rest = record { board = rest.board ∙ h.board; claims = rest.claims ∙ h.claims; joined = rest.joined ∙ h.joined; setting = rest.setting ∙ h.setting; told = λ t. rest.told (h.told t) }

  pub keeps_then : (a b c : LoopThread J) → KeepsGoing ticket a b → KeepsGoing ticket b c → KeepsGoing ticket a c
  keeps_then a b c h rest = (stays_then a b c h.0 rest.0, λ goes. rest.1 (h.1 goes))

  -- a job is made, and then it is posted or kept
  pub stays_with : (a b c : LoopThread J) (job : J) → Stays ticket a b → (IsTiedSoFar ticket a → ∥ HasTied ticket b (job ∷ []) ∥₁) → c.board ≡ b.board → c.recorded ≡ b.recorded
      → (∥ HasTied ticket b (job ∷ []) ∥₁ → IsTiedSoFar ticket c) → Stays ticket a c
  stays_with a b c job h made board same told = record {
    board = board ∙ h.board;
    claims = ap (λ (x : TableId × List Ticket). x.0) (ap claims_of same) ∙ h.claims;
    joined = ap (λ (x : TableId × List Ticket). x.1) (ap claims_of same) ∙ h.joined;
    setting = ap (λ (r : LoopRecord). r.core.setting) same ∙ h.setting;
    told = λ t. told (made t);
  }
