-- How the history of a loop stays tied to what was done with its pass.
use Rattle.serve.proofs.Words.{ap, append-nil, arith, asks, BoardView, Bool, Collects, cond, count_by, count_cons, end_of, EndOffered, Event, get_or}
use Rattle.serve.proofs.Words.{get_or_from_slice_get, HandView, HasNumber, is_ticket, IsNewPass, IsTied, length, length-set, List, map, MovedBeside, offer_of}
use Rattle.serve.proofs.Words.{offered_in, Order, order_of, OrderAsked, PassView, Posts, refl, Reply, slice_get, slice_get-get_or, slice_set, Some, subst}
use Rattle.serve.proofs.Words.{sum_by-append, sym, Ticket, ticket_of, WorkEnd, WorkOrder, ℕ, ℕ_discrete, [], ◌++◌, ◌+◌, ◌∙◌, ◌∷◌, ◌≡◌}
use Rattle.std.proofs.lemmas.List.{map-append}
use Rattle.serve.proofs.Lookups.{not_there, is_within, set_here, set_there, each_push}
use Rattle.serve.proofs.OneEventMore.{offered_append}

count_append : {A : Type 0} (p : A → Bool) (xs ys : List A) → count_by p (xs ++ ys) ≡ count_by p xs + count_by p ys
count_append p xs ys = sum_by-append (λ x. cond (p x) 1 0) xs ys

module _ {J : Type 0} (ticket : J → Ticket) where
  pub tied_new : (board : BoardView) (k : ℕ) (pass : PassView J) → IsNewPass board pass → IsTied ticket k pass [] []
  tied_new board k pass new = record {
    posted = λ t. rw new.jobs.given (omega arith);
    put = λ j h at. ap (λ (x : HandView Reply). x.given) (sym (get_or_from_slice_get pass.replies j h h at)) ∙ (new.replies j h (is_within pass.replies j h at)).given;
    offered = λ h at.
        let none : h.taken ≡ [] = ap (λ (x : HandView Reply). x.taken) (sym (get_or_from_slice_get pass.replies k h h at)) ∙ (new.replies k h (is_within pass.replies k h at)).taken in
        ap (map (λ n. offer_of n.item)) (sym none);
    own = λ i offer at. not_there offer at;
  }

  -- more events, in which no reply is offered
  pub tied_more : (k : ℕ) (pass : PassView J) (kept : List J) (events more : List Event) → offered_in more ≡ [] → IsTied ticket k pass kept events → IsTied ticket k pass kept (events ++ more)
  tied_more k pass kept events more none tied =
      let same : offered_in (events ++ more) ≡ offered_in events = offered_append events more ∙ ap (λ xs. offered_in events ++ xs) none ∙ append-nil (offered_in events) in
      record {
        posted = λ t. (let a = count_append (asks t) events more in let b = tied.posted t in omega arith);
        put = tied.put;
        offered = λ h at. same ∙ tied.offered h at;
        own = λ i offer at. tied.own i offer (rw same at at);
      }

  -- no job is kept any more
  pub tied_less : (k : ℕ) (pass : PassView J) (kept : List J) (events : List Event) → IsTied ticket k pass kept events → IsTied ticket k pass [] events
  tied_less k pass kept events tied = record {
    posted = λ t.
        let a = count_append (λ j. is_ticket t (ticket j)) pass.jobs.given kept in
        let b : count_by (λ j. is_ticket t (ticket j)) (pass.jobs.given ++ []) ≡ count_by (λ j. is_ticket t (ticket j)) pass.jobs.given = ap (count_by (λ j. is_ticket t (ticket j))) (append-nil pass.jobs.given) in
        let c = tied.posted t in
        omega arith;
    put = tied.put;
    offered = tied.offered;
    own = tied.own;
  }

  -- an order is handed out, its request is posted, and a job of its ticket is made
  pub tied_made : (k : ℕ) (pass : PassView J) (order : Order) (job : J) (events : List Event) → ticket job ≡ ticket_of order
      → IsTied ticket k pass [] events → IsTied ticket k pass (job ∷ []) (events ++ OrderAsked (Some (order_of order)) ∷ MovedBeside ∷ [])
  tied_made k pass order job events made tied =
      let more = tied_more k pass [] events (OrderAsked (Some (order_of order)) ∷ MovedBeside ∷ []) refl tied in
      record {
        posted = λ t.
            let f : J → Bool = λ j. is_ticket t (ticket j) in
            let a = count_append f pass.jobs.given (job ∷ []) in
            let b : count_by f (pass.jobs.given ++ []) ≡ count_by f pass.jobs.given = ap (count_by f) (append-nil pass.jobs.given) in
            let c = tied.posted t in
            let d = count_append (asks t) events (OrderAsked (Some (order_of order)) ∷ MovedBeside ∷ []) in
            let e : count_by f (job ∷ []) ≡ cond {A = ℕ} (is_ticket t (ticket job)) 1 0 + 0 = count_cons f job [] in
            let h : count_by (asks t) (OrderAsked (Some (order_of order)) ∷ MovedBeside ∷ []) ≡ cond {A = ℕ} (is_ticket t (ticket_of order)) 1 0 + 0 =
            count_cons (asks t) (OrderAsked (Some (order_of order))) (MovedBeside ∷ []) in
            let i : cond {A = ℕ} (is_ticket t (ticket job)) 1 0 ≡ cond {A = ℕ} (is_ticket t (ticket_of order)) 1 0 = ap (λ u. cond {A = ℕ} (is_ticket t u) 1 0) made in
            omega arith;
        put = more.put;
        offered = more.offered;
        own = more.own;
      }

  -- a job is posted
  pub tied_post : (k : ℕ) (old new : PassView J) (job : J) (events : List Event) → Posts old new job → IsTied ticket k old (job ∷ []) events → IsTied ticket k new [] events
  tied_post k old new job events posts tied = record {
    posted = λ t.
        let f : J → Bool = λ j. is_ticket t (ticket j) in
        let a : count_by f (new.jobs.given ++ []) ≡ count_by f (old.jobs.given ++ job ∷ []) = ap (count_by f) (append-nil new.jobs.given ∙ ap (λ (x : HandView J). x.given) posts.jobs) in
        let b = tied.posted t in
        omega arith;
    put = λ j h at. tied.put j h (rw posts.replies at at);
    offered = λ h at. tied.offered h (rw posts.replies at at);
    own = tied.own;
  }

  -- a reply is collected and offered
  pub tied_collect : (k : ℕ) (old new : PassView J) (kept : List J) (reply : Reply) (is_taken : Bool) (events : List Event) → reply.order.loop_no ≡ k → Collects old new k reply
      → IsTied ticket k old kept events → IsTied ticket k new kept (events ++ EndOffered (order_of reply.order) (end_of reply.outcome) is_taken ∷ [])
  tied_collect k old new kept reply is_taken events of_loop collects tied =
      let e : Event = EndOffered (order_of reply.order) (end_of reply.outcome) is_taken in
      let longer : offered_in (events ++ e ∷ []) ≡ offered_in events ++ offer_of reply ∷ [] = offered_append events (e ∷ []) in
      record {
        posted = λ t.
            let a = count_append (asks t) events (e ∷ []) in
            let b = tied.posted t in
            let c : count_by (λ j. is_ticket t (ticket j)) (new.jobs.given ++ kept) ≡ count_by (λ j. is_ticket t (ticket j)) (old.jobs.given ++ kept) = ap (λ (x : HandView J). count_by (λ j. is_ticket t (ticket j)) (x.given ++ kept)) collects.jobs in
            omega arith;
        put = λ j h at. elim (ℕ_discrete j k) [
          | yes same ↦ (
              let it : h ≡ collects.after = set_here old.replies k collects.after h (rw (collects.replies, same) at at) in
              ap (λ (x : HandView Reply). x.given) it ∙ ap (λ (x : HandView Reply). x.given) collects.did.taken ∙ tied.put k collects.before collects.was)
          | no other ↦ tied.put j h (set_there old.replies k j collects.after h other (rw collects.replies at at))
        ];
        offered = λ h at.
            let it : h ≡ collects.after = set_here old.replies k collects.after h (rw collects.replies at at) in
            let now : h.taken ≡ collects.before.taken ++ collects.did.name ∷ [] = ap (λ (x : HandView Reply). x.taken) it ∙ ap (λ (x : HandView Reply). x.taken) collects.did.taken in
            longer
            ∙ ap (λ xs. xs ++ offer_of reply ∷ []) (tied.offered collects.before collects.was)
            ∙ ap (λ r. map (λ n. offer_of n.item) collects.before.taken ++ offer_of r ∷ []) (sym collects.did.item)
            ∙ sym (map-append (λ n. offer_of n.item) collects.before.taken (collects.did.name ∷ []))
            ∙ ap (map (λ n. offer_of n.item)) (sym now);
        own = λ i offer at. each_push (λ (o : WorkOrder × WorkEnd). o.0.loop_no ≡ k) (offered_in events) (offer_of reply) tied.own of_loop i offer (rw longer at at);
      }

-- a pass keeps its number
module _ {J : Type 0} where
  pub collects_number : (n k : ℕ) (old new : PassView J) (reply : Reply) → Collects old new k reply → HasNumber n old → HasNumber n new
  collects_number n k old new reply collects h = record {
    jobs = ap (λ (x : HandView J). x.number) collects.jobs ∙ h.jobs;
    replies = λ j d below.
        let size : length new.replies ≡ length old.replies = ap length collects.replies ∙ length-set old.replies k collects.after in
        let at = subst (λ l. slice_get l j ≡ Some (get_or new.replies j d)) collects.replies (slice_get-get_or new.replies j d below) in
        one j (get_or new.replies j d) at;
  } where
    numbered : (j : ℕ) (x : HandView Reply) → slice_get old.replies j ≡ Some x → x.number ≡ n
    numbered j x at = ap (λ (y : HandView Reply). y.number) (sym (get_or_from_slice_get old.replies j x x at)) ∙ h.replies j x (is_within old.replies j x at)

    one : (j : ℕ) (x : HandView Reply) → slice_get (slice_set old.replies k collects.after) j ≡ Some x → x.number ≡ n
    one j x at = elim (ℕ_discrete j k) [
      | yes same ↦ (
          let it : x ≡ collects.after = set_here old.replies k collects.after x (rw same at at) in
          ap (λ (y : HandView Reply). y.number) it ∙ ap (λ (y : HandView Reply). y.number) collects.did.taken ∙ numbered k collects.before collects.was)
      | no other ↦ numbered j x (set_there old.replies k j collects.after x other at)
    ]
