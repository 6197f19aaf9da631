-- What the pass and the seat of a worker say at its end.
use Rattle.serve.proofs.Words.{ap, arith, BoardView, ClaimsView, DidTurns, EachOnce, get_or_from_slice_get, HandView, HasNumber, IsNewPass, IsPassOf, length}
use Rattle.serve.proofs.Words.{map, new_worker_view, PassView, put_for, Reply, same_Some, slice_get, slice_get-get_or, Some, started_by, subst, sym, Ticket}
use Rattle.serve.proofs.Words.{WorkerEnds, WorkerView, ℕ, [], ∥∥₁_map, ◌++◌, ◌+◌, ◌∙◌, ◌≡◌}
use Rattle.std.proofs.lemmas.List.{length-map}
use Rattle.pool.specs.Turns.{TookSome}
use Rattle.serve.proofs.Lookups.{is_within, is_there}

module _ {J : Type 0} (ticket : J → Ticket) where
  pub same_count : (board : BoardView) (pass : PassView J) → IsPassOf board pass → length pass.replies ≡ length board.replies
  same_count board pass own = sym (length-map pass.replies (λ h. h.line)) ∙ ap length own.replies ∙ length-map board.replies (λ l. l.id)

  module _ (board : BoardView) (old new : PassView J) (before after : WorkerView) (own : IsPassOf board old) (still : IsPassOf board new) (some : TookSome ticket old new before after) where
    -- what a line's hand was before
    was : (k : ℕ) (h : HandView Reply) → slice_get new.replies k ≡ Some h
        → (h' : HandView Reply) × (slice_get old.replies k ≡ Some h') × (h ≡ record h' { given = h'.given ++ put_for k some.0 })
    was k h at =
        let below = is_within new.replies k h at in
        let a = same_count board old own in
        let b = same_count board new still in
        let old_at = is_there old.replies k (omega arith) in
        (old_at.0, old_at.1, same_Some h _ (sym at ∙ some.1.put k old_at.0 old_at.1))

    number : (n : ℕ) → HasNumber n old → HasNumber n new
    number n h = record {
      jobs = ap (λ (x : HandView J). x.number) some.1.jobs ∙ h.jobs;
      replies = λ k d below.
          let at = slice_get-get_or new.replies k d below in
          let w = was k _ at in
          let there = is_within old.replies k w.0 w.1 in
          ap (λ (x : HandView Reply). x.number) w.2 ∙ (ap (λ (x : HandView Reply). x.number) (sym (get_or_from_slice_get old.replies k w.0 d w.1)) ∙ h.replies k d there);
    }

    did : before.started ≡ [] → IsNewPass board old → DidTurns ticket new after
    did none idle = record {
      turns = some.0;
      started = some.1.started ∙ ap (λ xs. xs ++ started_by some.0) none;
      taken = ap (λ (x : HandView J). map (λ n. ticket n.item) x.taken) some.1.jobs ∙ ap (λ xs. map (λ n. ticket n.item) (xs ++ some.1.names)) idle.jobs.taken ∙ some.1.tickets;
      posted = ap (λ (x : HandView J). x.given) some.1.jobs ∙ idle.jobs.given;
      put = λ k h at.
          let w = was k h at in
          let there = is_within old.replies k w.0 w.1 in
          let empty = ap (λ (x : HandView Reply). x.given) (sym (get_or_from_slice_get old.replies k w.0 w.0 w.1)) ∙ (idle.replies k w.0 there).given in
          ap (λ (x : HandView Reply). x.given) w.2 ∙ ap (λ xs. xs ++ put_for k some.0) empty;
    }

  pub worker_ends : (board : BoardView) (claims : ClaimsView) (n : ℕ) (old new : PassView J) (before after : WorkerView)
      → IsPassOf board old → ∥ IsNewPass board old ∥₁ → HasNumber (claims.loops + n + 1) old → before ≡ new_worker_view claims.id n
      → IsPassOf board new → after.claims ≡ before.claims → TookSome ticket old new before after → (EachOnce before.started → EachOnce after.started)
      → WorkerEnds ticket board claims n new after
  worker_ends board claims n old new before after own idle numbered fresh still same some once =
      let none : before.started ≡ [] = ap (λ (s : WorkerView). s.started) fresh in
      record {
        own = still;
        number = number board old new before after own still some (claims.loops + n + 1) numbered;
        of_claims = same ∙ ap (λ (s : WorkerView). s.claims) fresh;
        once = once (subst EachOnce (sym none) (λ t. omega arith));
        did = ∥∥₁_map idle (did board old new before after own still some none);
      }
