-- Turns, one more after others.
use Rattle.std.proofs.Common.{◌≡◌, ◌≢◌, ◌⊎◌, ⊎_elim, ℕ, Bool, true, false, ◌==◌, cond, List, [], ◌∷◌, ◌++◌, map, Some, set, slice_get, refl, sym, ap, ◌∙◌, subst, append_assoc, append-nil, arith}
use Rattle.std.proofs.lemmas.List.{map-append}
use Rattle.std.proofs.lemmas.Option.{same_Some}
use Rattle.std.proofs.lemmas.Bool.{cases_eq}
use Rattle.std.proofs.lemmas.Bool.Decides.{nat_tests}
use Rattle.claims.specs.declared.seats.Ticket.{Ticket}
use Rattle.claims.specs.Views.{WorkerView}
use Rattle.order.specs.declared.reply.Reply.{Reply}
use Rattle.board.specs.declared.line.Named.{Named}
use Rattle.board.specs.Jobs.{ticket_of}
use Rattle.board.specs.Views.{HandView}
use Rattle.board.specs.Boards.{BoardView, PassView, Puts}
use Rattle.board.proofs.Taking.{set_there, set_beside}
use Rattle.pool.specs.declared.work.WorkerDid.{WorkerDid}
use Rattle.pool.specs.declared.work.WorkerDid.TheVariants as did
use Rattle.pool.specs.Work.{DidSo}
use Rattle.pool.specs.Turns.{Turn, Dropped, Put, GivenUp, ticket_in, started_by, put_for, PutsOrNot, TookTurns, TookSome}

started_more : (turns more : List Turn) → started_by (turns ++ more) ≡ started_by turns ++ started_by more
started_more [] more = refl
started_more (Dropped t ∷ turns) more = started_more turns more
started_more (Put r ∷ turns) more = ap (λ l. ticket_of r.order ∷ l) (started_more turns more)
started_more (GivenUp r ∷ turns) more = ap (λ l. ticket_of r.order ∷ l) (started_more turns more)

cond_more : (b : Bool) (r : Reply) (xs ys : List Reply) → cond b (r ∷ (xs ++ ys)) (xs ++ ys) ≡ cond b (r ∷ xs) xs ++ ys
cond_more true r xs ys = refl
cond_more false r xs ys = refl

put_more : (k : ℕ) (turns more : List Turn) → put_for k (turns ++ more) ≡ put_for k turns ++ put_for k more
put_more k [] more = refl
put_more k (Dropped t ∷ turns) more = put_more k turns more
put_more k (Put r ∷ turns) more =
    ap (λ l. cond (r.order.loop_no == k) (r ∷ l) l) (put_more k turns more) ∙ cond_more (r.order.loop_no == k) r (put_for k turns) (put_for k more)
put_more k (GivenUp r ∷ turns) more = put_more k turns more

same_test : (a b : ℕ) → a ≡ b → (a == b) ≡ true
same_test a b e = grind (arith, nat_tests)

other_test : (a b : ℕ) → a ≢ b → (a == b) ≡ false
other_test a b e = grind (arith, nat_tests)

module _ {J : Type 0} (ticket : J → Ticket) where
  pub no_turns : (pass : PassView J) (seat : WorkerView) → TookTurns ticket [] pass pass seat seat
  no_turns pass seat =
      record {
        names = [];
        jobs = ap (λ l. record pass.jobs { taken = l }) (sym (append-nil pass.jobs.taken));
        tickets = refl;
        started = sym (append-nil seat.started);
        put = λ k h e. e ∙ ap (λ l. Some (record h { given = l })) (sym (append-nil h.given));
      }

  -- what is put for each loop in one turn
  abbrev pub PutsFor : (turn : Turn) → (old new : PassView J) → Type 0
  PutsFor turn old new = (k : ℕ) (h : HandView Reply) → slice_get old.replies k ≡ Some h → slice_get new.replies k ≡ Some (record h { given = h.given ++ put_for k (turn ∷ []) })

  one_turn : (turns : List Turn) (old mid new : PassView J) (before between after : WorkerView) (turn : Turn) → TookTurns ticket turns old mid before between
      → (name : Named J) → new.jobs ≡ record mid.jobs { taken = mid.jobs.taken ++ name ∷ [] } → ticket name.item ≡ ticket_in turn
      → after.started ≡ between.started ++ started_by (turn ∷ []) → PutsFor turn mid new
      → TookTurns ticket (turns ++ turn ∷ []) old new before after
  one_turn turns old mid new before between after turn T name jobs of started put =
      record {
        names = T.names ++ name ∷ [];
        jobs = jobs ∙ ap (λ (h : HandView J). record h { taken = h.taken ++ name ∷ [] }) T.jobs ∙ ap (λ l. record old.jobs { taken = l }) (append_assoc old.jobs.taken T.names (name ∷ []));
        tickets = map-append (λ (n : Named J). ticket n.item) T.names (name ∷ []) ∙ ap (λ l. l ++ ticket name.item ∷ []) T.tickets ∙ ap (λ t. map ticket_in turns ++ t ∷ []) of
            ∙ sym (map-append ticket_in turns (turn ∷ []));
        started = started ∙ ap (λ l. l ++ started_by (turn ∷ [])) T.started ∙ append_assoc before.started (started_by turns) (started_by (turn ∷ []))
            ∙ ap (λ l. before.started ++ l) (sym (started_more turns (turn ∷ [])));
        put =
            λ k h e.
            put k (record h { given = h.given ++ put_for k turns }) (T.put k h e)
            ∙ ap (λ l. Some (record h { given = l })) (append_assoc h.given (put_for k turns) (put_for k (turn ∷ [])) ∙ ap (λ l. h.given ++ l) (sym (put_more k turns (turn ∷ []))));
      }

  nothing_put : (turn : Turn) (old new : PassView J) → ((k : ℕ) → put_for k (turn ∷ []) ≡ []) → new.replies ≡ old.replies → PutsFor turn old new
  nothing_put turn old new none same k h e =
      ap (λ l. slice_get l k) same ∙ e ∙ ap (λ l. Some (record h { given = l })) (sym (append-nil h.given) ∙ ap (λ l. h.given ++ l) (sym (none k)))

  one_put : (old mid new : PassView J) (r : Reply) → mid.replies ≡ old.replies → Puts mid new r → PutsFor (Put r) old new
  one_put old mid new r same p k h e =
      let at : slice_get mid.replies k ≡ Some h = ap (λ l. slice_get l k) same ∙ e in
      let now : slice_get new.replies k ≡ slice_get (set mid.replies r.order.loop_no p.after) k = ap (λ l. slice_get l k) p.replies in
      ⊎_elim
      (λ (is : r.order.loop_no ≡ k).
      let here : slice_get mid.replies k ≡ Some p.before = subst (λ i. slice_get mid.replies i ≡ Some p.before) is p.was in
      let was : p.before ≡ h = same_Some p.before h (sym here ∙ at) in
      now ∙ ap (λ i. slice_get (set mid.replies i p.after) k) is ∙ set_there mid.replies k h p.after at
      ∙ ap (λ x. Some x) (p.did ∙ ap (λ (x : HandView Reply). record x { given = x.given ++ r ∷ [] }) was)
      ∙ ap (λ b. Some (record h { given = h.given ++ cond b (r ∷ []) [] })) (sym (same_test r.order.loop_no k is)))
      (λ (ne : r.order.loop_no ≢ k).
      now ∙ set_beside mid.replies r.order.loop_no k p.after (λ i. ne (sym i)) ∙ at
      ∙ ap (λ l. Some (record h { given = l })) (sym (append-nil h.given))
      ∙ ap (λ b. Some (record h { given = h.given ++ cond b (r ∷ []) [] })) (sym (other_test r.order.loop_no k ne)))
      (cases_eq r.order.loop_no k)

  -- after one turn of `work_one`; a reply that is stuck is given up
  pub did_more : (board : BoardView) (old mid new : PassView J) (before between after : WorkerView) (d : WorkerDid) → TookSome ticket old mid before between
      → DidSo ticket board mid new between after d → TookSome ticket old new before after
  did_more board old mid new before between after did.Nothing T h =
      (T.0, subst (λ p. TookTurns ticket T.0 old p before after) (sym h.0) (subst (λ s. TookTurns ticket T.0 old mid before s) (sym h.1) T.1))
  did_more board old mid new before between after (did.Dropped t) T h =
      let took = h.0.taken.jobs in (
        T.0 ++ Dropped t ∷ [],
        one_turn T.0 old mid new before between after (Dropped t) T.1 took.name took.taken (ap ticket took.item ∙ h.0.of_ticket)
            (ap (λ (s : WorkerView). s.started) h.1.noted ∙ sym (append-nil between.started))
            (nothing_put (Dropped t) mid new (λ k. refl) h.0.taken.replies),
      )
  did_more board old mid new before between after (did.Replied t) T h =
      let p = h.0 in
      let took = p.taken.taken.jobs in (
        T.0 ++ Put p.reply ∷ [],
        one_turn T.0 old mid new before between after (Put p.reply) T.1 took.name (p.put.jobs ∙ took.taken) (ap ticket took.item ∙ p.taken.of_ticket ∙ sym p.of_ticket)
            (ap (λ (s : WorkerView). s.started) h.1 ∙ ap (λ u. between.started ++ u ∷ []) (sym p.of_ticket))
            (one_put mid p.between new p.reply p.taken.taken.replies p.put),
      )
  did_more board old mid new before between after (did.Stuck r) T h =
      let took = h.0.taken.jobs in (
        T.0 ++ GivenUp r ∷ [],
        one_turn T.0 old mid new before between after (GivenUp r) T.1 took.name took.taken (ap ticket took.item ∙ h.0.of_ticket)
            (ap (λ (s : WorkerView). s.started) h.1) (nothing_put (GivenUp r) mid new (λ k. refl) h.0.taken.replies),
      )

  -- and where it was put, or not, after that
  pub stuck_more : (board : BoardView) (old mid stuck new : PassView J) (before between after : WorkerView) (r : Reply) → TookSome ticket old mid before between
      → DidSo ticket board mid stuck between after (did.Stuck r) → PutsOrNot stuck new r → TookSome ticket old new before after
  stuck_more board old mid stuck new before between after r T h put =
      let took = h.0.taken.jobs in
      ⊎_elim
      (λ (p : Puts stuck new r). (
        T.0 ++ Put r ∷ [],
        one_turn T.0 old mid new before between after (Put r) T.1 took.name (p.jobs ∙ took.taken) (ap ticket took.item ∙ h.0.of_ticket) (ap (λ (s : WorkerView). s.started) h.1)
            (one_put mid stuck new r h.0.taken.replies p),
      ))
      (λ (same : new ≡ stuck). subst (λ p. TookSome ticket old p before after) (sym same) (did_more board old mid stuck before between after (did.Stuck r) T h))
      put
