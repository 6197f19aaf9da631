-- What is listed stays ready as a loop grows, and as an entry is taken off the list and run.
use Rattle.phases.proofs.Words.{after_again, All, All-head, All-tail, All-weaker, ap, AreApart, AreReady, arith, async_handle, cond, Contents, Entry, eqb-true}
use Rattle.phases.proofs.Words.{false, filter, find, get_or, Grows, has_number, inl, inr, is_some, IsReady, List, ne_eqb, None, not, Option, refl, Request}
use Rattle.phases.proofs.Words.{Some, Spares, State, subst, suc, sym, true, with_handles, with_requests, with_roster, without_handle, without_request, ℕ, []}
use Rattle.phases.proofs.Words.{◌∙◌, ◌∷◌, ◌≡◌, ◌≢◌}
use Rattle.phases.specs.declared.entry.Entry.TheVariants as entry
use Rattle.phases.proofs.RosterKeeps.{gone_or_same}
use Rattle.phases.proofs.GuestCallsKeepListed.{IsSettledOne, grows_roster, holds_handles, again_closing}

known : (o : Option ℕ) → is_some o ≡ true → (n : ℕ) × (o ≡ Some n)
known None h = absurd (cc)
known (Some n) h = (n, refl)

still_ready : (m : Contents) (s t : State) → Grows s t → (e : Entry) → IsReady m s e → IsReady m t e
still_ready m s t grows entry.Start h = h
still_ready m s t grows entry.Main h = h
still_ready m s t grows (entry.After number) h = grows.settled number h
still_ready m s t grows (entry.Async async_no) h = let it = known (async_handle s.roster async_no) h in ap is_some (grows.asyncs async_no it.0 it.1)
still_ready m s t grows (entry.Close handle) h = grows.closing handle h
still_ready m s t grows _ h = tt

pub ready_on : (m : Contents) (s t : State) → Grows s t → AreReady m s → AreReady m t
ready_on m s t grows ready = record {
  ready = subst (All (IsReady m t)) (sym grows.list) (All-weaker (IsReady m s) (IsReady m t) (still_ready m s t grows) s.list ready.ready);
  apart = subst AreApart (sym grows.list) ready.apart;
}

-- an entry is taken off
relisted : (m : Contents) (s : State) (list : List Entry) (e : Entry) → IsReady m s e → IsReady m (record s { list = list }) e
relisted m s list entry.Start h = h
relisted m s list _ h = h

module _ (m : Contents) (s : State) (e : Entry) (rest : List Entry) (ready : AreReady m s) (is : s.list ≡ e ∷ rest) where
  all_ready : All (IsReady m s) (e ∷ rest)
  all_ready = subst (All (IsReady m s)) is ready.ready

  all_apart : AreApart (e ∷ rest)
  all_apart = subst AreApart is ready.apart

  -- it is ready
  pub ready_front : IsReady m (record s { list = rest }) e
  ready_front = relisted m s rest e (All-head (IsReady m s) e rest all_ready)

  -- it spares what is left
  pub spared_rest : All (Spares e) rest
  spared_rest k d within = all_apart 0 (suc k) d (omega arith) (omega arith)

  -- what is left is ready
  pub ready_rest : AreReady m (record s { list = rest })
  ready_rest = record {
    ready = All-weaker (IsReady m s) (IsReady m (record s { list = rest })) (relisted m s rest) rest (All-tail (IsReady m s) e rest all_ready);
    apart = λ i j d below within. all_apart (suc i) (suc j) d (omega arith) (omega arith);
  }

-- the request of an after-work callback is removed
found_without : (number n : ℕ) → number ≢ n → (xs : List Request) → find (has_number n) (filter (λ r. not (has_number number r)) xs) ≡ find (has_number n) xs
found_without number n apart [] = refl
found_without number n apart (x ∷ xs) =
    let rest = found_without number n apart xs in
    elim (has_number number x) as (λ b. has_number number x ≡ b
    → find (has_number n) (cond (not b) (x ∷ filter (λ r. not (has_number number r)) xs) (filter (λ r. not (has_number number r)) xs)) ≡ cond (has_number n x) (Some x) (find (has_number n) xs)) [
      | true ↦ λ e.
          let is : x.order.request ≡ number = eqb-true x.order.request number e in
          rest ∙ sym (ap (λ b. cond b (Some x) (find (has_number n) xs)) (ne_eqb x.order.request n (λ same. apart (sym is ∙ same))))
      | false ↦ λ e. ap (λ o. cond (has_number n x) (Some x) o) rest
    ] refl

module _ (m : Contents) (s : State) (number : ℕ) where
  abbrev after_removal : State
  after_removal = with_requests s (without_request s.requests number)

  spared_request : (e : Entry) → IsReady m s e → Spares (entry.After number) e → IsReady m after_removal e
  spared_request (entry.Timer handle start) h apart = tt
  spared_request (entry.Idle handle start) h apart = tt
  spared_request (entry.Check handle start) h apart = tt
  spared_request (entry.After n) h apart = subst IsSettledOne (sym (found_without number n apart s.requests.outstanding)) h
  spared_request _ h apart = h

  pub ready_without_request : AreReady m s → All (Spares (entry.After number)) s.list → AreReady m (with_requests s (without_request s.requests number))
  ready_without_request ready spared = record {
    ready = λ k d within. spared_request (get_or s.list k d) (ready.ready k d within) (spared k d within);
    apart = ready.apart;
  }

-- the closing handle is removed
module _ (m : Contents) (s : State) (handle : ℕ) where
  abbrev close_removal : State
  close_removal = with_roster s (without_handle s.roster handle)

  spared_handle : (e : Entry) → IsReady m s e → Spares (entry.Close handle) e → IsReady m close_removal e
  spared_handle (entry.Timer other start) h apart = tt
  spared_handle (entry.Idle other start) h apart = tt
  spared_handle (entry.Check other start) h apart = tt
  spared_handle (entry.Async async_no) h apart = absurd apart
  spared_handle (entry.Close other) h apart = elim (gone_or_same s.roster.handles handle other) [
    | inl here ↦ absurd (apart (sym here.0))
    | inr same ↦ rw same.1 h
  ]
  spared_handle _ h apart = h

  pub ready_without_handle : AreReady m s → All (Spares (entry.Close handle)) s.list → AreReady m (with_roster s (without_handle s.roster handle))
  ready_without_handle ready spared = record {
    ready = λ k d within. spared_handle (get_or s.list k d) (ready.ready k d within) (spared k d within);
    apart = ready.apart;
  }

-- a timer is stopped, or started again
pub grows_again : (s : State) (handle now : ℕ) → Grows s (with_roster s (with_handles s.roster (after_again s.roster.handles handle now)))
grows_again s handle now =
    grows_roster s (with_handles s.roster (after_again s.roster.handles handle now)) (holds_handles s.roster (after_again s.roster.handles handle now) (again_closing s.roster.handles handle now))
