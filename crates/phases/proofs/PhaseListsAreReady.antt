-- The list of a phase is ready as the phase is entered.
use Rattle.phases.proofs.Words.{active_asyncs, active_from, All, All-weaker, ap, AreApart, AreClosing, AreKept, AreReady, AreRising, arith, async_handle}
use Rattle.phases.proofs.Words.{begin_list, Bool, codes, cond, Contents, Entry, eq-eqb, exports, false, find, first_list, get_or, handle_entry, has_number}
use Rattle.phases.proofs.Words.{in_table, is_active_handle, is_settled, is_some, IsClosing, IsReady, IsSettledIn, List, list_any, map, ne_eqb, None, opening}
use Rattle.phases.proofs.Words.{Option, phase_entered, refl, Request, Requests, Roster, RosterIsKept, settled, slice_get, Some, Spares, State, subst, suc, sym}
use Rattle.phases.proofs.Words.{Table, true, ℕ, [], ◌++◌, ◌+◌, ◌<◌, ◌==◌, ◌∙◌, ◌∷◌, ◌≡◌, ◌≢◌}
use Rattle.std.proofs.lemmas.List.Elements.{All-nil, All-cons, All-append, All-map, All-filter, filter_passes}
use Rattle.std.proofs.lemmas.List.Kept.{AllPairs-cons}
use Rattle.handles.specs.declared.handle.Kind.TheVariants as kind
use Rattle.handles.specs.Table.{due_list, kind_list}
use Rattle.events.specs.declared.phase.Phase.{Phase}
use Rattle.events.specs.declared.phase.Phase.TheVariants.{Begin, Timers, Idle, Poll, Check, Closing}
use Rattle.phases.specs.declared.entry.Entry.TheVariants as entry
use Rattle.phases.proofs.RequestsRise.{number_of, rising_filter}
use Rattle.phases.proofs.RosterKeeps.{choose, both_false}
use Rattle.phases.proofs.GuestCallsKeepListed.{IsSettledOne}

-- entries that spare whatever is behind them
abbrev SparesAll : Entry → Type 0
SparesAll e = (other : Entry) → Spares e other

free_apart : (es : List Entry) → All SparesAll es → AreApart es
free_apart es all i j d below within = all i d (omega arith) (get_or es j d)

none_listed : (m : Contents) (s : State) → s.list ≡ [] → AreReady m s
none_listed m s none = record {
  ready = subst (All (IsReady m s)) (sym none) (All-nil (IsReady m s));
  apart = subst AreApart (sym none) (free_apart [] (All-nil SparesAll));
}

-- requests are found by their numbers, which rise
above : (low high : ℕ) (xs : List Request) → AreRising low (map number_of xs) high → All (λ r. low < number_of r) xs
above low high [] rising = All-nil (λ r. low < number_of r)
above low high (x ∷ xs) rising =
    All-cons (λ r. low < number_of r) x xs rising.0
    (All-weaker (λ r. number_of x < number_of r) (λ r. low < number_of r) (λ r h. (let first = rising.0 in omega arith)) xs (above (number_of x) high xs rising.1))

abbrev pub IsFoundIn : List Request → Request → Type 0
IsFoundIn xs r = find (has_number (number_of r)) xs ≡ Some r

pub found_by_number : (low high : ℕ) (xs : List Request) → AreRising low (map number_of xs) high → All (IsFoundIn xs) xs
found_by_number low high [] rising = All-nil (IsFoundIn [])
found_by_number low high (x ∷ xs) rising =
    let rest = found_by_number (number_of x) high xs rising.1 in
    let higher = above (number_of x) high xs rising.1 in
    All-cons (IsFoundIn (x ∷ xs)) x xs
    (ap (λ b. cond b (Some x) (find (has_number (number_of x)) xs)) (eq-eqb (number_of x) (number_of x) refl))
    (λ k d within.
    (let r = get_or xs k d in
    let more : number_of x < number_of r = higher k d within in
    ap (λ b. cond b (Some x) (find (has_number (number_of r)) xs)) (ne_eqb (number_of x) (number_of r) (λ same. omega arith)) ∙ rest k d within))

settled_found : (rs : Requests) → AreKept rs → All (λ r. IsSettledIn rs (number_of r)) (settled rs)
settled_found rs kept =
    let found = All-filter (λ r. is_settled r.stage) (IsFoundIn rs.outstanding) rs.outstanding (found_by_number 0 rs.last rs.outstanding kept.rising) in
    let passes = filter_passes (λ r. is_settled r.stage) rs.outstanding in
    λ k d within. subst IsSettledOne (sym (found k d within)) (passes k d within)

-- each async that is listed has its handle
abbrev HasHandle : List (Option ℕ) → ℕ → ℕ → Type 0
HasHandle xs from n = (k : ℕ) × (n ≡ from + k) × (is_some (in_table (slice_get xs k)) ≡ true)

active_some : (t : Table) (x : Option ℕ) → is_active_handle t x ≡ true → is_some x ≡ true
active_some t None h = absurd (cc)
active_some t (Some handle) h = refl

asyncs_there : (t : Table) (from : ℕ) (xs : List (Option ℕ)) → All (HasHandle xs from) (active_from t from xs)
asyncs_there t from [] = All-nil (HasHandle [] from)
asyncs_there t from (x ∷ xs) =
    let P = HasHandle (x ∷ xs) from in
    All-append P (cond (is_active_handle t x) (from ∷ []) []) (active_from t (from + 1) xs)
    (choose (All P) (is_active_handle t x) (from ∷ []) []
    (λ active. All-cons P from [] (0, omega arith, active_some t x active) (All-nil P))
    (λ _. All-nil P))
    (All-weaker (HasHandle xs (from + 1)) P (λ n h. (suc h.0, (let is = h.1 in omega arith), h.2)) (active_from t (from + 1) xs) (asyncs_there t (from + 1) xs))

-- settled requests spare one another
poll_apart : (low high : ℕ) (xs : List Request) (asyncs : List ℕ) → AreRising low (map number_of xs) high → AreApart (map (λ r. entry.After r.order.request) xs ++ map (λ a. entry.Async a) asyncs)
poll_apart low high [] asyncs rising =
    free_apart (map (λ a. entry.Async a) asyncs) (All-map SparesAll (λ a. entry.Async a) asyncs (λ k d within other. tt))
poll_apart low high (x ∷ xs) asyncs rising =
    let P = Spares (entry.After (number_of x)) in
    AllPairs-cons Spares (entry.After (number_of x)) (map (λ r. entry.After r.order.request) xs ++ map (λ a. entry.Async a) asyncs)
    (All-append P (map (λ r. entry.After r.order.request) xs) (map (λ a. entry.Async a) asyncs)
    (All-map P (λ r. entry.After r.order.request) xs
    (All-weaker (λ r. number_of x < number_of r) (λ r. number_of x ≢ number_of r) (λ r more same. omega arith) xs (above (number_of x) high xs rising.1)))
    (All-map P (λ a. entry.Async a) asyncs (λ k d within. tt)))
    (poll_apart (number_of x) high xs asyncs rising.1)

-- closing handles spare one another
others_apart : (x : ℕ) (xs : List ℕ) → list_any (λ other. other == x) xs ≡ false → All (λ other. x ≢ other) xs
others_apart x [] h = All-nil (λ other. x ≢ other)
others_apart x (y ∷ ys) h =
    let each = both_false (y == x) (list_any (λ other. other == x) ys) h in
    All-cons (λ other. x ≢ other) y ys (λ same. (let e = eq-eqb y x (sym same) in let f = each.0 in cc)) (others_apart x ys each.1)

closing_there : (t : Table) (xs : List ℕ) → AreClosing t xs → All (IsClosing t) xs
closing_there t [] all = All-nil (IsClosing t)
closing_there t (x ∷ xs) all = All-cons (IsClosing t) x xs all.0 (closing_there t xs all.2)

closing_apart : (t : Table) (xs : List ℕ) → AreClosing t xs → AreApart (map (λ handle. entry.Close handle) xs)
closing_apart t [] all = free_apart [] (All-nil SparesAll)
closing_apart t (x ∷ xs) all =
    AllPairs-cons Spares (entry.Close x) (map (λ handle. entry.Close handle) xs)
    (All-map (Spares (entry.Close x)) (λ handle. entry.Close handle) xs (others_apart x xs all.1))
    (closing_apart t xs all.2)

-- each phase
module _ (m : Contents) (s : State) (kept : RosterIsKept s.roster) (requests_kept : AreKept s.requests) where
  pub ready_entered : (phase : Phase) → AreReady m (phase_entered s phase)
  ready_entered Begin = none_listed m (phase_entered s Begin) refl
  ready_entered Timers =
      let es = due_list s.roster.handles s.clock in
      record {
        ready = All-map (IsReady m (phase_entered s Timers)) (handle_entry kind.Timer) es (λ k d within. tt);
        apart = free_apart (map (handle_entry kind.Timer) es) (All-map SparesAll (handle_entry kind.Timer) es (λ k d within other. tt));
      }
  ready_entered Idle =
      let es = kind_list kind.Idle s.roster.handles in
      record {
        ready = All-map (IsReady m (phase_entered s Idle)) (handle_entry kind.Idle) es (λ k d within. tt);
        apart = free_apart (map (handle_entry kind.Idle) es) (All-map SparesAll (handle_entry kind.Idle) es (λ k d within other. tt));
      }
  ready_entered Poll =
      let P = IsReady m (phase_entered s Poll) in
      record {
        ready =
            All-append P (map (λ r. entry.After r.order.request) (settled s.requests)) (map (λ a. entry.Async a) (active_asyncs s.roster))
            (All-map P (λ r. entry.After r.order.request) (settled s.requests) (settled_found s.requests requests_kept))
            (All-map P (λ a. entry.Async a) (active_asyncs s.roster)
            (All-weaker (HasHandle s.roster.asyncs 0) (λ a. is_some (async_handle s.roster a) ≡ true) numbered (active_asyncs s.roster) (asyncs_there s.roster.handles 0 s.roster.asyncs)));
        apart = poll_apart 0 s.requests.last (settled s.requests) (active_asyncs s.roster) (rising_filter (λ r. is_settled r.stage) 0 s.requests.last s.requests.outstanding requests_kept.rising);
      } where
        numbered : (n : ℕ) → HasHandle s.roster.asyncs 0 n → is_some (async_handle s.roster n) ≡ true
        numbered n h = let same : n ≡ h.0 = (let is = h.1 in omega arith) in ap (λ k. is_some (async_handle s.roster k)) same ∙ h.2
  ready_entered Check =
      let es = kind_list kind.Check s.roster.handles in
      record {
        ready = All-map (IsReady m (phase_entered s Check)) (handle_entry kind.Check) es (λ k d within. tt);
        apart = free_apart (map (handle_entry kind.Check) es) (All-map SparesAll (handle_entry kind.Check) es (λ k d within other. tt));
      }
  ready_entered Closing = record {
    ready = All-map (IsReady m (phase_entered s Closing)) (λ handle. entry.Close handle) s.roster.closing (closing_there s.roster.handles s.roster.closing kept.closing_handles);
    apart = closing_apart s.roster.handles s.roster.closing kept.closing_handles;
  }

-- the first phase
module _ (m : Contents) (s : State) where
  ready_first : (start main : Bool) → (start ≡ true → is_some m.start ≡ true) → (main ≡ true → exports m (codes "uv_main") ≡ true) → All (IsReady m s) (first_list start main)
  ready_first start main starts mains =
      let P = IsReady m s in
      All-append P (cond start (entry.Start ∷ []) []) (cond main (entry.Main ∷ []) [])
      (choose (All P) start (entry.Start ∷ []) [] (λ h. All-cons P entry.Start [] (starts h) (All-nil P)) (λ _. All-nil P))
      (choose (All P) main (entry.Main ∷ []) [] (λ h. All-cons P entry.Main [] (mains h) (All-nil P)) (λ _. All-nil P))

free_first : (start main : Bool) → All SparesAll (first_list start main)
free_first start main =
    All-append SparesAll (cond start (entry.Start ∷ []) []) (cond main (entry.Main ∷ []) [])
    (choose (All SparesAll) start (entry.Start ∷ []) [] (λ _. All-cons SparesAll entry.Start [] (λ other. tt) (All-nil SparesAll)) (λ _. All-nil SparesAll))
    (choose (All SparesAll) main (entry.Main ∷ []) [] (λ _. All-cons SparesAll entry.Main [] (λ other. tt) (All-nil SparesAll)) (λ _. All-nil SparesAll))

pub ready_opening : (m : Contents) (roster : Roster) → AreReady m (opening roster (begin_list m))
ready_opening m roster = record {
  ready = ready_first m (opening roster (begin_list m)) (is_some m.start) (exports m (codes "uv_main")) (λ h. h) (λ h. h);
  apart = free_apart (begin_list m) (free_first (is_some m.start) (exports m (codes "uv_main")));
}
