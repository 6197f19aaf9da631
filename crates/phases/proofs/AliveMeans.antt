-- A loop is alive exactly where a handle is active, a request is outstanding or a handle is closing.
use Rattle.phases.proofs.Words.{active_asyncs, active_from, All, ap, arith, Bool, cond, Contains, entry, eqb-true, false, inl, inr, is_active_handle, is_empty}
use Rattle.phases.proofs.Words.{is_handle, is_some, Kind, length, List, list_any, map, nat_le, ne_eqb, None, not, Option, option_and_then, option_map}
use Rattle.phases.proofs.Words.{option_map_or, or_right, Record, record_of, refl, Roster, RosterIsKept, same_kind, settled, slice_get, Some, State, subst, suc}
use Rattle.phases.proofs.Words.{sym, Table, true, ℕ, [], ◌&&◌, ◌++◌, ◌+◌, ◌-◌, ◌<◌, ◌||◌, ◌∙◌, ◌∷◌, ◌≡◌, ◌≢◌, ◌≤◌}
use Rattle.std.proofs.Common.{◌↔◌, IsTrue}
use Rattle.std.proofs.lemmas.Bool.{and_parts, or_cases, or_left, leb-true, leb-false}
use Rattle.std.proofs.lemmas.List.Elements.{All-contains}
use Rattle.std.proofs.lemmas.Option.{cond_some}
use Rattle.events.specs.declared.did.Hint.TheVariants.{Now, For}
use Rattle.handles.specs.declared.handle.Kind.TheVariants.{Timer, Idle, Check, Async}
use Rattle.handles.specs.declared.sorted.ListPlace.{ListPlace}
use Rattle.handles.specs.Table.{place_of, place_in, in_order, kind_list, nearest_due, listed}
use Rattle.handles.proofs.Dues.{first_is_least}
use Rattle.handles.proofs.Laws.{in_order-place, place-in_order}
use Rattle.phases.specs.PhaseList.{has_active, is_alive, HasActive, IsAlive, IsActive, HasActiveOf, IsNextDue, IsAtOnce, IsHint, until_due, hint_of}

filled : {X : Type 0} (xs : List X) → not (is_empty xs) ≡ true → xs ≢ []
filled [] h = absurd (cc)
filled (x ∷ xs) h = λ e. (cc)

is_filled : {X : Type 0} (xs : List X) → xs ≢ [] → not (is_empty xs) ≡ true
is_filled [] h = absurd (h refl)
is_filled (x ∷ xs) h = ap not (ne_eqb (suc (length xs)) 0 (λ e. omega (arith, e)))

map_none : {X Y : Type 0} (f : X → Y) (xs : List X) → map f xs ≡ [] → xs ≡ []
map_none f [] h = refl
map_none f (x ∷ xs) h = absurd (cc)

append_none : {X : Type 0} (xs ys : List X) → xs ++ ys ≡ [] → ys ≡ []
append_none [] ys h = h
append_none (x ∷ xs) ys h = absurd (cc)

the_same : (a b : Kind) → same_kind a b ≡ true → a ≡ b
the_same Timer Timer h = refl
the_same Idle Idle h = refl
the_same Check Check h = refl
the_same Async Async h = refl
the_same _ _ h = absurd (cc)

abbrev place_at : Kind → ℕ → Record → ListPlace
place_at k handle r = record { due = cond (same_kind k Timer) r.due 0; start = r.start; handle = handle }

-- what is listed is active
abbrev Placed : Kind → Table → ℕ → ListPlace → Type 0
Placed k t handle place = (r : Record) × IsActive t k handle r × (place_at k handle r ≡ place)

of_place : (k : Kind) (t : Table) (handle : ℕ) (place : ListPlace) → place_in k t.records handle ≡ Some place → Placed k t handle place
of_place k t handle place is = by (record_of t handle) refl is where
  by : (o : Option Record) → record_of t handle ≡ o → option_and_then (place_of k handle) o ≡ Some place → Placed k t handle place
  by None there e = absurd (cc)
  by (Some r) there e =
      let it = cond_some (r.active && same_kind r.kind k) (place_at k handle r) place e in
      let both = and_parts r.active (same_kind r.kind k) it.0 in
      (r, record { there = there; active = both.0; kind = the_same r.kind k both.1 }, it.1)

first_placed : (k : Kind) (t : Table) (p : ListPlace) (ps : List ListPlace) → in_order k t ≡ p ∷ ps → Placed k t p.handle p
first_placed k t p ps e = of_place k t p.handle p (in_order-place k t p (rw e (0, omega arith, refl)))

listed_of : (k : Kind) (t : Table) → in_order k t ≢ [] → HasActiveOf k t
listed_of k t some = by (in_order k t) refl where
  by : (xs : List ListPlace) → in_order k t ≡ xs → HasActiveOf k t
  by [] e = absurd (some e)
  by (p ∷ ps) e = let it = first_placed k t p ps e in (p.handle, it.0, it.1)

abbrev any_of : (k : Kind) (t : Table) → HasActiveOf k t → HasActive t
any_of k t h = record { handle = h.0; it = h.1; there = h.2.there; active = h.2.active }

listed_active : (k : Kind) (t : Table) → in_order k t ≢ [] → HasActive t
listed_active k t some = any_of k t (listed_of k t some)

-- and what is active is listed
is_listed : (k : Kind) (t : Table) (handle : ℕ) (r : Record) → record_of t handle ≡ Some r → r.active ≡ true → same_kind r.kind k ≡ true → Contains (in_order k t) (place_at k handle r)
is_listed k t handle r there active same =
    let place = place_at k handle r in
    let both : (r.active && same_kind r.kind k) ≡ true = ap (λ b. b && same_kind r.kind k) active ∙ same in
    let is : place_in k t.records handle ≡ Some place = ap (option_and_then (place_of k handle)) there ∙ ap (λ b. cond b (Some place) None) both in
    place-in_order k t place is

active_listed : (k : Kind) (t : Table) (handle : ℕ) (r : Record) → record_of t handle ≡ Some r → r.active ≡ true → same_kind r.kind k ≡ true → in_order k t ≢ []
active_listed k t handle r there active same none =
    let here = rw none at (is_listed k t handle r there active same) in
    omega (arith, here.1)

kind_active : (k : Kind) (t : Table) → not (is_empty (kind_list k t)) ≡ true → HasActive t
kind_active k t h = listed_active k t (λ none. filled (kind_list k t) h (ap (map entry) none))

active_kind : (k : Kind) (t : Table) (h : HasActive t) → same_kind h.it.kind k ≡ true → not (is_empty (kind_list k t)) ≡ true
active_kind k t h same = is_filled (kind_list k t) (λ none. active_listed k t h.handle h.it h.there h.active same (map_none entry (in_order k t) none))

first_due : (xs : List ListPlace) → is_some (option_map (λ (p : ListPlace). p.due) (slice_get xs 0)) ≡ true → xs ≢ []
first_due [] h = absurd (cc)
first_due (x ∷ xs) h = λ e. (cc)

has_first_due : (xs : List ListPlace) → xs ≢ [] → is_some (option_map (λ (p : ListPlace). p.due) (slice_get xs 0)) ≡ true
has_first_due [] h = absurd (h refl)
has_first_due (x ∷ xs) h = refl

-- the asyncs
active_of : (t : Table) (o : Option ℕ) → is_active_handle t o ≡ true → HasActive t
active_of t None e = absurd (cc)
active_of t (Some handle) e = by (record_of t handle) refl e where
  by : (r : Option Record) → record_of t handle ≡ r → option_map_or (λ x. x.active) r false ≡ true → HasActive t
  by None there on = absurd (cc)
  by (Some r) there on = record { handle = handle; it = r; there = there; active = on }

async_active : (t : Table) (n : ℕ) (hs : List (Option ℕ)) → active_from t n hs ≢ [] → HasActive t
async_active t n [] h = absurd (h refl)
async_active t n (o ∷ hs) h =
    elim (is_active_handle t o) as (λ b. is_active_handle t o ≡ b → (cond b (n ∷ []) [] ++ active_from t (n + 1) hs) ≢ [] → HasActive t) [
      | true ↦ λ e k. active_of t o e
      | false ↦ λ e k. async_active t (n + 1) hs k
    ] refl h

module _ (t : Table) (handle : ℕ) (r : Record) (there : record_of t handle ≡ Some r) (active : r.active ≡ true) where
  on_of : (o : Option ℕ) → is_handle handle o ≡ true → is_active_handle t o ≡ true
  on_of None e = absurd (cc)
  on_of (Some other) e =
      ap (λ h. option_map_or (λ x. x.active) (record_of t h) false) (eqb-true other handle e) ∙ ap (λ o. option_map_or (λ x. x.active) o false) there ∙ active

  active_async : (n : ℕ) (hs : List (Option ℕ)) → list_any (is_handle handle) hs ≡ true → active_from t n hs ≢ []
  active_async n [] h none = absurd (cc)
  active_async n (o ∷ hs) h none = elim (or_cases (is_handle handle o) (list_any (is_handle handle) hs) h) [
    | inl here ↦ (let k : n ∷ active_from t (n + 1) hs ≡ [] = rw (on_of o here) at none in cc)
    | inr later ↦ active_async (n + 1) hs later (append_none (cond (is_active_handle t o) (n ∷ []) []) (active_from t (n + 1) hs) none)
  ]

module _ (r : Roster) where
  any_active : has_active r ≡ true → HasActive r.handles
  any_active h = elim (or_cases (is_some (nearest_due r.handles)) _ h) [
    | inl timer ↦ listed_active Timer r.handles (first_due (in_order Timer r.handles) timer)
    | inr h ↦ elim (or_cases (not (is_empty (kind_list Idle r.handles))) _ h) [
      | inl idle ↦ kind_active Idle r.handles idle
      | inr h ↦ elim (or_cases (not (is_empty (kind_list Check r.handles))) _ h) [
        | inl check ↦ kind_active Check r.handles check
        | inr async ↦ async_active r.handles 0 r.asyncs (filled (active_asyncs r) async)
      ]
    ]
  ]

  of_kind : RosterIsKept r → (h : HasActive r.handles) → (k : Kind) → h.it.kind ≡ k → has_active r ≡ true
  of_kind kept h Timer e = or_left _ _ (has_first_due (in_order Timer r.handles) (active_listed Timer r.handles h.handle h.it h.there h.active (ap (λ k. same_kind k Timer) e)))
  of_kind kept h Idle e = or_right _ _ (or_left _ _ (active_kind Idle r.handles h (ap (λ k. same_kind k Idle) e)))
  of_kind kept h Check e = or_right _ _ (or_right _ _ (or_left _ _ (active_kind Check r.handles h (ap (λ k. same_kind k Check) e))))
  of_kind kept h Async e =
      or_right (is_some (nearest_due r.handles)) _ (or_right (not (is_empty (kind_list Idle r.handles))) _ (or_right (not (is_empty (kind_list Check r.handles))) _
      (is_filled (active_asyncs r) (active_async r.handles h.handle h.it h.there h.active 0 r.asyncs (kept.numbered h.handle h.it h.there e)))))

  is_any_active : RosterIsKept r → HasActive r.handles → has_active r ≡ true
  is_any_active kept h = of_kind kept h h.it.kind refl

alive_is : (s : State) → is_alive s ≡ true → IsAlive s
unfolding is_alive
alive_is s h = elim (or_cases (has_active s.roster) _ h) [
  | inl active ↦ inl (any_active s.roster active)
  | inr h ↦ elim (or_cases (not (is_empty s.requests.outstanding)) _ h) [
    | inl requests ↦ inr (inl (filled s.requests.outstanding requests))
    | inr closing ↦ inr (inr (filled s.roster.closing closing))
  ]
]

is_alive_by : (s : State) → RosterIsKept s.roster → IsAlive s → is_alive s ≡ true
unfolding is_alive
is_alive_by s kept (inl active) = or_left _ _ (is_any_active s.roster kept active)
is_alive_by s kept (inr (inl requests)) = or_right _ _ (or_left _ _ (is_filled s.requests.outstanding requests))
is_alive_by s kept (inr (inr closing)) = or_right _ _ (or_right _ _ (is_filled s.roster.closing closing))

pub alive_means : (s : State) → RosterIsKept s.roster → IsTrue (is_alive s) ↔ IsAlive s
alive_means s kept = (alive_is s, is_alive_by s kept)

-- the hint
kind_some : (k : Kind) (t : Table) → not (is_empty (kind_list k t)) ≡ true → HasActiveOf k t
kind_some k t h = listed_of k t (λ none. filled (kind_list k t) h (ap (map entry) none))

some_kind : (k : Kind) (t : Table) → HasActiveOf k t → not (is_empty (kind_list k t)) ≡ true
some_kind k t h = active_kind k t (any_of k t h) (ap (λ a. same_kind a k) h.2.kind ∙ own k) where
  own : (k : Kind) → same_kind k k ≡ true
  own Timer = refl
  own _ = refl

not_true : (b : Bool) → not b ≡ true → b ≡ true → ⊥
not_true true h e = (cc)
not_true false h e = (cc)

is_false : (b : Bool) → (b ≡ true → ⊥) → not b ≡ true
is_false true h = absurd (h refl)
is_false false h = refl

-- no active timer is earlier than the first of the list
no_earlier : (t : Table) (due : ℕ) → nearest_due t ≡ Some due → (other : ℕ) (r : Record) → IsActive t Timer other r → due ≤ r.due
no_earlier t due is other r timer =
    let least : All (λ (p : ListPlace). due ≤ p.due) (in_order Timer t) = rw is at (first_is_least (listed Timer t.records)) in
    All-contains (λ (p : ListPlace). due ≤ p.due) (in_order Timer t) (place_at Timer other r) least
    (is_listed Timer t other r timer.there timer.active (ap (λ a. same_kind a Timer) timer.kind))

next_due : (t : Table) (due : ℕ) → nearest_due t ≡ Some due → IsNextDue t due
next_due t due is = by (in_order Timer t) refl is where
  by : (xs : List ListPlace) → in_order Timer t ≡ xs → option_map (λ (p : ListPlace). p.due) (slice_get xs 0) ≡ Some due → IsNextDue t due
  by [] e h = absurd (cc)
  by (p ∷ ps) e h =
      let it = first_placed Timer t p ps e in
      let at : p.due ≡ due = cc in
      record { handle = p.handle; it = it.0; timer = it.1; is_due = ap (λ (q : ListPlace). q.due) it.2 ∙ at; least = no_earlier t due is }

no_timer : (t : Table) → nearest_due t ≡ None → HasActiveOf Timer t → ⊥
no_timer t none h =
    let first = has_first_due (in_order Timer t) (active_listed Timer t h.0 h.1 h.2.there h.2.active (ap (λ a. same_kind a Timer) h.2.kind)) in
    let it : is_some (nearest_due t) ≡ false = ap is_some none in
    (cc)

module _ (s : State) (kept : RosterIsKept s.roster) where
  abbrev at_once : Bool
  at_once =
      not (is_alive s) || (not (is_empty (kind_list Idle s.roster.handles)) || (not (is_empty s.roster.closing) || not (is_empty (settled s.requests))))

  is_at_once : at_once ≡ true → IsAtOnce s
  is_at_once h = elim (or_cases (not (is_alive s)) _ h) [
    | inl dead ↦ inl (λ alive. not_true (is_alive s) dead (is_alive_by s kept alive))
    | inr h ↦ elim (or_cases (not (is_empty (kind_list Idle s.roster.handles))) _ h) [
      | inl idle ↦ inr (inl (kind_some Idle s.roster.handles idle))
      | inr h ↦ elim (or_cases (not (is_empty s.roster.closing)) _ h) [
        | inl closing ↦ inr (inr (inl (filled s.roster.closing closing)))
        | inr done ↦ inr (inr (inr (filled (settled s.requests) done)))
      ]
    ]
  ]

  at_once_is : IsAtOnce s → at_once ≡ true
  at_once_is (inl dead) = or_left (not (is_alive s)) _ (is_false (is_alive s) (λ alive. dead (alive_is s alive)))
  at_once_is (inr (inl idle)) = or_right (not (is_alive s)) _ (or_left (not (is_empty (kind_list Idle s.roster.handles))) _ (some_kind Idle s.roster.handles idle))
  at_once_is (inr (inr (inl closing))) =
      or_right (not (is_alive s)) _ (or_right (not (is_empty (kind_list Idle s.roster.handles))) _ (or_left (not (is_empty s.roster.closing)) _ (is_filled s.roster.closing closing)))
  at_once_is (inr (inr (inr done))) =
      or_right (not (is_alive s)) _
      (or_right (not (is_empty (kind_list Idle s.roster.handles))) _
      (or_right (not (is_empty s.roster.closing)) _ (is_filled (settled s.requests) done)))

  not_at_once : at_once ≡ false → IsAtOnce s → ⊥
  not_at_once h at = (let it = at_once_is at in cc)

  due_at : (due : ℕ) (b : Bool) → nat_le due s.now ≡ b → (IsAtOnce s → ⊥) → IsNextDue s.roster.handles due → IsHint s (cond b Now (For (due - s.now)))
  due_at due true le later next = inr (due, next, leb-true due s.now le)
  due_at due false gt later next =
      let past : s.now < due = leb-false due s.now gt in
      let back : s.now + (due - s.now) ≡ due = omega (arith, past) in
      (later, omega (arith, past), subst (IsNextDue s.roster.handles) (sym back) next)

  until : (o : Option ℕ) → nearest_due s.roster.handles ≡ o → (IsAtOnce s → ⊥) → IsHint s (until_due o s.now)
  until None is later = (later, no_timer s.roster.handles is)
  until (Some due) is later = due_at due (nat_le due s.now) refl later (next_due s.roster.handles due is)

  hint_by : (b : Bool) → at_once ≡ b → IsHint s (cond b Now (until_due (nearest_due s.roster.handles) s.now))
  hint_by true is = inl (is_at_once is)
  hint_by false is = until (nearest_due s.roster.handles) refl (not_at_once is)

pub hint_means : (s : State) → RosterIsKept s.roster → IsHint s (hint_of s)
unfolding hint_of
hint_means s kept = hint_by s kept (at_once s kept) refl
