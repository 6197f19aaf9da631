-- What a roster keeps as a handle is made, changed, closed or removed.
use Rattle.phases.proofs.Words.{after_again, ap, AreClosing, arith, Bool, cases_eq, cond, eq-eqb, false, filter, inl, inr, is_callback, is_handle, is_some}
use Rattle.phases.proofs.Words.{IsClosing, IsSomeAnd, Kind, length, List, list_any, list_any-append, map, MAX_HANDLES, ne_eqb, None, not, Option, or_right}
use Rattle.phases.proofs.Words.{Record, record_of, refl, Roster, RosterIsKept, same_kind, Some, subst, suc, sym, Table, true, unless_handle, with_async}
use Rattle.phases.proofs.Words.{with_handles, with_made, without_handle, zero, ℕ, [], ◌++◌, ◌+◌, ◌-◌, ◌<◌, ◌==◌, ◌||◌, ◌∙◌, ◌∷◌, ◌≡◌, ◌≢◌, ◌≤◌, ◌⊎◌}
use Rattle.std.specs.Cmp.{nat_cmp_total, unsigned_tied}
use Rattle.std.specs.Ordering.{nat_cmp}
use Rattle.std.specs.FinMap as finite
use Rattle.std.specs.FinMap.{FinMap}
use Rattle.handles.specs.declared.handle.Kind.TheVariants as kind
use Rattle.handles.specs.Table.{IsOpen, new_record, with_record, with_started, saturated, stopped, closed, after_start, after_stop, after_close, after_remove}
use Rattle.phases.specs.Fitting.{has_duty}

pub choose : {X : Type 0} (P : X → Type 0) (b : Bool) (x y : X) → (b ≡ true → P x) → (b ≡ false → P y) → P (cond b x y)
choose P true x y f g = f refl
choose P false x y f g = g refl

pub some_of : (o : Option Record) (P : Record → Type 0) → IsSomeAnd o P → (r : Record) × (o ≡ Some r) × P r
some_of None P h = absurd h
some_of (Some r) P h = (r, refl, h)

not_duty : (a b c : Bool) → b ≡ false → (a || (not b || c)) ≡ true
not_duty true b c h = refl
not_duty false b c h = rw h refl

-- a record stands under a handle, in place of another or anew
module _ (t : Table) (handle : ℕ) (r' : Record) (n : ℕ) where
  abbrev pub changed : Table
  changed = record { records = finite.insert t.records handle r'; last_start = n }

  pub here_or_there : (other : ℕ) → ((other ≡ handle) × (record_of changed other ≡ Some r')) ⊎ ((other ≢ handle) × (record_of changed other ≡ record_of t other))
  here_or_there other =
      let got = finite.get-insert nat_cmp_total t.records handle r' other in
      elim (cases_eq other handle) [
        | inl here ↦ inl (here, got ∙ ap (λ b. cond b (Some r') (finite.get t.records other)) (unsigned_tied other handle ∙ eq-eqb other handle here))
        | inr apart ↦ inr (apart, got ∙ ap (λ b. cond b (Some r') (finite.get t.records other)) (unsigned_tied other handle ∙ ne_eqb other handle apart))
      ]

  pub still_closing : ((other : ℕ) → IsClosing t other → other ≡ handle → r'.closing ≡ true) → (other : ℕ) → IsClosing t other → IsClosing changed other
  still_closing closing other was = elim (here_or_there other) [
    | inl here ↦ rw here.1 (closing other was here.0)
    | inr there ↦ rw there.1 was
  ]

  all_still_closing : ((other : ℕ) → IsClosing t other → other ≡ handle → r'.closing ≡ true) → (others : List ℕ) → AreClosing t others → AreClosing changed others
  all_still_closing closing [] all = tt
  all_still_closing closing (other ∷ others) all = (still_closing closing other all.0, all.1, all_still_closing closing others all.2)

  -- the changed roster, with what it has of the asyncs and the closing handles
  module _ (old : Roster) (is : old.handles ≡ t) (asyncs : List (Option ℕ)) (closings : List ℕ) where
    abbrev renewed : Roster
    renewed = record { handles = changed; asyncs = asyncs; closing = closings; callbacks = old.callbacks }

    pub kept_change : RosterIsKept old
        → finite.len (finite.insert t.records handle r') ≤ MAX_HANDLES
        → (has_duty r' ≡ true → is_callback old r'.callback ≡ true)
        → AreClosing changed closings
        → ((other : ℕ) → list_any (is_handle other) old.asyncs ≡ true → list_any (is_handle other) asyncs ≡ true)
        → (r'.kind ≡ kind.Async → list_any (is_handle handle) asyncs ≡ true)
        → RosterIsKept renewed
    kept_change kept few duty closing stays numbered = record {
      few = few;
      callbacks = λ other s got has. elim (here_or_there other) [
        | inl here ↦
            let same : r' ≡ s = cc in
            rw same at (duty (ap has_duty same ∙ has))
        | inr there ↦ kept.callbacks other s (ap (λ u. record_of u other) is ∙ sym there.1 ∙ got) has
      ];
      closing_handles = closing;
      numbered = λ other s got async. elim (here_or_there other) [
        | inl here ↦
            let same : r' ≡ s = cc in
            rw here.0 (numbered (ap (λ x. x.kind) same ∙ async))
        | inr there ↦ stays other (kept.numbered other s (ap (λ u. record_of u other) is ∙ sym there.1 ∙ got) async)
      ];
    }

-- how many there are
len_same : (m : FinMap nat_cmp Record) (handle : ℕ) (r r' : Record) → finite.get m handle ≡ Some r → finite.len (finite.insert m handle r') ≡ finite.len m
len_same m handle r r' is = finite.len-insert nat_cmp_total m handle r' ∙ ap (λ o. cond (is_some o) (finite.len m) (finite.len m + 1)) is

len_more : (m : FinMap nat_cmp Record) (handle : ℕ) (r' : Record) → finite.get m handle ≡ None → finite.len (finite.insert m handle r') ≡ finite.len m + 1
len_more m handle r' is = finite.len-insert nat_cmp_total m handle r' ∙ ap (λ o. cond (is_some o) (finite.len m) (finite.len m + 1)) is

-- a record of a handle that is there is changed, which keeps its kind and whether it is closing
pub kept_in_place : (old : Roster) (handle : ℕ) (r r' : Record) (n : ℕ) → RosterIsKept old → record_of old.handles handle ≡ Some r
    → r'.kind ≡ r.kind → r'.closing ≡ r.closing → (has_duty r' ≡ true → is_callback old r'.callback ≡ true)
    → RosterIsKept (with_handles old (record { records = finite.insert old.handles.records handle r'; last_start = n }))
kept_in_place old handle r r' n kept is same_kind same_closing duty =
    kept_change old.handles handle r' n old refl old.asyncs old.closing kept
    (rw (len_same old.handles.records handle r r' is) kept.few)
    duty
    (all_still_closing old.handles handle r' n
    (λ other was here. same_closing ∙ was_closing other was here)
    old.closing kept.closing_handles)
    (λ other h. h)
    (λ async. kept.numbered handle r is (sym same_kind ∙ async)) where
      was_closing : (other : ℕ) → IsClosing old.handles other → other ≡ handle → r.closing ≡ true
      was_closing other was here = rw (ap (record_of old.handles) here ∙ is) at was

-- stops and starts
pub kept_stop : (old : Roster) (handle : ℕ) → RosterIsKept old → IsOpen old.handles handle → RosterIsKept (with_handles old (after_stop old.handles handle))
kept_stop old handle kept there =
    let it = some_of (record_of old.handles handle) _ there in
    rw it.1
    (kept_in_place old handle it.0 (stopped it.0) old.handles.last_start kept it.1 refl refl
    (λ has. kept.callbacks handle it.0 it.1 (or_right it.0.active _ has)))

pub kept_start : (old : Roster) (handle callback due repeat : ℕ) → RosterIsKept old → IsOpen old.handles handle → is_callback old callback ≡ true
    → RosterIsKept (with_handles old (after_start old.handles handle callback due repeat))
kept_start old handle callback due repeat kept there good =
    let it = some_of (record_of old.handles handle) _ there in
    let r = it.0 in
    let n = saturated (old.handles.last_start + 1) in
    let started : Record = record r { callback = callback; due = due; repeat = repeat } in
    let active : Record = record started { active = true; start = n } in
    let P : Table → Type 0 = λ u. RosterIsKept (with_handles old u) in
    rw it.1
    (choose P _ old.handles (with_started old.handles handle started)
    (λ _. kept)
    (λ _. kept_in_place old handle r active n kept it.1 refl refl (λ _. good)))

pub kept_again : (old : Roster) (handle now : ℕ) → RosterIsKept old → IsOpen old.handles handle → RosterIsKept (with_handles old (after_again old.handles handle now))
kept_again old handle now kept there =
    let it = some_of (record_of old.handles handle) _ there in
    let r = it.0 in
    let n = saturated (old.handles.last_start + 1) in
    let started : Record = record r { due = saturated (now + r.repeat) } in
    let active : Record = record started { active = true; start = n } in
    let P : Table → Type 0 = λ u. RosterIsKept (with_handles old u) in
    rw it.1
    (choose P (r.start == 0) old.handles (cond (r.repeat == 0) (with_record old.handles handle (stopped r)) (with_started old.handles handle started))
    (λ e. kept)
    (λ e. (let good = kept.callbacks handle r it.1 (not_duty r.active (r.start == 0) r.closing e) in
    choose P (r.repeat == 0) (with_record old.handles handle (stopped r)) (with_started old.handles handle started)
    (λ _. kept_in_place old handle r (stopped r) old.handles.last_start kept it.1 refl refl (λ _. good))
    (λ _. kept_in_place old handle r active n kept it.1 refl refl (λ _. good)))))

-- a handle is made
pub closing_there : (t : Table) (handle other : ℕ) → record_of t handle ≡ None → IsClosing t other → other ≡ handle → ⊥
closing_there t handle other none was here =
    let it : IsSomeAnd None (λ (s : Record). s.closing ≡ true) = rw (ap (record_of t) here ∙ none) at was in it

pub kept_made : (old : Roster) (handle : ℕ) (k : Kind) → RosterIsKept old → record_of old.handles handle ≡ None → finite.len old.handles.records ≢ MAX_HANDLES → (k ≡ kind.Async → ⊥)
    → RosterIsKept (with_made k old handle)
kept_made old handle k kept none room other_kind =
    kept_change old.handles handle (new_record k) old.handles.last_start old refl old.asyncs old.closing kept
    (rw (len_more old.handles.records handle (new_record k) none) (let few = kept.few in omega arith))
    (λ has. absurd (cc))
    (all_still_closing old.handles handle (new_record k) old.handles.last_start (λ other was here. absurd (closing_there old.handles handle other none was here)) old.closing kept.closing_handles)
    (λ other h. h)
    (λ async. absurd (other_kind async))

here_is : (t : Table) (handle : ℕ) (r' : Record) (n : ℕ) → record_of (record { records = finite.insert t.records handle r'; last_start = n }) handle ≡ Some r'
here_is t handle r' n =
    finite.get-insert nat_cmp_total t.records handle r' handle ∙ ap (λ b. cond b (Some r') (finite.get t.records handle)) (unsigned_tied handle handle ∙ eq-eqb handle handle refl)

any_push : (other handle : ℕ) (asyncs : List (Option ℕ)) → list_any (is_handle other) asyncs ≡ true → list_any (is_handle other) (asyncs ++ Some handle ∷ []) ≡ true
any_push other handle asyncs h = list_any-append (is_handle other) asyncs (Some handle ∷ []) ∙ rw h refl

any_last : (handle : ℕ) (asyncs : List (Option ℕ)) → list_any (is_handle handle) (asyncs ++ Some handle ∷ []) ≡ true
any_last handle asyncs =
    list_any-append (is_handle handle) asyncs (Some handle ∷ []) ∙ rw (eq-eqb handle handle refl) (last (list_any (is_handle handle) asyncs)) where
      last : (b : Bool) → (b || (true || false)) ≡ true
      last true = refl
      last false = refl

-- an async is there before it is started
pub made_async_open : (t : Table) (handle : ℕ) → IsOpen (with_record t handle (new_record kind.Async)) handle
made_async_open t handle = rw (here_is t handle (new_record kind.Async) t.last_start) refl

pub kept_async : (old : Roster) (handle callback : ℕ) → RosterIsKept old → record_of old.handles handle ≡ None → finite.len old.handles.records ≢ MAX_HANDLES → is_callback old callback ≡ true
    → RosterIsKept (with_async callback old handle)
kept_async old handle callback kept none room good =
    let asyncs = old.asyncs ++ Some handle ∷ [] in
    let made : Roster = record { handles = with_record old.handles handle (new_record kind.Async); asyncs = asyncs; closing = old.closing; callbacks = old.callbacks } in
    let kept_first : RosterIsKept made =
    kept_change old.handles handle (new_record kind.Async) old.handles.last_start old refl asyncs old.closing kept
    (rw (len_more old.handles.records handle (new_record kind.Async) none) (let few = kept.few in omega arith))
    (λ has. absurd (cc))
    (all_still_closing old.handles handle (new_record kind.Async) old.handles.last_start
    (λ other was here. absurd (closing_there old.handles handle other none was here)) old.closing kept.closing_handles)
    (λ other h. any_push other handle old.asyncs h)
    (λ async. any_last handle old.asyncs) in
    kept_start made handle callback 0 0 kept_first (made_async_open old.handles handle) good

-- Handles that are there, each once, are no more than there are.
abbrev AreIn : FinMap nat_cmp Record → List ℕ → Type 0
AreIn m [] = Unit {0}
AreIn m (x ∷ xs) = (is_some (finite.get m x) ≡ true) × (list_any (λ other. other == x) xs ≡ false) × AreIn m xs

pub both_false : (a b : Bool) → (a || b) ≡ false → (a ≡ false) × (b ≡ false)
both_false true b h = absurd (cc)
both_false false b h = (refl, h)

still_in : (m : FinMap nat_cmp Record) (x : ℕ) (xs : List ℕ) → list_any (λ other. other == x) xs ≡ false → AreIn m xs → AreIn (finite.remove m x) xs
still_in m x [] apart all = tt
still_in m x (y ∷ ys) apart all =
    let each = both_false (y == x) (list_any (λ other. other == x) ys) apart in
    let got : finite.get (finite.remove m x) y ≡ finite.get m y = finite.get-remove nat_cmp_total m x y ∙ ap (λ b. cond b None (finite.get m y)) (unsigned_tied y x ∙ each.0) in
    (ap is_some got ∙ all.0, all.1, still_in m x ys each.1 all.2)

few_in : (m : FinMap nat_cmp Record) (xs : List ℕ) → AreIn m xs → length xs ≤ finite.len m
few_in m [] all = omega arith
few_in m (x ∷ xs) all =
    let less : finite.len (finite.remove m x) ≡ finite.len m - 1 = finite.len-remove nat_cmp_total m x ∙ ap (λ b. cond b (finite.len m - 1) (finite.len m)) all.0 in
    let rest = few_in (finite.remove m x) xs (still_in m x xs all.1 all.2) in
    let some : 0 < finite.len m = positive (finite.len m) refl in
    omega arith where
      positive : (n : ℕ) → finite.len m ≡ n → 0 < n
      positive zero e =
          let empty = finite.empty_of_len m e in
          let gone : finite.get m x ≡ None = ap (λ u. finite.get u x) empty ∙ finite.get-empty nat_cmp x in
          let held = all.0 in
          absurd (cc)
      positive (suc n) e = omega arith

closing_in : (t : Table) (xs : List ℕ) → AreClosing t xs → AreIn t.records xs
closing_in t [] all = tt
closing_in t (x ∷ xs) all =
    let it = some_of (record_of t x) _ all.0 in
    (ap is_some it.1, all.1, closing_in t xs all.2)

not_among : (t : Table) (handle : ℕ) (r : Record) → record_of t handle ≡ Some r → r.closing ≡ false → (xs : List ℕ) → AreClosing t xs → list_any (λ other. other == handle) xs ≡ false
not_among t handle r is open_one [] all = refl
not_among t handle r is open_one (x ∷ xs) all =
    let apart : x ≢ handle = λ here. (
    let it : IsSomeAnd (Some r) (λ s. s.closing ≡ true) = rw (ap (record_of t) here ∙ is) at all.0 in
    let closes : r.closing ≡ true = it in
    cc) in
    rw (ne_eqb x handle apart) (not_among t handle r is open_one xs all.2)

open_record : (t : Table) (handle : ℕ) → IsOpen t handle → (r : Record) × (record_of t handle ≡ Some r) × (r.closing ≡ false)
open_record t handle there = some_of (record_of t handle) _ there

-- there is room for one more closing handle
pub closing_room : (old : Roster) (handle : ℕ) → RosterIsKept old → IsOpen old.handles handle → length old.closing < MAX_HANDLES
closing_room old handle kept there =
    let it = open_record old.handles handle there in
    let apart = not_among old.handles handle it.0 it.1 it.2 old.closing kept.closing_handles in
    let all : AreIn old.handles.records (handle ∷ old.closing) = (ap is_some it.1, apart, closing_in old.handles old.closing kept.closing_handles) in
    let most : length (handle ∷ old.closing) ≤ finite.len old.handles.records = few_in old.handles.records (handle ∷ old.closing) all in
    let few = kept.few in
    omega arith

closing_push : (t : Table) (xs : List ℕ) (handle : ℕ) → AreClosing t xs → IsClosing t handle → list_any (λ other. other == handle) xs ≡ false → AreClosing t (xs ++ handle ∷ [])
closing_push t [] handle all it apart = (it, refl, tt)
closing_push t (x ∷ xs) handle all it apart =
    let each = both_false (x == handle) (list_any (λ other. other == handle) xs) apart in
    let alone : list_any (λ other. other == x) (xs ++ handle ∷ []) ≡ false =
    list_any-append (λ other. other == x) xs (handle ∷ []) ∙ rw (all.1, ne_eqb handle x (λ same. (let e = eq-eqb x handle (sym same) in let f = each.0 in cc))) refl in
    (all.0, alone, closing_push t xs handle all.2 it each.1)

pub kept_close : (old : Roster) (handle callback : ℕ) → RosterIsKept old → IsOpen old.handles handle → is_callback old callback ≡ true
    → RosterIsKept (record old { handles = after_close old.handles handle callback; closing = old.closing ++ handle ∷ [] })
kept_close old handle callback kept there good =
    let it = open_record old.handles handle there in
    let r = it.0 in
    let c : Record = closed r callback in
    let t = old.handles in
    let n = t.last_start in
    rw it.1
    (kept_change t handle c n old refl old.asyncs (old.closing ++ handle ∷ []) kept
    (rw (len_same t.records handle r c it.1) kept.few)
    (λ _. good)
    (closing_push (record { records = finite.insert t.records handle c; last_start = n }) old.closing handle
    (all_still_closing t handle c n (λ other was here. refl) old.closing kept.closing_handles)
    (rw (here_is t handle c n) refl)
    (not_among t handle r it.1 it.2 old.closing kept.closing_handles))
    (λ other h. h)
    (λ async. kept.numbered handle r it.1 async))

-- a closing handle is removed
module _ (t : Table) (handle : ℕ) where
  pub gone_or_same : (other : ℕ) → ((other ≡ handle) × (record_of (after_remove t handle) other ≡ None)) ⊎ ((other ≢ handle) × (record_of (after_remove t handle) other ≡ record_of t other))
  gone_or_same other =
      let got = finite.get-remove nat_cmp_total t.records handle other in
      elim (cases_eq other handle) [
        | inl here ↦ inl (here, got ∙ ap (λ b. cond b None (finite.get t.records other)) (unsigned_tied other handle ∙ eq-eqb other handle here))
        | inr apart ↦ inr (apart, got ∙ ap (λ b. cond b None (finite.get t.records other)) (unsigned_tied other handle ∙ ne_eqb other handle apart))
      ]

  left_any : (x : ℕ) (xs : List ℕ) → list_any (λ other. other == x) xs ≡ false → list_any (λ other. other == x) (filter (λ other. not (other == handle)) xs) ≡ false
  left_any x [] h = refl
  left_any x (y ∷ ys) h =
      let each = both_false (y == x) (list_any (λ other. other == x) ys) h in
      let rest = left_any x ys each.1 in
      elim (y == handle) as (λ b. list_any (λ other. other == x) (cond (not b) (y ∷ filter (λ other. not (other == handle)) ys) (filter (λ other. not (other == handle)) ys)) ≡ false) [
        | true ↦ rest
        | false ↦ rw each.0 rest
      ]

  pub left_closing : (others : List ℕ) → AreClosing t others → AreClosing (after_remove t handle) (filter (λ other. not (other == handle)) others)
  left_closing [] all = tt
  left_closing (other ∷ others) all =
      let rest = left_closing others all.2 in
      elim (gone_or_same other) [
        | inl here ↦ rw (eq-eqb other handle here.0) rest
        | inr same ↦
            rw (ne_eqb other handle same.0)
            (rw same.1 all.0, left_any other others all.1, rest)
      ]

still_numbered : (handle other : ℕ) (asyncs : List (Option ℕ)) → other ≢ handle → list_any (is_handle other) asyncs ≡ true → list_any (is_handle other) (map (unless_handle handle) asyncs) ≡ true
still_numbered handle other [] apart h = h
still_numbered handle other (None ∷ asyncs) apart h = still_numbered handle other asyncs apart h
still_numbered handle other (Some x ∷ asyncs) apart h =
    elim (cases_eq x other) [
      | inl here ↦ rw (ne_eqb x handle (λ e. apart (sym here ∙ e)), eq-eqb x other here) refl
      | inr different ↦
          let rest = still_numbered handle other asyncs apart (sym (ap (λ b. b || list_any (is_handle other) asyncs) (ne_eqb x other different)) ∙ h) in
          or_right (is_handle other (unless_handle handle (Some x))) _ rest
    ]

pub kept_remove : (old : Roster) (handle : ℕ) → RosterIsKept old → RosterIsKept (without_handle old handle)
kept_remove old handle kept = record {
  few = (
      let it = finite.len-remove nat_cmp_total old.handles.records handle in
      let few = kept.few in
      let P : ℕ → Type 0 = λ n. n ≤ MAX_HANDLES in
      subst P (sym it) (choose P (finite.contains_key old.handles.records handle) _ _ (λ _. omega arith) (λ _. few)));
  callbacks = λ other r got has. elim (gone_or_same old.handles handle other) [
    | inl here ↦ absurd (let none = here.1 in cc)
    | inr same ↦ kept.callbacks other r (sym same.1 ∙ got) has
  ];
  closing_handles = left_closing old.handles handle old.closing kept.closing_handles;
  numbered = λ other r got async. elim (gone_or_same old.handles handle other) [
    | inl here ↦ absurd (let none = here.1 in cc)
    | inr same ↦ still_numbered handle other old.asyncs same.0 (kept.numbered other r (sym same.1 ∙ got) async)
  ];
}

pub kept_empty : (callbacks : List (Option ℕ)) → RosterIsKept (record { handles = record { records = finite.empty; last_start = 0 }; asyncs = []; closing = []; callbacks = callbacks })
kept_empty callbacks = record {
  few = rw (finite.len-empty nat_cmp Record) (omega arith);
  callbacks = λ other r got has. absurd (let none = finite.get-empty {X = Record} nat_cmp other in cc);
  closing_handles = tt;
  numbered = λ other r got async. absurd (let none = finite.get-empty {X = Record} nat_cmp other in cc);
}
