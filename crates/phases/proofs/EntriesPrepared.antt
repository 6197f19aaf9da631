-- What an entry of a list comes to before its callback runs.
use Rattle.phases.proofs.Words.{after_again, AfterWork, async_handle, Calls, CallsHandle, codes, Completion, completion_of, EntryKind, EntryStep}
use Rattle.phases.proofs.Words.{ExportsFunction, false, GuestCall, handle_function, I32, in_state, is_active_handle, is_as_listed, Kind, List, Loop, MatchBool}
use Rattle.phases.proofs.Words.{MatchOption, ne_eqb, None, Prepared, Prepares, refl, request_of, Roster, RunsFrom, Setting, sharing, Skips, Some, State}
use Rattle.phases.proofs.Words.{StepDid, true, with_handles, with_requests, with_roster, without_handle, without_request, ℕ, [], ◌==◌, ◌∷◌, ◌≡◌}
use Rattle.handles.specs.declared.handle.Kind.TheVariants as handle_kind
use Rattle.events.specs.declared.phase.EntryKind.TheVariants as kind
use Rattle.phases.specs.declared.callback.Prepared.TheVariants.{Did}
use Rattle.phases.specs.declared.did.BareDid.TheVariants.{Skipped}
use Rattle.phases.specs.declared.entry.Entry.TheVariants as entry
use Rattle.phases.proofs.LoopsKeep.{called, told_of}
use Rattle.phases.proofs.Prepared.{unread}

module _ {S : Type 0} (calls : Calls S) (g : Setting) (old : Loop S) where
  abbrev Of : StepDid → List GuestCall → Loop S → Loop S → EntryKind → (number function : ℕ) → Type 0
  Of did made new mid k number function = RunsFrom calls g mid k number function (I32 number ∷ []) None did made new

  -- the callback of a handle, from a loop of which this is the state
  handle_runs : (r : Roster) (k : EntryKind) (handle f : ℕ) (mid : Loop S) (u : State) → handle_function r handle ≡ Some f → u ≡ mid.state
      → (did : StepDid) (made : List GuestCall) (new : Loop S) → Of did made new (in_state mid u) k handle f → CallsHandle calls g mid r k handle did made new
  handle_runs r k handle f mid u is e did made new run = called (handle_function r handle) f (λ n. Of did made new mid k handle n) is (rw e at run)

  pub main_step : (f : ℕ) (p : Prepared) → ExportsFunction g.loaded.contents (codes "uv_main") f → p ≡ unread kind.Main 0 f []
      → Prepares calls g (EntryStep calls g old entry.Main) p old
  main_step f p exported e = rw e (λ did made new run. (f, exported, run))

  module _ (handle start : ℕ) where
    abbrev fired : State
    fired = with_roster old.state (with_handles old.state.roster (after_again old.state.roster.handles handle old.state.now))

    pub timer_step : (f : ℕ) (p : Prepared) (u : State) → is_as_listed handle_kind.Timer old.state.roster handle start ≡ true
        → handle_function old.state.roster handle ≡ Some f → u ≡ fired → p ≡ unread kind.Timer handle f (I32 handle ∷ [])
        → Prepares calls g (EntryStep calls g old (entry.Timer handle start)) p (in_state old u)
    timer_step f p u listed is e ep =
        rw ep (λ did made new run. rw listed (handle_runs old.state.roster kind.Timer handle f (in_state old fired) u is e did made new run))

    module _ (listed : Kind) (k : EntryKind) where
      abbrev pub listed_entry : StepDid → List GuestCall → Loop S → Type 0
      listed_entry did made new =
          MatchBool (is_as_listed listed old.state.roster handle start) (CallsHandle calls g old old.state.roster k handle did made new) (Skips calls g old k handle did made new)

      pub listed_step : (f : ℕ) (p : Prepared) → is_as_listed listed old.state.roster handle start ≡ true → handle_function old.state.roster handle ≡ Some f
          → p ≡ unread k handle f (I32 handle ∷ []) → Prepares calls g listed_entry p old
      listed_step f p on is ep = rw ep (λ did made new run. rw on (handle_runs old.state.roster k handle f old old.state is refl did made new run))

  pub close_step : (handle f : ℕ) (p : Prepared) (u : State) → handle_function old.state.roster handle ≡ Some f
      → u ≡ with_roster old.state (without_handle old.state.roster handle) → p ≡ unread kind.Close handle f (I32 handle ∷ [])
      → Prepares calls g (EntryStep calls g old (entry.Close handle)) p (in_state old u)
  close_step handle f p u is e ep =
      rw ep (handle_runs old.state.roster kind.Close handle f (in_state old (with_roster old.state (without_handle old.state.roster handle))) u is e)

  module _ (number : ℕ) where
    abbrev removed : State
    removed = with_requests old.state (without_request old.state.requests number)

    pub after_step : (f : ℕ) (t : Completion) (u : State) → ExportsFunction g.loaded.contents (codes "uv_after_work") f
        → MatchOption (request_of old.state.requests number) ⊥ (λ r. completion_of r.stage ≡ Some t) → u ≡ removed
        → (did : StepDid) (made : List GuestCall) (new : Loop S)
        → RunsFrom calls g (in_state old u) kind.After number f (I32 number ∷ I32 t.kind ∷ I32 t.code ∷ []) (Some t.bytes) did made new
        → EntryStep calls g old (entry.After number) did made new
    after_step f t u exported told e did made new run =
        told_of (request_of old.state.requests number) t (λ x. AfterWork calls g old number x did made new) told (f, exported, rw e at run)

  module _ (async_no handle : ℕ) (is : async_handle old.state.roster async_no ≡ Some handle) where
    abbrev whole : StepDid → List GuestCall → Loop S → Type 0
    whole = EntryStep calls g old (entry.Async async_no)

    pub async_step : (f count : ℕ) (shared : S) (p : Prepared) → is_active_handle old.state.roster.handles (Some handle) ≡ true
        → handle_function old.state.roster handle ≡ Some f → calls.takes old.shared async_no count shared → (count ≡ 0 → ⊥)
        → p ≡ unread kind.Async handle f (I32 handle ∷ []) → Prepares calls g whole p (sharing old shared)
    async_step f count shared p on known takes more ep =
        let some : (count == 0) ≡ false = ne_eqb count 0 more in
        rw ep (λ did made new run.
        rw (is, on) (count, shared, takes, rw some (handle_runs old.state.roster kind.Async handle f (sharing old shared) old.state known refl did made new run)))

    pub async_none : (count : ℕ) (shared : S) (p : Prepared) → is_active_handle old.state.roster.handles (Some handle) ≡ true
        → calls.takes old.shared async_no count shared → count ≡ 0 → p ≡ Did (Skipped kind.Async handle) → Prepares calls g whole p (sharing old shared)
    async_none count shared p on takes none ep = rw (ep, is, on) (count, shared, takes, rw none (refl, refl, refl))

    pub async_skipped : (p : Prepared) → is_active_handle old.state.roster.handles (async_handle old.state.roster async_no) ≡ false
        → p ≡ Did (Skipped kind.Async handle) → Prepares calls g whole p old
    async_skipped p off ep =
        let inactive : is_active_handle old.state.roster.handles (Some handle) ≡ false = rw is at off in
        rw (ep, is, inactive) (refl, refl, refl)
