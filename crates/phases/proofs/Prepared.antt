-- What a step comes to before its callback runs.
use Rattle.phases.proofs.Words.{Bool, Calls, Contents, Entry, EntryKind, EntryStep, false, GuestCall, HasNoResults, is_alive, List, Loop, may_end}
use Rattle.phases.proofs.Words.{None, not, Prepared, Prepares, RanNone, refl, Setting, State, Status, StepDid, subst, sym, TakesArguments, true, turn, Value}
use Rattle.phases.proofs.Words.{ℕ, ◌&&◌, ◌≡◌}
use Rattle.phases.specs.declared.callback.Prepared.TheVariants.{Did, Runs}
use Rattle.phases.specs.Inner.Preparing.{CanRunIn, LeavesFront, RunsUnfailed}
use Rattle.phases.specs.Outside.{is_failed}
use Rattle.phases.specs.Step.{ListStep}

-- a callback that may read nothing
abbrev pub unread : EntryKind → (number function : ℕ) → List Value → Prepared
unread kind number function args = Runs (record { kind = kind; number = number; function = function; args = args; reply = None })

module _ (kind : EntryKind) (number function : ℕ) (args : List Value) (p : Prepared) (is : p ≡ unread kind number function args) where
  pub fits : (m : Contents) → TakesArguments m function args → HasNoResults m function → CanRunIn m p
  fits m takes bare = subst (CanRunIn m) (sym is) (record { takes = takes; bare = bare; short = tt })

-- as a list is used up, no callback runs
pub turn_ran_none : (s : State) → RanNone (turn s).0
turn_ran_none s = by_end (may_end s.phase && not (is_alive s)) refl where
  by_end : (b : Bool) → (may_end s.phase && not (is_alive s)) ≡ b → RanNone (turn s).0
  by_end true e = rw e tt
  by_end false e = rw e tt

-- what may run on a loop that has not failed
pub runs_unfailed : (p : Prepared) (s : Status) → is_failed s ≡ false → RunsUnfailed p s
runs_unfailed (Did did) s h = tt
runs_unfailed (Runs c) s h = h

-- what an entry at the front does is what the step does
module _ {S : Type 0} (calls : Calls S) (g : Setting) {m : Contents} {old mid : Loop S} {e : Entry} (h : LeavesFront m old e mid) where
  pub by_front : (did : StepDid) (made : List GuestCall) (new : Loop S) → EntryStep calls g mid e did made new → ListStep calls g old old.state.list did made new
  by_front did made new step = rw h.front (rw h.left at step)

  pub prepared_by_front : (p : Prepared) (new : Loop S) → Prepares calls g (EntryStep calls g mid e) p new → Prepares calls g (ListStep calls g old old.state.list) p new
  prepared_by_front p new step = rw h.front (rw h.left at step)
