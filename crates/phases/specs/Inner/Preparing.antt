-- What a step comes to before its callback runs.
use Rattle.std.specs.Prelude.{◌≡◌, false, List, [], ◌∷◌, All, drop}
use Rattle.std.specs.Option.{option_map}
use Rattle.syntax.specs.declared.contents.Contents.{Contents}
use Rattle.reduction.specs.Invoking.{TakesArguments, HasNoResults}
use Rattle.events.specs.declared.did.StepDid.{StepDid}
use Rattle.phases.specs.declared.callback.PreparedCallback.{PreparedCallback}
use Rattle.phases.specs.declared.callback.Prepared.{Prepared}
use Rattle.phases.specs.declared.callback.Prepared.TheVariants.{Did, Runs}
use Rattle.phases.specs.Bare.{whole_did}
use Rattle.phases.specs.Calls.{Calls}
use Rattle.phases.specs.Fitting.{IsShort}
use Rattle.phases.specs.Guests.{GuestCall}
use Rattle.phases.specs.Ready.{IsReady, Spares}
use Rattle.phases.specs.declared.entry.Entry.{Entry}
use Rattle.phases.specs.declared.entry.Status.{Status}
use Rattle.phases.specs.Outside.{is_failed}
use Rattle.phases.specs.State.{Setting, Loop}
use Rattle.phases.specs.Step.{RunsFrom, RanNone, in_state}

-- a function of the module that takes the arguments, has no results, and may read few bytes
pub record CanCallBack (m : Contents) (c : PreparedCallback) : Type 0 where
  pub takes : TakesArguments m c.function c.args
  pub bare : HasNoResults m c.function
  pub short : IsShort (option_map (λ v. v.items) c.reply)

-- No callback ran; or this one can run.
abbrev pub CanRunIn : Contents → Prepared → Type 0
CanRunIn m (Did did) = RanNone (whole_did did)
CanRunIn m (Runs c) = CanCallBack m c

-- a callback runs only on a loop that has not failed
abbrev pub RunsUnfailed : Prepared → Status → Type 0
RunsUnfailed (Did did) status = Unit {0}
RunsUnfailed (Runs c) status = is_failed status ≡ false

module _ {S : Type 0} (calls : Calls S) (g : Setting) where
  -- from this loop the callback runs
  abbrev pub RunsCallback : Loop S → PreparedCallback → StepDid → List GuestCall → Loop S → Type 0
  RunsCallback mid c did made new = RunsFrom calls g mid c.kind c.number c.function c.args (option_map (λ v. v.items) c.reply) did made new

  -- The step is over; or what the callback does from there is what the step does.
  abbrev pub Prepares : (step : StepDid → List GuestCall → Loop S → Type 0) → Prepared → Loop S → Type 0
  Prepares step (Did did) mid = step (whole_did did) [] mid
  Prepares step (Runs c) mid = (did : StepDid) (made : List GuestCall) (new : Loop S) → RunsCallback mid c did made new → step did made new

module _ {S : Type 0} where
  -- The entry is taken off the front of the list. What it names is there, and it takes away nothing that the rest needs.
  pub record LeavesFront (m : Contents) (old : Loop S) (e : Entry) (new : Loop S) : Type 0 where
    pub front : old.state.list ≡ e ∷ drop 1 old.state.list
    pub left : new ≡ in_state old (record old.state { list = drop 1 old.state.list })
    pub ready : IsReady m new.state e
    pub apart : All (Spares e) new.state.list
