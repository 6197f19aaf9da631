-- The steps of a turn in slices, one after the other.
use Rattle.wasmloop_c.proofs.Names.{ap, arith, Core, counted_on, Desk, desk_calls, Did, ends_turn, false, HeldLoop, inl, inr, length, List, LoopStage, NoneEnds}
use Rattle.wasmloop_c.proofs.Names.{OK, one_if, RAN, ran_in, refl, SliceEnd, Some, StepBegins, StepGoesOn, StepIsTaken, StepSlice, StepsNumbered, subst, sym}
use Rattle.wasmloop_c.proofs.Names.{TakesSteps, true, Turned, Turning, used_in, ℕ, [], ◌*◌, ◌+◌, ◌<◌, ◌==◌, ◌∙◌, ◌∷◌, ◌≡◌, ◌≤◌, ◌⊎◌}
use Rattle.limits.specs.declared.TheConstants.{MAX_BYTES}
use Rattle.interp.specs.declared.paused.TheConstants.{UNIT_BYTES}
use Rattle.events.specs.declared.did.StepDid.{StepDid}
use Rattle.events.specs.declared.did.StepDid.TheVariants as step_did
use Rattle.phases.specs.Step.{RanNone}
use Rattle.phases.specs.Underway.{StepInSlices, StepHasCome, used_by_step}
use Rattle.phases.specs.declared.slices.StepSlice.TheVariants as slice
use Rattle.wasmloop_c.specs.Calls.{core_in}
use Rattle.wasmloop_c.specs.Numbers.{did_of}
use Rattle.std.specs.Prelude.{Result, Ok, Err}
use Rattle.order.specs.declared.reserving.RefusedMemory.{RefusedMemory}
use Rattle.wasmloop_c.specs.Statuses.{OnlyRefused, status_in}
use Rattle.wasmloop_c.specs.StepSlices.{LeftByStep, RunsStep, answer_without_slice, step_held}
use Rattle.wasmloop_c.specs.declared.step_slices.NoSlice.{NoSlice}
use Rattle.wasmloop_c.specs.declared.step_slices.NoSlice.TheVariants as none
use Rattle.wasmloop_c.specs.TurnSlices.{LoopIsAt, bytes_before, bytes_in, used_before, SliceEnds, SliceGoesOn, StepIsUnderway, TakesSlices, TurnsStage, WaitsFor, counted_for, fuel_in, last_did, IsRefusal}
use Rattle.wasmloop_c.specs.Turning.{counted_after}
use Rattle.wasmloop_c.specs.declared.step_slices.SliceEnd.TheVariants as end
use Rattle.wasmloop_c.specs.declared.thing.LoopStage.TheVariants as stage
use Rattle.wasmloop_c.specs.declared.turn_slices.TurnLeft.{TurnLeft}
use Rattle.wasmloop_c.proofs.Turning.{one_more_may}

-- where a loop is between two steps
core_is : (left : LoopStage) (d : Core Desk) → core_in left ≡ Some d → (used_in left ≡ 0) × LoopIsAt d left × (bytes_in left ≡ 0)
core_is (stage.Resting held) d is = (refl, cc, refl)
core_is (stage.Stepping held) d is = absurd cc
core_is stage.Gone d is = absurd cc

-- and where it is in one
step_is : (left : LoopStage) (t : StepInSlices Desk) → step_held left ≡ Some t
    → (used_in left ≡ used_by_step t) × (bytes_in left ≡ t.copied) × ((c : Core Desk) → StepHasCome desk_calls c t → LoopIsAt c left)
step_is (stage.Stepping held) t is =
    let same : held.step ≡ t = cc in
    (ap (λ (s : StepInSlices Desk). used_by_step s) same, ap (λ (s : StepInSlices Desk). s.copied) same, λ c come. subst (λ (s : StepInSlices Desk). StepHasCome desk_calls c s) (sym same) come)
step_is (stage.Resting held) t is = absurd cc
step_is stage.Gone t is = absurd cc

-- A step that is over, from where its loop stood.
pub record Whole (from : LoopStage) (units : ℕ) (left : LoopStage) (did : Did) : Type 0 where
  pub steps : (c : Core Desk) → LoopIsAt c from → (d : Core Desk) × (core_in left ≡ Some d) × (d.setting ≡ c.setting) × StepsNumbered c d did
  pub least : used_in from ≤ did.used
  pub most : did.used ≤ used_in from + units
  pub rests : used_in left ≡ 0

-- One that is under way.
pub record Part (from : LoopStage) (units : ℕ) (left : LoopStage) : Type 0 where
  pub stands : (c : Core Desk) → LoopIsAt c from → LoopIsAt c left
  pub some : used_in from < used_in left
  pub most : used_in left ≤ used_in from + units
  pub all : UNIT_BYTES * (used_in from + units) + bytes_in from ≤ UNIT_BYTES * used_in left + bytes_in left
  pub few : MAX_BYTES * used_in from + bytes_in left ≤ MAX_BYTES * used_in left + bytes_in from

-- What a slice of a step means that stands there after it has begun, where the step began on a loop that is there.
module _ (from : LoopStage) (s : StepInSlices Desk) (units : ℕ) (left : LoopStage)
    (came : (c : Core Desk) → LoopIsAt c from → StepHasCome desk_calls c s) (used : used_in from ≡ used_by_step s) (copied : bytes_in from ≡ s.copied) where
  whole : (it : StepSlice Desk) (did : Did) → StepGoesOn desk_calls s units it → LeftByStep it left (end.Over did) → Whole from units left did
  whole (slice.Over d told) did goes (is, same) =
      let did_is : did ≡ did_of told (length d.loop.state.emits) = cc in
      let units_are : did.used ≡ goes.ended.used =
      ap (λ (it : Did). it.used) did_is ∙ ap (λ (it : StepDid). (did_of it (length d.loop.state.emits)).used) goes.told in
      record {
        steps = λ c at. let one = goes.steps c (came c at) in (d, is, one.0, (told, one.1, did_is));
        least = omega (arith, used, goes.since, units_are);
        most = omega (arith, used, goes.slice, units_are);
        rests = (core_is left d is).0;
      }
  whole (slice.Paused t) did goes (is, same) = absurd cc

  part : 1 ≤ units → (it : StepSlice Desk) → StepGoesOn desk_calls s units it → LeftByStep it left end.Paused → Part from units left
  part enough (slice.Over d told) goes (is, same) = absurd cc
  part enough (slice.Paused t) goes (is, same) =
      let there = step_is left t is in
      record {
        stands = λ c at. there.2 c (goes.goes_on c (came c at)).0;
        some = grind (arith, used, goes.some, there.0, enough);
        most = omega (arith, used, goes.most, there.0);
        all = omega (arith, used, copied, goes.all, there.0, there.1);
        few = omega (arith, used, copied, goes.few, there.0, there.1);
      }

-- a step that is over at once has used nothing
no_fuel : (told : StepDid) (emits : ℕ) → RanNone told → (did_of told emits).used ≡ 0
no_fuel (step_did.Entered phase now) emits none = refl
no_fuel (step_did.Ran kind number ended) emits none = absurd none
no_fuel (step_did.Skipped kind number) emits none = refl
no_fuel step_did.Over emits none = refl
no_fuel step_did.Failed emits none = refl

at_once : (held : HeldLoop) (d : Core Desk) (told : StepDid) (units : ℕ) (left : LoopStage) (did : Did)
    → StepBegins desk_calls held.core (slice.Over d told) → LeftByStep (slice.Over d told) left (end.Over did) → Whole (stage.Resting held) units left did
at_once held d told units left did begins (is, same) =
    let did_is : did ≡ did_of told (length d.loop.state.emits) = cc in
    let none : did.used ≡ 0 = ap (λ (it : Did). it.used) did_is ∙ no_fuel told (length d.loop.state.emits) begins.1 in
    record {
      steps = λ c at. subst (λ (x : Core Desk). (e : Core Desk) × (core_in left ≡ Some e) × (e.setting ≡ x.setting) × StepsNumbered x e did) at
          (d, is, begins.0.0, (told, begins.0.1, did_is));
      least = omega arith;
      most = omega (arith, none);
      rests = (core_is left d is).0;
    }

over : (from : LoopStage) (units : ℕ) (left : LoopStage) (did : Did) → RunsStep from units left (end.Over did) → Whole from units left did
over (stage.Resting held) units left did (inl (slice.Over d told, it, begins, goes, lefts)) =
    at_once held d told units left did begins (subst (λ (x : StepSlice Desk). LeftByStep x left (end.Over did)) goes lefts)
over (stage.Resting held) units left did (inl (slice.Paused s, it, begins, goes, lefts)) =
    whole (stage.Resting held) s units left (λ c at. subst (λ (x : Core Desk). StepHasCome desk_calls x s) at begins.0) (sym begins.1) (sym begins.2) it did goes lefts
over (stage.Resting held) units left did (inr (it, same, not)) = absurd cc
over (stage.Stepping held) units left did (it, goes, lefts) = whole (stage.Stepping held) held.step units left (λ c at. at) refl refl it did goes lefts
over stage.Gone units left did (same, not) = absurd cc

pub over_by : (from : LoopStage) (units : ℕ) (left : LoopStage) (it : SliceEnd) (did : Did) → it ≡ end.Over did → RunsStep from units left it → Whole from units left did
over_by from units left it did is ran = over from units left did (subst (λ (x : SliceEnd). RunsStep from units left x) is ran)

at_end : (d : Core Desk) (told : StepDid) (left : LoopStage) → LeftByStep (slice.Over d told) left end.Paused → ⊥
at_end d told left (is, same) = cc

pub paused : (from : LoopStage) (units : ℕ) (left : LoopStage) → 1 ≤ units → RunsStep from units left end.Paused → Part from units left
paused (stage.Resting held) units left enough (inl (slice.Over d told, it, begins, goes, lefts)) =
    absurd (at_end d told left (subst (λ (x : StepSlice Desk). LeftByStep x left end.Paused) goes lefts))
paused (stage.Resting held) units left enough (inl (slice.Paused s, it, begins, goes, lefts)) =
    part (stage.Resting held) s units left (λ c at. subst (λ (x : Core Desk). StepHasCome desk_calls x s) at begins.0) (sym begins.1) (sym begins.2) enough it goes lefts
paused (stage.Resting held) units left enough (inr (it, same, not)) = absurd cc
paused (stage.Stepping held) units left enough (it, goes, lefts) = part (stage.Stepping held) held.step units left (λ c at. at) refl refl enough it goes lefts
paused stage.Gone units left enough (same, not) = absurd cc

-- no slice
no_end : (it : StepSlice Desk) (left : LoopStage) (why : NoSlice) → LeftByStep it left (end.Refused why) → ⊥
no_end (slice.Over d told) left why (is, same) = cc
no_end (slice.Paused t) left why (is, same) = cc

pub refused : (from : LoopStage) (units : ℕ) (left : LoopStage) (why : NoSlice) → RunsStep from units left (end.Refused why)
    → (left ≡ from) × IsRefusal from (status_in (answer_without_slice why))
refused (stage.Resting held) units left why (inl (first, it, begins, goes, lefts)) = absurd (no_end it left why lefts)
refused (stage.Resting held) units left (none.Memory memory) (inr (it, same, is)) = (same, refl)
refused (stage.Resting held) units left none.Gone (inr (it, same, is)) = absurd cc
refused (stage.Stepping held) units left why (it, goes, lefts) = absurd (no_end it left why lefts)
refused stage.Gone units left (none.Memory memory) (same, is) = absurd cc
refused stage.Gone units left none.Gone (same, is) = (same, refl)

-- a loop that has taken a step is between two steps
rests_at : (left : LoopStage) (d : Core Desk) → core_in left ≡ Some d → LoopIsAt d left
rests_at left d is = (core_is left d is).1

module _ (from : LoopStage) (most units : ℕ) (old : Did) where
  -- so many steps of a turn are taken from where its loop stood
  pub record Path (c : Core Desk) (count : ℕ) (turn : Turning) (did : Did) : Type 0 where
    pub before : List Did
    pub e : Core Desk
    pub steps : TakesSteps c before e
    pub goes_on : NoneEnds most before
    pub stands : LoopIsAt e turn.stage
    pub setting : e.setting ≡ c.setting
    pub last : did ≡ last_did old before
    pub counted : turn.ran ≡ ran_in before
    pub fuel : fuel_in before + (turn.left + used_in turn.stage) ≡ used_in from + units
    pub many : length before ≡ count
    pub rests : (before ≡ [] → ⊥) → core_in turn.stage ≡ Some e

  pub record Sliced (count : ℕ) (turn : Turning) (did : Did) : Type 0 where
    pub less : turn.ran < most
    pub left : 1 ≤ turn.left
    pub first : count ≡ 0 → (turn.stage ≡ from) × (did ≡ old)
    pub path : (c : Core Desk) → LoopIsAt c from → Path c count turn did

  pub none_yet : 1 ≤ most → 1 ≤ units → Sliced 0 (record { stage = from; ran = 0; left = units }) old
  none_yet some enough = record {
    less = omega (arith, some);
    left = enough;
    first = λ z. (refl, refl);
    path = λ c at. record {
      before = [];
      e = c;
      steps = refl;
      goes_on = tt;
      stands = at;
      setting = refl;
      last = refl;
      counted = refl;
      fuel = omega arith;
      many = refl;
      rests = λ some. absurd (some refl);
    };
  }

  module _ (count : ℕ) (turn to : Turning) (was did : Did) (s : Sliced count turn was) where
    module _ (taken : StepIsTaken turn did to) (c : Core Desk) (at : LoopIsAt c from) where
      here : Path c count turn was
      here = s.path c at

      next : (d : Core Desk) × (core_in to.stage ≡ Some d) × (d.setting ≡ here.e.setting) × StepsNumbered here.e d did
      next = taken.steps here.e here.stands

      all : TakesSteps c (did ∷ here.before) next.0
      all = (here.e, here.steps, next.2, next.3)

      ran : to.ran ≡ ran_in (did ∷ here.before)
      ran = taken.ran ∙ ap (λ (n : ℕ). n + one_if (did.what == RAN)) here.counted

      fuel : fuel_in (did ∷ here.before) + (to.left + used_in to.stage) ≡ used_in from + units
      fuel = omega (arith, taken.left, taken.rests, here.fuel)

      further : ends_turn most turn.ran did ≡ false → Path c (count + 1) to did
      further goes_on = record {
        before = did ∷ here.before;
        e = next.0;
        steps = all;
        goes_on = (subst (λ (n : ℕ). ends_turn most n did ≡ false) here.counted goes_on, here.goes_on);
        stands = rests_at to.stage next.0 next.1;
        setting = next.2 ∙ here.setting;
        last = refl;
        counted = ran;
        fuel = fuel;
        many = omega (arith, here.many);
        rests = λ some. next.1;
      }

      ended : ends_turn most turn.ran did ≡ true → SliceEnds c (used_in from) units most did to.ran to.stage
      ended ends = record {
        d = next.0;
        stands = next.1;
        setting = next.2 ∙ here.setting;
        steps = record {
          before = here.before;
          steps = all;
          goes_on = here.goes_on;
          ends = inl (subst (λ (n : ℕ). ends_turn most n did ≡ true) here.counted ends);
          counted = ran;
        };
        within = omega (arith, fuel);
      }

    pub one_more : StepIsTaken turn did to → ends_turn most turn.ran did ≡ false → to.ran < most → 1 ≤ to.left → Sliced (count + 1) to did
    one_more taken goes_on less left = record {
      less = less;
      left = left;
      first = λ z. absurd (omega (arith, z));
      path = λ c at. further taken c at goes_on;
    }

    pub over_now : StepIsTaken turn did to → ends_turn most turn.ran did ≡ true → (c : Core Desk) → LoopIsAt c from
        → SliceEnds c (used_in from) units most did to.ran to.stage
    over_now taken ends c at = ended taken c at ends

  -- a turn that pauses between two steps, of which some are taken
  between : (c : Core Desk) (count : ℕ) (turn : Turning) (did : Did) → Path c count turn did → (count ≡ 0 → ⊥)
      → SliceGoesOn c from units most old did turn.ran turn.stage
  between c count turn did p later = record {
    before = p.before;
    e = p.e;
    steps = p.steps;
    goes_on = p.goes_on;
    stands = p.stands;
    setting = p.setting;
    last = p.last;
    counted = p.counted;
    within = omega (arith, p.fuel);
    some = inl (λ none. later (sym p.many ∙ ap (λ (xs : List Did). length xs) none));
    all = λ none. let rests = p.rests (λ empty. later (sym p.many ∙ ap (λ (xs : List Did). length xs) empty)) in absurd cc;
    few = λ none. let rests = p.rests (λ empty. later (sym p.many ∙ ap (λ (xs : List Did). length xs) empty)) in absurd cc;
  }

  module _ (count : ℕ) (turn to : Turning) (was did : Did) (s : Sliced count turn was) where
    paused_after : StepIsTaken turn did to → ends_turn most turn.ran did ≡ false → (c : Core Desk) → LoopIsAt c from
        → SliceGoesOn c from units most old did to.ran to.stage
    paused_after taken goes_on c at =
        let p = s.path c at in
        let one = taken.steps p.e p.stands in
        record {
          before = did ∷ p.before;
          e = one.0;
          steps = (p.e, p.steps, one.2, one.3);
          goes_on = (subst (λ (n : ℕ). ends_turn most n did ≡ false) p.counted goes_on, p.goes_on);
          stands = rests_at to.stage one.0 one.1;
          setting = one.2 ∙ p.setting;
          last = refl;
          counted = taken.ran ∙ ap (λ (n : ℕ). n + one_if (did.what == RAN)) p.counted;
          within = omega (arith, taken.left, taken.rests, p.fuel);
          some = inl (λ none. absurd cc);
          all = λ none. let rests = one.1 in absurd cc;
          few = λ none. let rests = one.1 in absurd cc;
        }

    some_used : (before : List Did) → length before ≡ count → StepIsUnderway turn to → (before ≡ [] → ⊥) ⊎ (used_in from < used_in to.stage)
    some_used [] many under =
        let first = s.first (sym many) in
        inr (subst (λ (it : LoopStage). used_in it < used_in to.stage) first.0 under.some)
    some_used (x ∷ xs) many under = inl (λ none. absurd cc)

    all_used : (before : List Did) → length before ≡ count → StepIsUnderway turn to → fuel_in before + (turn.left + used_in turn.stage) ≡ used_in from + units
        → UNIT_BYTES * (used_in from + units) + bytes_before from before ≤ UNIT_BYTES * (fuel_in before + used_in to.stage) + bytes_in to.stage
    all_used [] many under fuel =
        let first = s.first (sym many) in
        let same : bytes_in turn.stage ≡ bytes_in from = ap bytes_in first.0 in
        omega (arith, under.all, same, fuel)
    all_used (x ∷ xs) many under fuel = omega (arith, under.all, fuel)

    few_copied : (e : Core Desk) (before : List Did) → length before ≡ count → ((before ≡ [] → ⊥) → core_in turn.stage ≡ Some e) → StepIsUnderway turn to
        → MAX_BYTES * used_before from before + bytes_in to.stage ≤ MAX_BYTES * used_in to.stage + bytes_before from before
    few_copied e [] many rests under =
        let first = s.first (sym many) in
        subst (λ (it : LoopStage). MAX_BYTES * used_in it + bytes_in to.stage ≤ MAX_BYTES * used_in to.stage + bytes_in it) first.0 under.few
    few_copied e (x ∷ xs) many rests under =
        let none = core_is turn.stage e (rests (λ empty. absurd cc)) in
        omega (arith, under.few, none.0, none.2)

    paused_in : StepIsUnderway turn to → did ≡ was → (c : Core Desk) → LoopIsAt c from
        → SliceGoesOn c from units most old did to.ran to.stage
    paused_in under same c at =
        let p = s.path c at in
        record {
          before = p.before;
          e = p.e;
          steps = p.steps;
          goes_on = p.goes_on;
          stands = under.stands p.e p.stands;
          setting = p.setting;
          last = same ∙ p.last;
          counted = under.ran ∙ p.counted;
          within = omega (arith, p.fuel, under.most);
          some = some_used p.before p.many under;
          all = λ none. all_used p.before p.many under p.fuel;
          few = λ none. few_copied p.e p.before p.many p.rests under;
        }

    pub pauses : (StepIsTaken turn did to × (ends_turn most turn.ran did ≡ false)) ⊎ (StepIsUnderway turn to × (did ≡ was))
        → (c : Core Desk) → LoopIsAt c from → SliceGoesOn c from units most old did to.ran to.stage
    pauses (inl h) = paused_after h.0 h.1
    pauses (inr h) = paused_in h.0 h.1

  -- memory was refused after some steps, or there were too many of them
  pub stays : (count : ℕ) (turn : Turning) (did : Did) → Sliced count turn did → (count ≡ 0 → ⊥) → (c : Core Desk) → LoopIsAt c from
      → SliceGoesOn c from units most old did turn.ran turn.stage
  stays count turn did s later c at = between c count turn did (s.path c at) later

  pub stays_so : (count : ℕ) (turn to : Turning) (was did : Did) → Sliced count turn was → (count ≡ 0 → ⊥) → to ≡ turn → did ≡ was → (c : Core Desk) → LoopIsAt c from
      → SliceGoesOn c from units most old did to.ran to.stage
  stays_so count turn to was did s later same is c at =
      subst (λ (x : Turning). SliceGoesOn c from units most old did x.ran x.stage) (sym same)
      (subst (λ (x : Did). SliceGoesOn c from units most old x turn.ran turn.stage) (sym is) (stays count turn was s later c at))

-- What a step does to a turn.
pub taken : (from to : Turning) (did : Did) → Whole from.stage from.left to.stage did → to.ran ≡ from.ran + one_if (did.what == RAN)
    → did.used + to.left ≡ used_in from.stage + from.left → StepIsTaken from did to
taken from to did w ran left = record { steps = w.steps; ran = ran; left = left; rests = w.rests }

pub under_way : (from to : Turning) → Part from.stage from.left to.stage → to.ran ≡ from.ran → StepIsUnderway from to
under_way from to p ran = record { stands = p.stands; ran = ran; some = p.some; most = p.most; all = p.all; few = p.few }

pub may_go_on : (did : Did) (most ran : ℕ) → ran < most → ends_turn most ran did ≡ false → ran + one_if (did.what == RAN) < most
may_go_on did most ran less goes_on = one_more_may (did.what == RAN) _ _ _ most ran less goes_on

-- What a call leaves of a turn, as C is told it.
refusal_is : (from : LoopStage) (status : ℕ) → IsRefusal from status → status ≡ OK → ⊥
refusal_is (stage.Resting held) status is ok = absurd cc
refusal_is (stage.Stepping held) status is ok = absurd is
refusal_is stage.Gone status is ok = absurd cc

pub turns : (from : LoopStage) (before after most units was : ℕ) (old told : Turned) (it : TurnLeft) → status_in it.status ≡ OK
    → TakesSlices from most units old.did told.did it → told.callbacks ≡ counted_on before it.ran → after ≡ counted_for it.over told
    → WaitsFor it told.did told.callbacks told.wait → told.zero ≡ 0 → TurnsStage from before it.stage after most units was it.over old told (status_in it.status)
turns from before after most units was old told it ok (inl h) callbacks kept waits zero = inl (
  ok,
  h.1,
  λ c at.
      let ends = h.2 c at in
      let counted : after ≡ counted_after told = subst (λ (n : ℕ). after ≡ counted_for n told) h.1 kept in
      record { ran = it.ran; slice = ends; callbacks = callbacks; kept = counted; wait = waits.0 ends.d h.1 ends.stands; zero = zero },
)
turns from before after most units was old told it ok (inr (inl h)) callbacks kept waits zero = inr (inl (
  ok,
  h.1,
  λ c at.
      let counted : after ≡ told.callbacks = subst (λ (n : ℕ). after ≡ counted_for n told) h.1 kept in
      record { ran = it.ran; slice = h.2 c at; callbacks = callbacks; kept = counted; wait = waits.1 h.1; zero = zero },
))
turns from before after most units was old told it ok (inr (inr h)) callbacks kept waits zero = absurd (refusal_is from (status_in it.status) h.0 ok)

pub no_turn : (from : LoopStage) (before most units was : ℕ) (old told : Turned) (it : TurnLeft) → (status_in it.status ≡ OK → ⊥)
    → TakesSlices from most units old.did told.did it → (told.did ≡ old.did → told ≡ old) → TurnsStage from before it.stage before most units was was old told (status_in it.status)
no_turn from before most units was old told it not (inl h) same = absurd (not h.0)
no_turn from before most units was old told it not (inr (inl h)) same = absurd (not h.0)
no_turn from before most units was old told it not (inr (inr h)) same = inr (inr (h.0, h.1, refl, refl, same h.2))

-- What is done is not told as refused.
ok_only : (answer : Result ℕ RefusedMemory) → status_in answer ≡ OK → OnlyRefused answer
ok_only (Ok status) is = λ memory. cc
ok_only (Err refused) is = tt

pub only : (from : LoopStage) (most units : ℕ) (old did : Did) (it : TurnLeft) → TakesSlices from most units old did it → OnlyRefused it.status
only from most units old did it (inl h) = ok_only it.status h.0
only from most units old did it (inr (inl h)) = ok_only it.status h.0
only from most units old did it (inr (inr h)) = h.3
