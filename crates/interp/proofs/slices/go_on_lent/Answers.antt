use Rattle.interp.proofs.Words.{ap, arith, BareEnding, Bool, ComesFromAny, Ended, ended_on, ending_with, EndsAt, false, FuncType, IsGranted, IsUnderWay, length}
use Rattle.interp.proofs.Words.{List, MachineState, Option, result_count, ValType, refl, subst, sym, take, topmost_values, true, Value, ℕ, ◌*◌, ◌+◌, ◌-◌, ◌<◌, ◌∙◌, ◌≡◌, ◌≤◌}
use Rattle.std.proofs.Common.{◌↔◌, IsTrue, min as nat_min, ⊎_elim}
use Rattle.std.proofs.Math.Nat.{eq-or-lt_of_le}
use Rattle.limits.specs.declared.TheConstants.{MAX_BYTES}
use Rattle.events.specs.declared.ended.Ending.TheVariants as ending
use Rattle.events.specs.declared.ended.BareEnding.TheVariants as bare
use Rattle.interp.specs.Lent.{result_count_of}
use Rattle.interp.proofs.CountsOfResults.{spent_only}
use Rattle.interp.proofs.Slots.Slicing.{going, paused_again, is_over, stands_there, slice_returns_typed, slice_all, slice_kept, slice_within, slice_typed, slice_fit}
use Rattle.interp.specs.Slices.{IsMost}
use Rattle.interp.specs.declared.paused.TheConstants.{UNIT_BYTES}
use Rattle.interp.proofs.slices.go_on_lent.Given.{Over}
use Rattle.interp.proofs.slices.go_on_lent.Goals as goal
use Rattle.interp.proofs.slices.go_on_lent.Goals.{After-run_within-run}

pub run_within-run-requires-clause-under_way : goal.run_within-run-requires-clause-under_way
run_within-run-requires-clause-under_way g c =
    let q = c.requires.paused in
    going c.args.code.now.contents.now c.requires.valid c.args.code.now.tables.now c.requires.agree g.H.Host.moves c.args.slice.now.paused
    c.as_slice.result.now c.in-Some.func_type.now c.in-Some.ensures c.as_slice.ensures c.new.result c.new.ensures
    c.args.slots.now c.args.frames.now c.args.state.now c.args.host.now
    q.0 q.1 q.2 q.3 q.4 c.min.result

-- all that is left was granted, where no more is left
all_granted : (granted left : ℕ) → granted ≤ left → (granted < left → ⊥) → granted ≡ left
all_granted granted left few not = omega (arith, few, not)

not_paused : (b : Bool) (A : Type 0) → IsTrue b ↔ A → b ≡ false → A → ⊥
not_paused b A says is holds = let is_true : b ≡ true = says.1 holds in absurd (cc)

module _ (g : Over) (c : After-run_within-run g) where
  -- what the run was granted
  abbrev granted : ℕ
  granted = c.run_within-run.ensures.ends.granted

  granted_is : IsGranted c.min.result c.most_bytes.result (g.H.Host.copied c.run_within-run.new.host) granted
  granted_is = c.run_within-run.ensures.ends.is_granted

  few : granted ≤ c.args.slice.now.paused.left
  few = let most = granted_is.within in omega (arith, c.min.ensures, most)

  few_units : granted ≤ c.args.slice.now.units
  few_units = let most = granted_is.within in omega (arith, c.min.ensures, most)

  -- how it ended, with the results in the topmost slots
  abbrev told : Ended
  told = ended_on c.run_within-run.result.ended c.as_slice.result.now c.run_within-run.new.place.at.sp c.run_within-run.new.slots

  ends : EndsAt c.args.code.now.contents.now c.new.result c.args.slice.now.paused.depth g.H.Host.moves c.as_slice.result.now
      (record { at = c.args.slice.now.paused.at; slots = c.args.slots.now; frames = take (c.args.slice.now.paused.depth - 1) c.args.frames.now; store = c.args.state.now; fuel = granted })
      c.args.host.now told c.run_within-run.result.last (take (c.args.slice.now.paused.depth - 1) c.run_within-run.new.frames) c.run_within-run.new.state c.run_within-run.new.host
  ends = c.run_within-run.ensures.ends.ends

  began : IsUnderWay c.args.code.now.contents.now c.new.result c.args.slice.now.paused.depth c.as_slice.result.now
      (record { at = c.args.slice.now.paused.at; slots = c.args.slots.now; frames = take (c.args.slice.now.paused.depth - 1) c.args.frames.now; store = c.args.state.now; fuel = granted })
  began =
      let q = c.requires.paused in
      going c.args.code.now.contents.now c.requires.valid c.args.code.now.tables.now c.requires.agree g.H.Host.moves c.args.slice.now.paused
      c.as_slice.result.now c.in-Some.func_type.now c.in-Some.ensures c.as_slice.ensures c.new.result c.new.ensures
      c.args.slots.now c.args.frames.now c.args.state.now c.args.host.now
      q.0 q.1 q.2 q.3 q.4 granted

  within : c.run_within-run.result.ended.used ≤ granted
  within = slice_within _ _ _ _ _ _ c.args.host.now began _ _ _ _ _ ends

  -- a run that ended as spent has no results
  spent_with : c.run_within-run.result.ended.ending ≡ bare.Spent → told.ending ≡ ending.Spent
  spent_with spent = ap (λ (e : BareEnding). ending_with e (topmost_values c.as_slice.result.now c.run_within-run.new.place.at.sp c.run_within-run.new.slots)) spent

  -- where it was spent, it used what it was granted
  all : c.run_within-run.result.ended.ending ≡ bare.Spent → c.run_within-run.result.ended.used ≡ granted
  all spent = slice_all _ _ _ _ _ _ c.args.host.now began _ _ _ _ _ ends (spent_with spent)

-- what a slice that is paused has used
slice_used : (old left units before since copied most min granted used : ℕ) → IsGranted min most since granted → min ≡ nat_min units left → copied ≡ before
    → IsMost copied units most → before ≤ since → since ≤ before + MAX_BYTES * used → used ≡ granted → used < left
    → (old + nat_min 1 units ≤ old + used) × (old + used ≤ old + units) × (UNIT_BYTES * (old + units) + before ≤ UNIT_BYTES * (old + used) + since) × (1 ≤ left - used)
    × (old + used + (left - used) ≡ old + left) × (MAX_BYTES * old + since ≤ MAX_BYTES * (old + used) + before)
slice_used old left units before since copied most min granted used g is same bound more few all less =
    let within = g.within in (
      some g.some,
      omega (arith, all, within, is),
      ⊎_elim whole cut (eq-or-lt_of_le g.within),
      omega (arith, less),
      omega (arith, less),
      omega (arith, few),
    ) where
      some : nat_min 1 min ≤ granted → old + nat_min 1 units ≤ old + used
      some one = omega (arith, one, is, less, all)

      whole : granted ≡ min → UNIT_BYTES * (old + units) + before ≤ UNIT_BYTES * (old + used) + since
      whole e = omega (arith, e, is, all, less, more)

      cut : granted < min → UNIT_BYTES * (old + units) + before ≤ UNIT_BYTES * (old + used) + since
      cut shorter =
          let done = g.cut shorter in
          let reached = bound since done.0 done.1 in
          let over = done.0 in
          omega (arith, reached, over, same)

pub returns-then-is_paused-clause-paused : goal.returns-then-is_paused-clause-paused
returns-then-is_paused-clause-paused g c _ s before args fuel q =
    let a = (goal.at.returns-then-is_paused-clause-paused g c).After-run_within-run in
    let m = c.args.code.now.contents.now in
    let paused = c.is_paused.ensures.0 c.if-is_paused.true in
    let spent = spent_with g a paused.0 in
    let there = c.run_within-run.ensures.ends.spent spent in
    let n = c.run_within-run.new in
    let run = c.run_within-run.result in
    let p = c.args.slice.now.paused in
    let types = c.as_slice.result.now in
    let depth = p.depth in
    let used = sym (all g a paused.0) in
    let first : ℕ → MachineState = λ k. record { at = p.at; slots = c.args.slots.now; frames = take (depth - 1) c.args.frames.now; store = c.args.state.now; fuel = k } in
    let few : run.ended.used ≤ p.left = let less = paused.1 in omega (arith, less) in
    let ended = subst (λ (k : ℕ). EndsAt m c.new.result depth g.H.Host.moves types (first k) c.args.host.now (told g a) run.last
    (take (depth - 1) n.frames) n.state n.host) used (ends g a) in
    let come = subst (λ (k : ℕ). ComesFromAny m c.new.result depth g.H.Host.moves types (first k) c.args.host.now
    (record { at = n.place.at; slots = n.slots; frames = take (depth - 1) n.frames; store = n.state; fuel = n.place.fuel }) n.host) used there.1 in
    let stands =
    stands_there m c.requires.valid c.args.code.now.tables.now c.requires.agree g.H.Host.moves p
    types c.in-Some.func_type.now c.in-Some.ensures c.as_slice.ensures c.new.result c.new.ensures
    c.args.slots.now c.args.frames.now c.args.state.now c.args.host.now
    s before args fuel q run.ended.used few (told g a) run.last _ n.frames n.state n.host spent refl ended
    c.run_within-run.ensures.stop c.run_within-run.ensures.callers in
    paused_again m c.requires.valid c.args.code.now.tables.now c.requires.agree g.H.Host.moves p
    types c.in-Some.func_type.now c.in-Some.ensures c.as_slice.ensures c.new.result c.new.ensures
    c.args.slots.now c.args.frames.now c.args.state.now c.args.host.now
    s before args fuel q run.ended.used few _ _ _ _ _ _ _ _ run.last stands there.0 come

pub returns-then-is_paused-clause-slice : goal.returns-then-is_paused-clause-slice
returns-then-is_paused-clause-slice g c none =
    let a = (goal.at.returns-then-is_paused-clause-slice g c).After-run_within-run in
    let p = c.args.slice.now.paused in
    let units = c.args.slice.now.units in
    let paused = c.is_paused.ensures.0 c.if-is_paused.true in
    let used = all g a paused.0 in
    let told = slice_used p.used p.left units (g.H.Host.copied c.args.host.now) (g.H.Host.copied c.run_within-run.new.host) c.copied.result c.most_bytes.result c.min.result (granted g a)
    c.run_within-run.result.ended.used (granted_is g a) c.min.ensures c.copied.ensures c.most_bytes.ensures c.run_within-run.ensures.copies c.run_within-run.ensures.few used paused.1 in
    record { some = told.0; most = told.1; all = told.2; few = told.5; left = told.3; sum = told.4 }

pub returns-then-is_paused-clause-stands : goal.returns-then-is_paused-clause-stands
returns-then-is_paused-clause-stands g c none =
    let a = (goal.at.returns-then-is_paused-clause-stands g c).After-run_within-run in
    slice_kept _ _ _ _ _ _ c.args.host.now (began g a) _ _ _ _ _ (ends g a) (spent_with g a (c.is_paused.ensures.0 c.if-is_paused.true).0)

pub returns-then-is_paused-clause-kept : goal.returns-then-is_paused-clause-kept
returns-then-is_paused-clause-kept g c =
    let a = (goal.at.returns-then-is_paused-clause-kept g c).After-run_within-run in
    slice_fit _ _ _ _ _ _ c.args.host.now (began g a) _ _ _ _ _ (ends g a)

-- its results are as many as a function of its type has
module _ (g : Over) (c : After-run_within-run g) where
  count : result_count c.args.code.now.contents.now c.args.slice.now.paused.function ≡ length c.as_slice.result.now
  count =
      ap (λ (o : Option FuncType). result_count_of o) (sym c.in-Some.ensures)
      ∙ ap (λ (ts : List ValType). length ts) (sym c.as_slice.ensures)

pub overflow_add-whole : goal.overflow_add-whole
overflow_add-whole g c =
    let a = (goal.at.overflow_add-whole g c).After-run_within-run in
    let most = within g a in
    let some = few g a in
    omega (arith, most, some)

pub read_results-requires-clause-room : goal.read_results-requires-clause-room
read_results-requires-clause-room g c =
    let a = (goal.at.read_results-requires-clause-room g c).After-run_within-run in
    omega (arith, count g a, c.requires.places)

-- the results that were read, by the count of its function's
read_as : (end : BareEnding) (n k : ℕ) (places values : List Value) → n ≡ k → ending_with end (take k places) ≡ ending_with end values
    → ending_with end (take n places) ≡ ending_with end values
read_as end n k places values same is = rw same is

pub returns-clause-over : goal.returns-clause-over
returns-clause-over g c s before args fuel q =
    let a = (goal.at.returns-clause-over g c).After-run_within-run in
    let run = c.run_within-run.result in
    let spent : (told g a).ending ≡ ending.Spent → granted g a ≡ c.args.slice.now.paused.left =
    λ with_it. let is = spent_only _ _ with_it in all_granted (granted g a) c.args.slice.now.paused.left (few g a) (λ less. not_paused _ _ c.is_paused.ensures c.if-is_paused.false
    (is, rw (all g a is) less)) in
    rw (read_as run.ended.ending _ _ _ _ (count g a) c.read_results.ensures, c.run_within-run.ensures.stop)
    (is_over c.args.code.now.contents.now c.requires.valid c.args.code.now.tables.now c.requires.agree g.H.Host.moves c.args.slice.now.paused
    c.as_slice.result.now c.in-Some.func_type.now c.in-Some.ensures c.as_slice.ensures c.new.result c.new.ensures
    c.args.slots.now c.args.frames.now c.args.state.now c.args.host.now
    s before args fuel q (granted g a) (few g a) _ _ _ _ _ spent (ends g a))

pub returns-clause-last : goal.returns-clause-last
returns-clause-last g c =
    let a = (goal.at.returns-clause-last g c).After-run_within-run in
    let most = within g a in
    let some = few g a in
    let units = few_units g a in
    let few = c.run_within-run.ensures.few in
    (omega (arith), omega (arith, most, units), omega (arith, most, some), omega (arith, few))

pub returns-clause-results : goal.returns-clause-results
returns-clause-results g c =
    let a = (goal.at.returns-clause-results g c).After-run_within-run in
    let q = c.requires.paused in
    rw (read_as c.run_within-run.result.ended.ending _ _ _ _ (count g a) c.read_results.ensures)
    (slice_returns_typed c.args.code.now.contents.now c.requires.valid c.args.code.now.tables.now c.requires.agree g.H.Host.moves c.args.slice.now.paused
    c.as_slice.result.now c.in-Some.func_type.now c.in-Some.ensures c.as_slice.ensures c.new.result c.new.ensures
    c.args.slots.now c.args.frames.now c.args.state.now c.args.host.now
    q.0 q.1 q.2 q.3 q.4 (told g a).ending
    (slice_typed _ _ _ _ _ _ c.args.host.now (began g a) _ _ _ _ _ (ends g a)))

pub returns-clause-kept : goal.returns-clause-kept
returns-clause-kept g c =
    let a = (goal.at.returns-clause-kept g c).After-run_within-run in
    slice_fit _ _ _ _ _ _ c.args.host.now (began g a) _ _ _ _ _ (ends g a)
