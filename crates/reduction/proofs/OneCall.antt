-- Two calls of a function from outside, from one start.
use Rattle.reduction.proofs.Words.{ap, as_operands, Contents, defined, entered, Halt, HostCall, imported, Invokes, IsDetermined, Lawful, List, Option}
use Rattle.reduction.proofs.Words.{OutOfFuel, refl, Returned, reverse, RunEnd, Store, sym, TooDeep, Trapped, Value, with_memory, ℕ, [], ◌∙◌, ◌∷◌, ◌≡◌}
use Rattle.std.proofs.Common.{get_or}
use Rattle.std.proofs.lemmas.List.{reverse-reverse}
use Rattle.reduction.specs.Leading.{Call, Leads, scene}
use Rattle.reduction.specs.Running.{end_of_run}
use Rattle.events.specs.Traps.{trap_number}
use Rattle.events.specs.declared.trap.TrapCode.{TrapCode}
use Rattle.events.specs.declared.trap.TrapCode.TheVariants as trap
use Rattle.events.specs.declared.ended.Ended.{Ended}
use Rattle.events.specs.declared.ended.Ending.{Ending}
use Rattle.events.specs.declared.ended.Ending.TheVariants.{Return, Trap, Depth, Spent}
use Rattle.reduction.proofs.OneStop.{stops_one}
use Rattle.reduction.proofs.OneRun.{one_function, not_both, one_run, says, says_one, says_all}

module _ (m : Contents) (depth : ℕ) {H V : Type 0} (see : H → V) (moves : H → HostCall → H → Type 0) (determined : IsDetermined see moves) where
  one_answer : (s : Store) (function : ℕ) (args : List Value) (call call' : HostCall) (old old' new new' : H) → see old ≡ see old'
      → call.function ≡ function → call.args ≡ args → call.before ≡ s.memory → call'.function ≡ function → call'.args ≡ args → call'.before ≡ s.memory
      → Lawful moves (call ∷ []) old new → Lawful moves (call' ∷ []) old' new' → (call ≡ call') × (see new ≡ see new')
  one_answer s function args call call' old old' new new' seen f a b f' a' b' (mid, moved, led) (mid', moved', led') =
      let one = determined old old' mid mid' call call' seen (record { function = f ∙ sym f'; args = a ∙ sym a'; before = b ∙ sym b' }) moved moved' in
      (one.0, ap see led ∙ one.1 ∙ sym (ap see led'))

  pub one_call : (fuel : ℕ) (s : Store) (function : ℕ) (args : List Value) (trace trace' : List HostCall) (o o' : RunEnd) (u u' : ℕ) (t t' : Store) (old old' new new' : H) → see old ≡ see old'
      → Invokes m depth fuel s function args trace o u t → Lawful moves trace old new
      → Invokes m depth fuel s function args trace' o' u' t' → Lawful moves trace' old' new'
      → (trace ≡ trace') × (o ≡ o') × (u ≡ u') × (t ≡ t') × (see new ≡ see new')
  one_call fuel s function args trace trace' o o' u u' t t' old old' new new' seen (defined type f is r) led (defined type' f' is' r') led' =
      let one = one_function m function type' type f' f is' is in
      let there : entered type' f' args [] ≡ entered type f args [] = λ i. entered (one.0 i) (one.1 i) args [] in
      one_run m depth see moves determined fuel s (entered type f args []) trace trace' o o' u u' t t' old old' new new' seen r led
      (rw there at r') led'
  one_call fuel s function args _ trace' _ o' _ u' _ t' old old' new new' seen (defined type f is r) led (imported call k e a b) led' = absurd (not_both m function type f is k)
  one_call fuel s function args trace _ o _ u _ t _ old old' new new' seen (imported call k e a b) led (defined type f is r) led' = absurd (not_both m function type f is k)
  one_call fuel s function args _ _ _ _ _ _ _ _ old old' new new' seen (imported call k e a b) led (imported call' k' e' a' b') led' =
      let one = one_answer s function args call call' old old' new new' seen e a b e' a' b' led led' in (
        ap (λ (c : HostCall). c ∷ []) one.0,
        ap (λ (c : HostCall). Returned (as_operands c.answer)) one.0,
        refl,
        ap (λ (c : HostCall). with_memory c.after s) one.0,
        one.1,
      )

pub one_ending_of_call : (m : Contents) (depth fuel : ℕ) (s : Store) (function : ℕ) (args : List Value) (trace : List HostCall) (o o' : RunEnd) (u u' : ℕ) (t t' : Store)
    → Invokes m depth fuel s function args trace o u t → Invokes m depth fuel s function args trace o' u' t' → (o ≡ o') × (u ≡ u') × (t ≡ t')
one_ending_of_call m depth fuel s function args trace o o' u u' t t' r r' =
    let one = one_call m depth (λ (h : List HostCall). h) says says_one fuel s function args trace trace o o' u u' t t' trace trace [] [] refl r (says_all trace) r' (says_all trace) in
    (one.1, one.2, one.3)

-- the traps, by their numbers
traps_by_number : List TrapCode
traps_by_number = trap.Unreachable ∷ trap.Unreachable ∷ trap.DivideByZero ∷ trap.Overflow ∷ trap.Memory ∷ trap.Table ∷ trap.EmptyElement ∷ trap.OtherType ∷ []

trap_back : (t : TrapCode) → get_or traps_by_number (trap_number t) trap.Unreachable ≡ t
unfolding traps_by_number
trap_back trap.Unreachable = refl
trap_back _ = refl

abbrev ending_back : RunEnd → Ending
ending_back (Returned results) = Return (reverse results)
ending_back (Trapped number) = Trap (get_or traps_by_number number trap.Unreachable)
ending_back TooDeep = Depth
ending_back OutOfFuel = Spent

back : (e : Ending) → ending_back (end_of_run e) ≡ e
back (Return values) = ap (λ (vs : List Value). Return vs) (reverse-reverse values)
back (Trap t) = ap (λ (x : TrapCode). Trap x) (trap_back t)
back Depth = refl
back Spent = refl

pub same_ended : (e e' : Ended) → end_of_run e.ending ≡ end_of_run e'.ending → e.used ≡ e'.used → e ≡ e'
same_ended e e' ending used =
    let same : e.ending ≡ e'.ending = sym (back e.ending) ∙ ap (λ (o : RunEnd). ending_back o) ending ∙ back e'.ending in
    λ i. record { ending = same i; used = used i }

pub one_invocation : {H V : Type 0} (see : H → V) (moves : H → HostCall → H → Type 0) → IsDetermined see moves
    → (call : Call) (s : Store) (ended ended' : Ended) (stop stop' : Option Halt) (t t' : Store) (old old' new new' : H) → see old ≡ see old'
    → Leads moves call (scene s old) ended stop (scene t new) → Leads moves call (scene s old') ended' stop' (scene t' new')
    → (ended ≡ ended') × (stop ≡ stop') × (t ≡ t') × (see new ≡ see new')
one_invocation see moves determined call s ended ended' stop stop' t t' old old' new new' seen r r' =
    let m = call.contents in
    let one =
    one_call m call.depth see moves determined call.fuel s call.function call.args r.asked r'.asked (end_of_run ended.ending) (end_of_run ended'.ending) ended.used ended'.used
    t t' old old' new new' seen r.ran r.answered r'.ran r'.answered in
    let same = same_ended ended ended' one.1 one.2 in
    let stopped =
    stops_one m call.depth s call.function call.args r.asked r'.asked ended.ending ended'.ending ended.used ended'.used t t' stop stop'
    (sym one.0) (ap (λ (e : Ended). e.ending) (sym same)) (sym one.2) r.stopped r'.stopped in
    (same, stopped, one.3, one.4)
