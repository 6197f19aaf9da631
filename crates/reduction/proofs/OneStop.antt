-- From one start a run with the same calls of the host, the same ending and the same use stops at one place.
use Rattle.reduction.proofs.Words.{ap, arith, as_operands, Calls, Contents, Context, Ends, entered, frames, Func, FuncType, Goes, Halt, HostCall, IsCharged}
use Rattle.reduction.proofs.Words.{IsDefined, IsImported, List, marks_entered, Move, next, Option, OutOfFuel, receiving, refl, Returned, Run, RunEnd, Some}
use Rattle.reduction.proofs.Words.{Store, sym, TooDeep, Trapped, Traps, Value, with_memory, ℕ, [], ◌+◌, ◌<◌, ◌∙◌, ◌∷◌, ◌≡◌, ◌≤◌}
use Rattle.reduction.specs.Run as run
use Rattle.reduction.specs.Stopping.{Mark, Moment, RunsTo, ends, traps, spent, too_deep, goes, calls, asks, marks_after, Stopped, StopsAt, halt_at}
use Rattle.events.specs.declared.ended.Ending.{Ending}
use Rattle.events.specs.declared.ended.Ending.TheVariants as how
use Rattle.reduction.proofs.OneRun.{not_both, one_function, some_charge}

module _ (m : Contents) (depth : ℕ) (last : Moment) where
  -- a run, by its first step
  data Begins (s : Store) (here : Moment) (after : List Mark) : Move → List HostCall → RunEnd → ℕ → Store → Type 0 where
    ending : (results : List Value) → here ≡ last → Begins s here after (Ends results) [] (Returned results) 0 s
    trapping : (trap : ℕ) → here ≡ last → Begins s here after (Traps trap) [] (Trapped trap) 1 s
    stopping : (move : Move) → here ≡ last → IsCharged move → Begins s here after move [] OutOfFuel 0 s
    refusing : (function : ℕ) (args : List Value) (below : List Context) (type : FuncType) (f : Func)
        → here ≡ last → IsDefined m function type f → depth ≤ frames below → Begins s here after (Calls function args below) [] TooDeep 1 s
    going : {s' t : Store} {there : List Context} {trace : List HostCall} {outcome : RunEnd} {used : ℕ} (charge : ℕ)
        → RunsTo m depth last s' there after trace outcome used t → Begins s here after (Goes charge s' there) trace outcome (charge + used) t
    calling : {t : Store} {trace : List HostCall} {outcome : RunEnd} {used : ℕ}
        (function : ℕ) (args : List Value) (below : List Context) (type : FuncType) (f : Func)
        → (defined : IsDefined m function type f) → frames below < depth → RunsTo m depth last s (entered type f args below) (marks_entered f defined.0 after) trace outcome used t
        → Begins s here after (Calls function args below) trace outcome (1 + used) t
    asking : {t : Store} {trace : List HostCall} {outcome : RunEnd} {used : ℕ} (function : ℕ) (args : List Value) (below : List Context) (call : HostCall)
        → call.function ≡ function → IsImported m function
        → RunsTo m depth last (with_memory call.after s) (receiving (as_operands call.answer) below) after trace outcome used t
        → Begins s here after (Calls function args below) (call ∷ trace) outcome (1 + used) t

  begins : {s : Store} {contexts : List Context} {marks : List Mark} {trace : List HostCall} {outcome : RunEnd} {used : ℕ} {t : Store}
      → RunsTo m depth last s contexts marks trace outcome used t → Begins s (record { contexts = contexts; marks = marks }) (marks_after contexts marks) (next m s contexts) trace outcome used t
  begins (ends results at e) = rw e (ending results at)
  begins (traps trap at e) = rw e (trapping trap at)
  begins {s} {contexts} (spent at charged) = stopping (next m s contexts) at charged
  begins (too_deep function args below type f at e defined deep) = rw e (refusing function args below type f at defined deep)
  begins (goes charge e run) = rw e (going charge run)
  begins (calls function args below type f e defined few run) = rw e (calling function args below type f defined few run)
  begins (asks call below e imported before run) = rw e (asking call.function call.args below call refl imported run)

module _ (m : Contents) (depth : ℕ) where
  by_end : {last' here : Moment} {after : List Mark} {s : Store} {results : List Value} {trace' : List HostCall} {o' : RunEnd} {u' : ℕ} {t' : Store}
      → Begins m depth last' s here after (Ends results) trace' o' u' t' → here ≡ last'
  by_end (ending results at) = at
  by_end (stopping move at charged) = absurd charged

  by_trap : {last' here : Moment} {after : List Mark} {s : Store} {trap : ℕ} {trace' : List HostCall} {o' : RunEnd} {u' : ℕ} {t' : Store}
      → Begins m depth last' s here after (Traps trap) trace' o' u' t' → here ≡ last'
  by_trap (trapping trap at) = at
  by_trap (stopping move at charged) = at

  by_spent : {last' here : Moment} {after : List Mark} {s : Store} {move : Move} {trace' : List HostCall} {o' : RunEnd} {u' : ℕ} {t' : Store}
      → Begins m depth last' s here after move trace' o' u' t' → IsCharged move → o' ≡ OutOfFuel → u' ≡ 0 → here ≡ last'
  by_spent (ending results at) charged e z = absurd charged
  by_spent (trapping trap at) charged e z = at
  by_spent (stopping move at c) charged e z = at
  by_spent (refusing function args below type f at defined deep) charged e z = at
  by_spent (going {s' = s'} {there = there} charge run) charged e z = absurd (omega (arith, z, some_charge charge s' there charged))
  by_spent (calling function args below type f defined few run) charged e z = absurd (omega (arith, z))
  by_spent (asking function args below call k i run) charged e z = absurd (omega (arith, z))

  by_depth : {last' here : Moment} {after : List Mark} {s : Store} {function : ℕ} {args : List Value} {below : List Context} {trace' : List HostCall} {o' : RunEnd} {u' : ℕ} {t' : Store}
      (type : FuncType) (f : Func) → IsDefined m function type f → depth ≤ frames below
      → Begins m depth last' s here after (Calls function args below) trace' o' u' t' → here ≡ last'
  by_depth type f defined deep (refusing function args below type' f' at defined' deep') = at
  by_depth type f defined deep (stopping move at charged) = at
  by_depth type f defined deep (calling function args below type' f' defined' few run) = absurd (omega (arith, deep, few))
  by_depth type f defined deep (asking function args below call k i run) = absurd (not_both m function type f defined i)

  -- whatever other run there is
  abbrev Alike : (last : Moment) → Store → List Context → List Mark → List HostCall → RunEnd → ℕ → Type 0
  Alike last s contexts marks trace o u =
      (last' : Moment) (trace' : List HostCall) (o' : RunEnd) (u' : ℕ) (t' : Store) → RunsTo m depth last' s contexts marks trace' o' u' t' → trace' ≡ trace → o' ≡ o → u' ≡ u → last ≡ last'

  by_goes : (charge : ℕ) {last last' here : Moment} {after : List Mark} {s s' : Store} {there : List Context} {trace trace' : List HostCall} {o o' : RunEnd} {u u' : ℕ} {t' : Store}
      → Alike last s' there after trace o u → Begins m depth last' s here after (Goes charge s' there) trace' o' u' t' → trace' ≡ trace → o' ≡ o → u' ≡ charge + u → last ≡ last'
  by_goes charge so (going c run) p q w = so _ _ _ _ _ run p q (omega (arith, w))
  by_goes charge {s' = s'} {there = there} so (stopping move at charged) p q w = absurd (omega (arith, w, some_charge charge s' there charged))

  by_calls : {last last' here : Moment} {after : List Mark} {s : Store} {function : ℕ} {args : List Value} {below : List Context} {trace trace' : List HostCall} {o o' : RunEnd} {u u' : ℕ} {t' : Store}
      (type : FuncType) (f : Func) (defined : IsDefined m function type f) → frames below < depth → Alike last s (entered type f args below) (marks_entered f defined.0 after) trace o u
      → Begins m depth last' s here after (Calls function args below) trace' o' u' t' → trace' ≡ trace → o' ≡ o → u' ≡ 1 + u → last ≡ last'
  by_calls type f defined few so (refusing function args below type' f' at defined' deep) p q w = absurd (omega (arith, deep, few))
  by_calls type f defined few so (stopping move at charged) p q w = absurd (omega (arith, w))
  by_calls type f defined few so (asking function args below call k i run) p q w = absurd (not_both m function type f defined i)
  by_calls {last' = last'} {after = after} {s = s} type f defined few so (calling {t = t'} {trace = trace'} {outcome = o'} {used = u'} function args below type' f' defined' few' run) p q w =
      let one = one_function m function type' type f' f defined' defined in
      let same : defined'.0 ≡ defined.0 = omega (arith, defined'.1, defined.1) in
      so _ _ _ _ _
      (rw (one.0, one.1, same) at run) p q (omega (arith, w))

  by_asks : {last last' here : Moment} {after : List Mark} {s : Store} {function : ℕ} {args : List Value} {below : List Context} {trace trace' : List HostCall} {o o' : RunEnd} {u u' : ℕ} {t' : Store}
      (call : HostCall) → IsImported m function → Alike last (with_memory call.after s) (receiving (as_operands call.answer) below) after trace o u
      → Begins m depth last' s here after (Calls function args below) trace' o' u' t' → trace' ≡ call ∷ trace → o' ≡ o → u' ≡ 1 + u → last ≡ last'
  by_asks call imported so (refusing function args below type' f' at defined deep) p q w = absurd (not_both m function type' f' defined imported)
  by_asks call imported so (stopping move at charged) p q w = absurd (cc)
  by_asks call imported so (calling function args below type' f' defined few run) p q w = absurd (not_both m function type' f' defined imported)
  by_asks {last' = last'} {after = after} {s = s} {trace = trace} call imported so (asking {t = t'} {trace = trace'} {outcome = o'} {used = u'} function args below call' k i run) p q w =
      let same : call' ≡ call = cc in
      let rest : trace' ≡ trace = cc in
      so _ _ _ _ _ (rw same at run) rest q (omega (arith, w))

  alike : {last : Moment} {s : Store} {contexts : List Context} {marks : List Mark} {trace : List HostCall} {o : RunEnd} {u : ℕ} {t : Store}
      → RunsTo m depth last s contexts marks trace o u t → Alike last s contexts marks trace o u
  alike (ends results at e) last' trace' o' u' t' run p q w = sym at ∙ by_end (rw e at (begins m depth last' run))
  alike (traps trap at e) last' trace' o' u' t' run p q w = sym at ∙ by_trap (rw e at (begins m depth last' run))
  alike (spent at charged) last' trace' o' u' t' run p q w = sym at ∙ by_spent (begins m depth last' run) charged q w
  alike (too_deep function args below type f at e defined deep) last' trace' o' u' t' run p q w = sym at ∙ by_depth type f defined deep (rw e at (begins m depth last' run))
  alike (goes charge e first) last' trace' o' u' t' run p q w = by_goes charge (alike first) (rw e at (begins m depth last' run)) p q w
  alike (calls function args below type f e defined few first) last' trace' o' u' t' run p q w =
      by_calls type f defined few (alike first) (rw e at (begins m depth last' run)) p q w
  alike (asks call below e imported before first) last' trace' o' u' t' run p q w = by_asks call imported (alike first) (rw e at (begins m depth last' run)) p q w

  pub one_stop : (s : Store) (contexts : List Context) (marks : List Mark) (trace : List HostCall) (outcome : RunEnd) (used : ℕ) (t t' : Store) (last last' : Moment)
      → RunsTo m depth last s contexts marks trace outcome used t → RunsTo m depth last' s contexts marks trace outcome used t' → last ≡ last'
  one_stop s contexts marks trace outcome used t t' last last' first second = alike first last' trace outcome used t' second refl refl refl

  -- so does a call from outside
  stopped_one : (s : Store) (function : ℕ) (args : List Value) (trace trace' : List HostCall) (o o' : RunEnd) (u u' : ℕ) (t t' : Store) (stop stop' : Option Halt)
      → trace' ≡ trace → o' ≡ o → u' ≡ u → Stopped m depth s function args trace o u t stop → Stopped m depth s function args trace' o' u' t' stop' → stop ≡ stop'
  stopped_one s function args trace trace' o o' u u' t t' stop stop' p q w a b =
      let one = one_function m function b.type a.type b.f a.f b.defined a.defined in
      let same : b.defined.0 ≡ a.defined.0 = omega (arith, b.defined.1, a.defined.1) in
      let run : RunsTo m depth b.last s (entered a.type a.f args []) (marks_entered a.f a.defined.0 []) trace' o' u' t' =
      rw (one.0, one.1, same) at b.runs in
      let last = alike a.runs b.last trace' o' u' t' run p q w in
      a.told ∙ ap (λ (x : Moment). Some (halt_at o x)) last ∙ ap (λ (x : RunEnd). Some (halt_at x b.last)) (sym q) ∙ sym b.told

  pub stops_one : (s : Store) (function : ℕ) (args : List Value) (trace trace' : List HostCall) (e e' : Ending) (u u' : ℕ) (t t' : Store) (stop stop' : Option Halt)
      → trace' ≡ trace → e' ≡ e → u' ≡ u → StopsAt m depth s function args trace e u t stop → StopsAt m depth s function args trace' e' u' t' stop' → stop ≡ stop'
  stops_one s function args trace trace' e e' u u' t t' stop stop' p q w a b =
      by_ending e a (rw q at b) where
        by_ending : (e : Ending) → StopsAt m depth s function args trace e u t stop → StopsAt m depth s function args trace' e u' t' stop' → stop ≡ stop'
        by_ending (how.Return values) a b = a ∙ sym b
        by_ending _ a b = stopped_one s function args trace trace' _ _ u u' t t' stop stop' p refl w a b

-- a run that has marks is a run
pub is_run : (m : Contents) (depth : ℕ) (s : Store) (contexts : List Context) (marks : List Mark) (trace : List HostCall) (outcome : RunEnd) (used : ℕ) (t : Store) (last : Moment)
    → RunsTo m depth last s contexts marks trace outcome used t → Run m depth s contexts trace outcome used t
is_run m depth s contexts marks trace outcome used t last r = as_run r where
  as_run : {s t : Store} {contexts : List Context} {marks : List Mark} {trace : List HostCall} {outcome : RunEnd} {used : ℕ}
      → RunsTo m depth last s contexts marks trace outcome used t → Run m depth s contexts trace outcome used t
  as_run (ends results at e) = run.ends results e
  as_run (traps trap at e) = run.traps trap e
  as_run (spent at k) = run.spent k
  as_run (too_deep function args below type f at e d h) = run.too_deep function args below type f e d h
  as_run (goes charge e w) = run.goes charge e (as_run w)
  as_run (calls function args below type f e d h w) = run.calls function args below type f e d h (as_run w)
  as_run (asks call below e i b w) = run.asks call below e i b (as_run w)
