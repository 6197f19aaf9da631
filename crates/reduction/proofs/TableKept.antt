-- No instruction writes the table.
use Rattle.reduction.proofs.Words.{Contents, Context, defined, Goes, HostCall, imported, Invokes, List, next, refl, Run, RunEnd, Value, ℕ, ◌∙◌, ◌≡◌}
use Rattle.instance.specs.Store.{Store as Memory_and_globals}
use Rattle.reduction.specs.Run.{RunsWithin, goes, calls, asks}
use Rattle.reduction.proofs.PlainStepView.{StoreLeft, same_store}
use Rattle.reduction.proofs.Rules.{store_after}

-- an instruction leaves the table
table_left : {s t : Memory_and_globals} → StoreLeft s t → t.table ≡ s.table
table_left same_store = refl
table_left _ = refl

step_keeps : (m : Contents) (s : Memory_and_globals) (contexts there : List Context) (charge : ℕ) (s' : Memory_and_globals) → next m s contexts ≡ Goes charge s' there → s'.table ≡ s.table
step_keeps m s contexts there charge s' e = table_left (rw e at (store_after m s contexts))

module _ (m : Contents) (depth : ℕ) where
  run_keeps : {s : Memory_and_globals} {contexts : List Context} {trace : List HostCall} {o : RunEnd} {u : ℕ} {t : Memory_and_globals} → Run m depth s contexts trace o u t → t.table ≡ s.table
  run_keeps {s} {contexts} (goes {s'} {contexts'} charge e run) = run_keeps run ∙ step_keeps m s contexts contexts' charge s' e
  run_keeps (calls function args below type f e there room run) = run_keeps run
  run_keeps (asks call below e there before run) = run_keeps run
  run_keeps _ = refl

pub table_stays : (m : Contents) (depth fuel : ℕ) (s : Memory_and_globals) (contexts : List Context) (trace : List HostCall) (outcome : RunEnd) (used : ℕ) (t : Memory_and_globals)
    → RunsWithin m depth fuel s contexts trace outcome used t → t.table ≡ s.table
table_stays m depth fuel s contexts trace outcome used t run = run_keeps m depth run.run

pub table_stays_outside : (m : Contents) (depth fuel : ℕ) (s : Memory_and_globals) (function : ℕ) (args : List Value) (trace : List HostCall) (outcome : RunEnd) (used : ℕ) (t : Memory_and_globals)
    → Invokes m depth fuel s function args trace outcome used t → t.table ≡ s.table
table_stays_outside m depth fuel s function args trace outcome used t (defined type f is run) = run_keeps m depth run.run
table_stays_outside m depth fuel s function args trace outcome used t (imported call is same given before) = refl
