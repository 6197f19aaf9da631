use Rattle.order.proofs.Words.{arc_value, arith, codes, ExportsFunction, Loaded, order_of, Some, subst, sym, type_of_entry, type_of_function, Work, ℕ, ◌+◌, ◌≡◌}
use Rattle.order.proofs.InSlices.{work_takes, goes_on_same}
use Rattle.order.proofs.running.begin_work.Goals as goal

pub ask-requires-clause-exported : goal.ask-requires-clause-exported
ask-requires-clause-exported c = subst (λ (l : Loaded). ExportsFunction l.contents (codes "uv_work") c.in-Some.function) c.deref.ensures c.in-Some.ensures.found

pub begin-paused-requires-clause-typed : goal.begin-paused-requires-clause-typed
begin-paused-requires-clause-typed c =
    work_takes (arc_value c.args.order.module).contents c.in-Some.function c.args.order.op
    (subst (λ (l : Loaded). type_of_function l.contents c.in-Some.function ≡ Some (type_of_entry Work)) c.deref.ensures c.in-Some.ensures.typed)

pub work_on-requires-clause-working : goal.work_on-requires-clause-working
work_on-requires-clause-working c =
    let same = sym c.begin-paused.ensures.function in
    let exported = subst (λ (l : Loaded). ExportsFunction l.contents (codes "uv_work") c.in-Some.function) c.deref.ensures c.in-Some.ensures.found in
    let typed = subst (λ (l : Loaded). type_of_function l.contents c.in-Some.function ≡ Some (type_of_entry Work)) c.deref.ensures c.in-Some.ensures.typed in
    record {
      t = c.args.machine.state;
      old = c.args.machine.host;
      started = c.requires.started;
      exported = subst (λ (f : ℕ). ExportsFunction (arc_value c.args.order.module).contents (codes "uv_work") f) same exported;
      typed = subst (λ (f : ℕ). type_of_function (arc_value c.args.order.module).contents f ≡ Some (type_of_entry Work)) same typed;
      calling = c.begin-paused.ensures.calling;
    }

pub returns : goal.returns
returns c =
    let none = c.begin-paused.ensures.used in
    goes_on_same (order_of c.args.order) c.args.first (c.args.first + c.begin-paused.result.used) c.args.machine.host.copied c.begin-paused.new.self.host.copied
    c.args.units c.args.machine.state c.begin-paused.new.self.state c.work_on.result (omega (arith, none)) c.begin-paused.ensures.copied c.work_on.ensures
