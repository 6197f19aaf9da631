use Rattle.order.proofs.Words.{ap, arc_value, Contents, IsLinked, Loaded, None, order_of, Some, subst, sym, ℕ, ◌∙◌, ◌≡◌}
use Rattle.order.proofs.InSlices.{no_start, start_takes, start_is_defined, goes_on_same}
use Rattle.order.proofs.running.begin_start.Goals as goal

pub begin_work-requires-clause-started : goal.begin_work-requires-clause-started
begin_work-requires-clause-started c =
    let same : c.contents.result.now ≡ (arc_value c.args.order.module).contents = c.contents.ensures.same ∙ ap (λ (l : Loaded). l.contents) (c.valid.ensures.same ∙ c.deref.ensures) in
    let fresh = c.requires.unbegun in
    no_start (order_of c.args.order) c.args.machine.state c.args.machine.host.reply.items fresh.fresh (subst (λ (m : Contents). m.start ≡ None) same c.in_default.is) fresh.empty

pub begin-paused-requires-clause-typed : goal.begin-paused-requires-clause-typed
begin-paused-requires-clause-typed c =
    let same : c.contents.result.now ≡ (arc_value c.args.order.module).contents = c.contents.ensures.same ∙ ap (λ (l : Loaded). l.contents) (c.valid.ensures.same ∙ c.deref.ensures) in
    start_takes (arc_value c.args.order.module).contents c.requires.runs.fits.valid c.in-Some.function (subst (λ (m : Contents). m.start ≡ Some c.in-Some.function) same c.in-Some.is)

pub begin-paused-requires-clause-defined : goal.begin-paused-requires-clause-defined
begin-paused-requires-clause-defined c =
    let same : c.contents.result.now ≡ (arc_value c.args.order.module).contents = c.contents.ensures.same ∙ ap (λ (l : Loaded). l.contents) (c.valid.ensures.same ∙ c.deref.ensures) in
    start_is_defined (arc_value c.args.order.module).contents c.requires.runs.fits.valid (subst (λ (l : Loaded). IsLinked l.contents) c.deref.ensures c.valid.ensures.linked) c.in-Some.function
    (subst (λ (m : Contents). m.start ≡ Some c.in-Some.function) same c.in-Some.is)

pub start_on-requires-clause-starting : goal.start_on-requires-clause-starting
start_on-requires-clause-starting c =
    let same : c.contents.result.now ≡ (arc_value c.args.order.module).contents = c.contents.ensures.same ∙ ap (λ (l : Loaded). l.contents) (c.valid.ensures.same ∙ c.deref.ensures) in
    let fresh = c.requires.unbegun in
    record {
      s = c.args.machine.state;
      old = c.args.machine.host;
      fresh = fresh.fresh;
      is_start = subst (λ (m : Contents). m.start ≡ Some c.in-Some.function) same c.in-Some.is ∙ ap (λ (f : ℕ). Some f) (sym c.begin-paused.ensures.function);
      empty = fresh.empty;
      calling = c.begin-paused.ensures.calling;
    }

pub returns : goal.returns
returns c =
    goes_on_same (order_of c.args.order) 0 c.begin-paused.result.used c.args.machine.host.copied c.begin-paused.new.self.host.copied
    c.args.units c.args.machine.state c.begin-paused.new.self.state c.start_on.result c.begin-paused.ensures.used c.begin-paused.ensures.copied c.start_on.ensures
