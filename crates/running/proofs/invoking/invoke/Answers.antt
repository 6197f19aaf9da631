use Rattle.std.proofs.Common.{string_bytes, sym, subst}
use Rattle.std.specs.Arc.{arc_value}
use Rattle.syntax.specs.Loaded.{Loaded}
use Rattle.running.specs.Accepted.{HoldsModule}
use Rattle.running.proofs.InvocationParts.{invoked}
use Rattle.running.proofs.invoking.invoke.Goals as goal

pub returns : goal.returns
returns g c = λ done.
    let i = c.args.invocation.now in
    let gives = g.R.Reader.gives c.args.reader.now in
    let linked = c.in_ok-linked.linked in
    let held : HoldsModule gives (string_bytes i.file) linked.contents = rw (← c.as_str.ensures.value) (linked.bytes, c.in_ok-linked.ensures.loaded.0, c.in_ok-linked.ensures.loaded.1) in
    let same = subst (λ (l : Loaded). HoldsModule gives (string_bytes i.file) l.contents) (sym c.in_ok-shared.ensures.ok) held in
    invoked gives i (arc_value c.in_ok-shared.shared).contents c.in_ok-called.called same c.in_ok-called.ensures (c.in_ok-status.ensures done)
