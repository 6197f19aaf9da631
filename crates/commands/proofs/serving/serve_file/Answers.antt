use Rattle.std.proofs.Common.{string_bytes}
use Rattle.std.proofs.lemmas.Result.{IfOk-weaker}
use Rattle.std.specs.Arc.{arc_value}
use Rattle.running.specs.Accepted.{IsLoaded}
use Rattle.commands.proofs.serving.serve_file.Goals as goal

pub returns : goal.returns
returns g c =
    let linked = arc_value c.in_ok-linked.linked in
    let held : IsLoaded (g.R.Reader.gives c.args.reader.now) (string_bytes c.args.service.now.file) linked =
    rw (← c.as_str.ensures.value) c.in_ok-linked.ensures in
    IfOk-weaker c.serve_module.result _ _ (λ status loops done. record { loaded = linked; held = held; loops = loops done }) c.serve_module.ensures
