use Rattle.std.specs.Arc.{arc_value}
use Rattle.running.proofs.work_command.work.Goals as goal

pub returns-clause-done : goal.returns-clause-done
returns-clause-done g c = λ done. record {
  read = (arc_value c.in_ok-bytes.bytes).items;
  given = c.in_ok-bytes.ensures.given;
  loaded = c.in_ok-linked.linked;
  held = rw (← c.as_str.ensures.value) c.in_ok-linked.ensures.loaded;
  computed = c.in_ok-report.ensures.computed (c.status_of.ensures.done done);
}

pub returns-clause-ended : goal.returns-clause-ended
returns-clause-ended g c = λ ended. record {
  read = (arc_value c.in_ok-bytes.bytes).items;
  given = c.in_ok-bytes.ensures.given;
  loaded = c.in_ok-linked.linked;
  held = rw (← c.as_str.ensures.value) c.in_ok-linked.ensures.loaded;
  ended = c.in_ok-report.ensures.ended (c.status_of.ensures.ended ended);
}
