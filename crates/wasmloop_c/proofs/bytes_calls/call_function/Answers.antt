use Rattle.wasmloop_c.proofs.Names.{sym, ◌∙◌}
use Rattle.wasmloop_c.proofs.Answering.{called}
use Rattle.wasmloop_c.proofs.bytes_calls.call_function.Goals as goal

pub call_over-ended-requires-clause-names : goal.call_over-ended-requires-clause-names
call_over-ended-requires-clause-names c =
    rw (c.in_ok-host.ensures.linked, c.in_ok-linked.ensures) (rw (c.deref.ensures, c.in_ok-linked.ensures) at c.imports_are_named.ensures)

pub returns-clause-called : goal.returns-clause-called
returns-clause-called c =
    let e = c.call_over-ended.ensures in (
      c.call_over-ended.result,
      called c.args.resident.now c.call_over-ended.new.self c.args.given.now.limits c.args.function c.args.args.now c.args.given.now.bytes.now c.into_reply.result.items
          c.call_over-ended.result _ _ (c.in_ok-host.ensures.linked ∙ c.in_ok-linked.ensures) c.in_ok-host.ensures.bytes c.in_ok-host.ensures.reply
          (sym c.into_reply.ensures) e.module (rw (c.depth.ensures.value, c.fuel.ensures) at e.runs) (rw c.fuel.ensures at e.within)
          e.results,
      c.write.ensures,
    )
