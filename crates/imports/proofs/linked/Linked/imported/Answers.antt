use Rattle.imports.proofs.Words.{AreCalls, Now, rules}
use Rattle.imports.proofs.Known.{call_there, call_kept}
use Rattle.imports.proofs.linked.Linked.imported.Goals as goal

pub bounds-as_slice-at : goal.bounds-as_slice-at
bounds-as_slice-at c =
    let all : AreCalls c.args.self.now.contents c.self.inside.calls = rw c.self.view_is at c.self.invariant.calls in
    let listed : AreCalls c.args.self.now.contents c.as_slice.result.now = rw c.as_slice.ensures all in
    call_there c.args.self.now.contents c.as_slice.result.now c.args.import listed c.requires (search rules)

pub returns-then-at-lt-KEPT_CALLS : goal.returns-then-at-lt-KEPT_CALLS
returns-then-at-lt-KEPT_CALLS c =
    let all : AreCalls c.args.self.now.contents c.self.inside.calls = rw c.self.view_is at c.self.invariant.calls in
    let listed : AreCalls c.args.self.now.contents c.as_slice.result.now = rw c.as_slice.ensures all in
    call_kept c.args.self.now.contents c.as_slice.result.now c.args.import Now listed c.requires (search rules)

pub call_of-requires-clause-known : goal.call_of-requires-clause-known
call_of-requires-clause-known c =
    rw c.contents.ensures.same c.self.invariant.linked.imports
