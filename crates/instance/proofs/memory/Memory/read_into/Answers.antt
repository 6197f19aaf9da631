use Rattle.std.proofs.Common.{◌≡◌, ◌+◌, ◌*◌, ◌≤◌, ℕ, length, ap, arith}
use Rattle.limits.specs.declared.TheConstants.{PAGE_SIZE}
use Rattle.instance.specs.Store.{MemoryInstance}
use Rattle.instance.proofs.Fronts.{copied_behind, length_is}
use Rattle.instance.proofs.memory.Memory.read_into.Goals as goal

pub returns-clause-found : goal.returns-clause-found
returns-clause-found c _ =
    let m = c.self.inside in
    let total : ℕ = m.pages * PAGE_SIZE in
    let count : ℕ = length c.args.into.now in
    let long : length c.args.self.now.bytes ≡ total = length_is total m.front.items c.args.self.now.bytes c.self.invariant.within (ap (λ (it : MemoryInstance). it.bytes) c.self.view_is) in
    let fits : c.args.at + count ≤ total = omega (arith, long, c.len.ensures, c.len-else-at-len.ensures, c.if-at-len.false, c.if-count-len.false) in
    rw (← c.self.view_is) (copied_behind total c.args.at count c.len-2.result c.min-start.result c.len-3.result c.min-there.result
    m.front.items c.as_slice.result.now c.copy_from_slice.new.self c.fill.new.self
    c.self.invariant.within fits (omega (arith, c.len-2.ensures, m.front.ok.0)) c.min-start.ensures (omega (arith, c.len-3.ensures, m.front.ok.0)) c.min-there.ensures
    c.as_slice.ensures.value c.copy_from_slice.ensures.after (c.fill.ensures.after (λ y e. e)))
