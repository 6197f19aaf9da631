use Rattle.std.proofs.Common.{ℕ, ◌≡◌, ◌+◌, ◌*◌, ◌≤◌, length, ap, arith}
use Rattle.limits.specs.declared.TheConstants.{PAGE_SIZE}
use Rattle.instance.specs.declared.access.AccessSize.{AccessSize}
use Rattle.instance.specs.declared.access.AccessSize.TheVariants.{One}
use Rattle.instance.specs.Store.{MemoryInstance, byte_count}
use Rattle.instance.proofs.Fronts.{number_behind, length_is}
use Rattle.instance.proofs.memory.Memory.load_behind.Goals as goal

few_bytes : (size : AccessSize) → byte_count size ≤ 8
few_bytes One = omega arith
few_bytes _ = omega arith

pub returns-clause-value : goal.returns-clause-value
returns-clause-value c =
    let m = c.self.inside in
    let total : ℕ = m.pages * PAGE_SIZE in
    let long : length c.args.self.now.bytes ≡ total = length_is total m.front.items c.args.self.now.bytes c.self.invariant.within (ap (λ (it : MemoryInstance). it.bytes) c.self.view_is) in
    let fits : c.args.at + byte_count c.args.size ≤ total =
    omega (arith, long, c.len.ensures, c.len-else-at-len.ensures, c.if-at-len.false, c.if-count-len.false, c.bytes-count.ensures) in
    rw (← c.self.view_is) (number_behind total c.args.at (byte_count c.args.size) c.bytes-count.result c.len-2.result c.min-start.result c.len-3.result c.min-there.result c.number.result
    m.front.items c.as_slice.result.now c.copy_from_slice.new.self
    c.self.invariant.within fits (few_bytes c.args.size) c.bytes-count.ensures
    (omega (arith, c.len-2.ensures, m.front.ok.0)) c.min-start.ensures (omega (arith, c.len-3.ensures, m.front.ok.0)) c.min-there.ensures
    c.as_slice.ensures.value c.copy_from_slice.ensures.after c.number.ensures.value)
