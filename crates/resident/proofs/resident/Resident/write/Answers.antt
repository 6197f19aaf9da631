use Rattle.std.specs.Arc.{arc_value}
use Rattle.resident.proofs.Words.{subst, sym}
use Rattle.resident.specs.Inner.Going.{IsResting}
use Rattle.resident.specs.declared.kept.InstanceRoom.{InstanceRoom}
use Rattle.resident.proofs.Written.{written_keeps}
use Rattle.resident.proofs.resident.Resident.write.Goals as goal

pub invariant_of-self : goal.invariant_of-self
invariant_of-self c =
    let i = c.deref_mut.result.now in
    let v : IsResting (arc_value i.linked) i.state i.machine =
    subst (λ (k : InstanceRoom). IsResting (arc_value k.linked) k.state k.machine) (sym c.deref_mut.ensures.value) c.self.invariant in
    record {
      runs = v.runs;
      fit = written_keeps (arc_value i.linked).contents i.state c.args.at c.args.bytes.now c.write.result c.write.new.self
          (rw c.memory_mut.ensures.value at c.write.ensures) v.fit;
    }
