use Rattle.std.proofs.Common.{arith}
use Rattle.instance.proofs.Fronts.{grown-front}
use Rattle.instance.proofs.memory.Memory.grow.Goals as goal

pub returns-clause-grown : goal.returns-clause-grown
returns-clause-grown c =
    let m = c.self.inside in
    grown-front m.limit c.args.delta m.pages m.front.items c.args.self.now c.self.view_is c.self.invariant.within (omega (arith, c.if-delta-self.false, c.if-before-self.false))
