use Rattle.wasmloop_c.proofs.HeldLoops.{goes_on}
use Rattle.wasmloop_c.proofs.step_slices.go_on.Goals as goal

pub left_by-requires : goal.left_by-requires
left_by-requires c = goes_on c.args.held.number c.args.held.step c.args.units c.go_on.result c.args.held.begun c.go_on.ensures

pub returns : goal.returns
returns c = (c.go_on.result, c.go_on.ensures, c.left_by.ensures)
