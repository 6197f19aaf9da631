use Rattle.resident.proofs.calling.Calling.go_on.Goals as goal

pub returns-in-Import : goal.returns-in-Import
returns-in-Import c = c.ask.ensures c.args.units
