use Rattle.resident.proofs.calling.Calling.go_on_into.Goals as goal

pub returns-in-Import : goal.returns-in-Import
returns-in-Import c = c.ask_into.ensures c.args.units
