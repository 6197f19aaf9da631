use Rattle.std.proofs.Common.{Some, None, sym}
use Rattle.decode.proofs.AssemblyLaws.{contents_seen}
use Rattle.decode.proofs.assembly.contents_of.Goals as goal

pub returns-in-Some : goal.returns-in-Some
returns-in-Some c = sym (contents_seen c.args.id c.args.sections.now (Some c.in-Some.section) (sym c.in-Some.ensures))

pub returns-in-None : goal.returns-in-None
returns-in-None c = sym (contents_seen c.args.id c.args.sections.now None (sym c.in-None.ensures))
