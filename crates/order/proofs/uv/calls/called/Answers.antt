use Rattle.order.proofs.ImportTypes.{named, imported, arguments_of}
use Rattle.order.proofs.uv.calls.called.Goals as goal

pub imported-requires : goal.imported-requires
imported-requires c = imported c.args.linked.now.contents c.args.import c.args.args.now c.requires

pub returns : goal.returns
returns c = record {
  imported = c.imported.ensures;
  typed = arguments_of c.args.linked.now.contents c.args.import c.imported.result c.args.args.now c.imported.ensures c.requires;
  answers = named c.args.linked.now.contents c.args.import c.imported.result c.imported.ensures;
}
