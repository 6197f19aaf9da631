use Rattle.imports.proofs.Known.{entry_is_small}
use Rattle.imports.proofs.by_name.find_entry.Goals as goal

pub keep_entry-requires : goal.keep_entry-requires
keep_entry-requires c =
    entry_is_small c.args.contents.now c.args.entry c.entry_of.result c.requires.few_imports c.requires.few_functions c.entry_of.ensures

pub returns : goal.returns
returns c = rw c.keep_entry.ensures c.entry_of.ensures
