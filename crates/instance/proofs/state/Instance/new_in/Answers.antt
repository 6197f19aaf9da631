use Rattle.std.proofs.Common.{rules}
use Rattle.instance.proofs.FreshStores.{is_store_of}
use Rattle.instance.proofs.state.Instance.new_in.Goals as goal

pub returns-clause-store : goal.returns-clause-store
returns-clause-store c = is_store_of c.args.valid.now.contents _ (search rules) (search rules)
