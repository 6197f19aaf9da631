use Rattle.world.specs.Making.{setting_from}
use Rattle.world.proofs.WorldsOpen.{opens}
use Rattle.world.proofs.world.opening_loop.Goals as goal

pub returns : goal.returns
returns c =
    opens (setting_from c.args.loop_no c.args.config.now) _ _ c.new-2.result c.in_ok-linked.ensures c.in_ok-desk.ensures
    c.new-2.ensures.setting c.new-2.ensures.state c.new-2.ensures.store c.new-2.ensures.shared
