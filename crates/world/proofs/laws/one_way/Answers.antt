use Rattle.world.proofs.Apart.{apart_after}
use Rattle.world.proofs.OneWay.{one_way_after}
use Rattle.world.proofs.GuestsOfRuns.{run_of}
use Rattle.world.specs.World.{opening_world}
use Rattle.world.proofs.laws.one_way.Goals as goal

pub returns-clause-way : goal.returns-clause-way
returns-clause-way c settings workers steps log w placed run l request =
    one_way_after settings placed workers l request c.asked_once.ensures.handed c.asked_once.ensures.own steps log w run

pub returns-clause-cancelled : goal.returns-clause-cancelled
returns-clause-cancelled c settings workers steps log w placed l made calls request won =
    let run = run_of l (opening_world settings workers) steps log made w calls in
    apart_after settings placed workers l request c.asked_once.ensures.handed c.asked_once.ensures.own steps log w run.0
    (rw run.1 at won)
