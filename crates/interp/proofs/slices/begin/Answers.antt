use Rattle.interp.proofs.Words.{arith, Caller, List, program_of, refl, standing, take, ◌-◌}
use Rattle.interp.proofs.CallersRoom.{deep}
use Rattle.interp.proofs.Slots.CallsBegin.{can_open}
use Rattle.interp.proofs.Slots.Hosted.{comes_nowhere}
use Rattle.interp.proofs.slices.begin.Goals as goal

pub open-at-requires : goal.open-at-requires
open-at-requires g c =
    let call = c.args.call.now in
    can_open c.args.code.now.contents.now call.function call.args.now c.requires.typed c.requires.valid c.requires.defined

pub returns-clause-paused : goal.returns-clause-paused
returns-clause-paused g c =
    let m = c.args.code.now.contents.now in
    let call = c.args.call.now in
    let callers : List Caller = take (call.depth - 1) c.args.frames.now in
    record {
      begun = record {
        takes = c.requires.typed;
        defined = c.requires.defined;
        fit = c.requires.store;
        start = c.open-at.result;
        slots = c.open-at.new.slots;
        frames = callers;
        opened = c.open-at.ensures.opened;
        small = c.open-at.ensures.small;
        deep = deep call.depth c.requires.depth c.args.frames.now c.requires.room;
      };
      paid = omega arith;
      comes = comes_nowhere m (program_of m c.args.code.now.tables.now) call.depth g.H.Host.moves c.requires.typed.type.results
          (standing c.open-at.result c.open-at.new.slots callers c.args.state.now call.fuel) c.args.host.now;
      stands = refl;
    }
