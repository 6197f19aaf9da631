use Rattle.handles.proofs.Words.{arith, Check, how_many_listed, Idle, ListPlace, MAX_HANDLES, Option, place_of, subst, sym, Timer, with, with_list, ◌≤◌}
use Rattle.handles.proofs.Sets.{no_shorter}
use Rattle.handles.proofs.sorted.Lists.add.Goals as goal

pub put_in-requires-clause-room : goal.put_in-requires-clause-room
put_in-requires-clause-room c =
    let l = c.args.self.now in
    let idle = no_shorter (place_of Idle c.args.handle c.args.new.now) l.idle in
    let check = no_shorter (place_of Check c.args.handle c.args.new.now) l.check in
    rw c.place.ensures (omega (arith, c.requires, idle, check))

pub put_in-requires-2-clause-room : goal.put_in-requires-2-clause-room
put_in-requires-2-clause-room c =
    let l = c.args.self.now in
    let check = no_shorter (place_of Check c.args.handle c.args.new.now) l.check in
    let timers : Option ListPlace = place_of Timer c.args.handle c.args.new.now in
    let both = subst (λ (o : Option ListPlace). how_many_listed (with_list Idle (with o l.idle) (with_list Timer (with timers l.timers) l)) ≤ MAX_HANDLES) (sym c.place-2.ensures) (omega (arith, c.requires, check)) in
    let first = rw (← c.place.ensures) at both in
    rw c.put_in.ensures first
