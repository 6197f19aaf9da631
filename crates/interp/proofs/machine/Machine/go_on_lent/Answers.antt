use Rattle.interp.proofs.Words.{ap, arith, Caller, length, List, MAX_DEPTH, refl, subst, sym, ◌∙◌, ◌≤◌}
use Rattle.interp.proofs.OnMachines.{paused_in, take_seam}
use Rattle.interp.proofs.machine.Machine.go_on_lent.Goals as goal

pub go_on_lent-requires-clause-paused : goal.go_on_lent-requires-clause-paused
go_on_lent-requires-clause-paused g c =
    let m = c.args.self.now in
    let q = c.requires.paused in (
      q.0,
      q.1,
      q.2,
      q.3,
      paused_in g.H.Host.moves _ _ _ _ _ _ (sym c.contents.ensures.same) (sym (c.as_slice.ensures ∙ c.deref.ensures)) (sym c.as_mut_slice-callers.ensures.value)
          q.0 c.args.state.now q.1 c.args.host.now q.2 q.3 c.args.slice.now.paused m.slots q.4,
    )

pub returns-clause-over : goal.returns-clause-over
returns-clause-over g c s before args fuel paused =
    let m = c.args.self.now in
    let n = c.go_on_lent.new in
    let p = c.args.slice.now.paused in
    let moves = g.H.Host.moves in
    let seam = take_seam _ n.frames _ (c.go_on_lent.auto.frames ∙ c.as_mut_slice-callers.ensures.len) in
    let here =
    paused_in moves _ _ _ _ _ _ (sym c.contents.ensures.same) (sym (c.as_slice.ensures ∙ c.deref.ensures)) (sym c.as_mut_slice-callers.ensures.value)
    s c.args.state.now before c.args.host.now args fuel p m.slots paused in
    rw (c.contents.ensures.same, ← seam) at (c.in_ok-over.ensures.over s before args fuel here)

pub returns-in_err-over-clause-paused : goal.returns-in_err-over-clause-paused
returns-in_err-over-clause-paused g c none s before args fuel paused =
    let m = c.args.self.now in
    let n = c.go_on_lent.new in
    let tables = c.as_slice.ensures ∙ c.deref.ensures in
    let here =
    paused_in g.H.Host.moves _ _ _ _ _ _ (sym c.contents.ensures.same) (sym tables) (sym c.as_mut_slice-callers.ensures.value)
    s c.args.state.now before c.args.host.now args fuel c.args.slice.now.paused m.slots paused in
    let seam = take_seam _ n.frames _ (c.go_on_lent.auto.frames ∙ c.as_mut_slice-callers.ensures.len) in
    paused_in g.H.Host.moves _ _ _ _ _ _ c.contents.ensures.same tables (sym seam) s n.state before n.host args fuel n.slice.paused n.slots
    (c.in_err-over.ensures.paused refl s before args fuel here)

pub returns-in_err-over-clause-fits : goal.returns-in_err-over-clause-fits
returns-in_err-over-clause-fits g c =
    let fits = c.requires.fits in
    let room = fits.room in
    let n = c.go_on_lent.new in
    let as_many = c.go_on_lent.auto.frames in
    let callers = ap (λ (frames : List Caller). length frames) c.as_mut_slice-callers.ensures.value in
    let seam = take_seam _ n.frames _ (c.go_on_lent.auto.frames ∙ c.as_mut_slice-callers.ensures.len) in
    record {
      valid = fits.valid;
      agree = fits.agree;
      room = subst (λ (frames : List Caller). MAX_DEPTH ≤ length frames) (sym seam) (omega (arith, as_many, callers, room));
      shallow = fits.shallow;
    }

pub returns-clause-fits : goal.returns-clause-fits
returns-clause-fits g c =
    let fits = c.requires.fits in
    let room = fits.room in
    let n = c.go_on_lent.new in
    let as_many = c.go_on_lent.auto.frames in
    let callers = ap (λ (frames : List Caller). length frames) c.as_mut_slice-callers.ensures.value in
    let seam = take_seam _ n.frames _ (c.go_on_lent.auto.frames ∙ c.as_mut_slice-callers.ensures.len) in
    record {
      valid = fits.valid;
      agree = fits.agree;
      room = subst (λ (frames : List Caller). MAX_DEPTH ≤ length frames) (sym seam) (omega (arith, as_many, callers, room));
      shallow = c.in_ok-over.ensures.callers;
    }
