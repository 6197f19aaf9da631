use Rattle.std.proofs.Common.{◌∙◌}
use Rattle.interp.proofs.OnMachines.{paused_in}
use Rattle.interp.proofs.machine.Machine.begin.Goals as goal

pub returns-clause-paused : goal.returns-clause-paused
returns-clause-paused g c =
    let call = c.args.call.now in
    paused_in g.H.Host.moves _ _ _ _ _ _ c.contents.ensures.same (c.as_slice.ensures ∙ c.deref.ensures) c.as_slice-callers.ensures.value
    c.args.state.now c.args.state.now c.args.host.now c.args.host.now call.args.now call.fuel c.begin.result c.begin.new.slots c.begin.ensures.paused

pub returns-clause-fits : goal.returns-clause-fits
returns-clause-fits g c =
    let fits = c.requires.fits in
    record { valid = fits.valid; agree = fits.agree; room = fits.room; shallow = fits.shallow }
