use Rattle.std.proofs.Common.{rules}
use Rattle.resident.specs.Calls.{ExportsNoFunction}
use Rattle.resident.proofs.Numbered.{no_function, numbered}
use Rattle.resident.proofs.exported.export_number.Goals as goal

pub returns-in_err-_function : goal.returns-in_err-_function
returns-in_err-_function c =
    let none : ExportsNoFunction c.args.valid.now.contents c.args.name.now =
    no_function c.args.valid.now.contents c.args.name.now c.in_ok-number.number c.in_ok-number.ensures c.in_err-_function.ensures.numbered in
    search rules

pub returns : goal.returns
returns c =
    numbered c.args.valid.now.contents c.args.name.now c.in_ok-number.number _ _ c.in_ok-number.ensures c.in_ok-_function.ensures.numbered c.in_ok-_function.ensures.typed
