use Rattle.imports.proofs.Words.{length, refl, rules, slice_get, slice_get_read, Some, ◌≡◌}
use Rattle.imports.proofs.Known.{imports_from}
use Rattle.imports.proofs.Calls.{or_now}
use Rattle.imports.proofs.by_name.call_of.Goals as goal

pub returns : goal.returns
returns c =
    let m = c.args.contents.now in
    let n = c.args.import in
    let i = c.index-as_slice-import.result in
    let got : slice_get m.imports n ≡ Some i = slice_get_read m.imports (length m.imports) n i refl c.requires.there (search rules) in
    let known = imports_from m n i c.as_slice-2.result.now c.from_name.result got c.requires.known c.as_slice-2.ensures c.from_name.ensures in
    rw c.unwrap_or.ensures (or_now m n c.from_name.result known c.requires.there)
