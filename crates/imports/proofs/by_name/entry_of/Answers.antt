use Rattle.imports.proofs.Words.{All, bytes_eq-Decides, Contents, ModuleExport, name_of_entry, rules, subst, take_all, ◌≡◌, ◌≢◌}
use Rattle.imports.proofs.Known.{callable_at}
use Rattle.imports.proofs.by_name.entry_of.Goals as goal

pub returns-then-eq : goal.returns-then-eq
returns-then-eq c =
    let m : Contents = c.args.contents.now in
    let equal : c.as_slice.result.now ≡ c.as_bytes.result.now = search (rules, bytes_eq-Decides) in
    let named : name_of_entry c.args.entry ≡ c.export-item.result.name = cc in
    let k = callable_at m c.loop-export.export-index c.export-item.result c.args.entry (search rules) (search rules) c.requires named in
    record { found = k.0; typed = k.1 }

pub returns : goal.returns
returns c =
    record {
      found = subst (All (λ (e : ModuleExport). name_of_entry c.args.entry ≢ e.name)) (take_all c.loop-export.export-index c.args.contents.now.exports (search rules)) c.loop-export.invariant;
      typed = tt;
    }
