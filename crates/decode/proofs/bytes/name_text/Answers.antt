use Rattle.decode.proofs.Words.{Bor, free_counted, leaves_only_if, List, shorter, subst, sym, ℕ}
use Rattle.std.specs.Prelude.{IsUtf8}
use Rattle.syntax.specs.Language.{name as spells_name}
use Rattle.decode.proofs.RefusalLaws.{hence, stops_behind}
use Rattle.decode.proofs.Exits.{exit_by}
use Rattle.decode.proofs.bytes.name_text.Goals as goal

pub returns-in_err-text : goal.returns-in_err-text
returns-in_err-text c =
    exit_by (λ (t : Bor (List ℕ)). t.now) {G = spells_name} _ _ c.from_residual.ensures.1 (λ ok. hence (c.in_err-text.ensures.read ok) (λ text none v rest h. none v rest (leaves_only_if h).1))

pub returns-in_default : goal.returns-in_default
returns-in_default c ok =
    stops_behind c.in_ok-text.ensures.read (shorter free_counted _ _ _ c.in_ok-text.ensures.read) c.behind.ensures.left (λ text left k v rest h.
    let l = leaves_only_if h in
    let e = free_counted.one c.in_ok-text.text.now v _ _ rest k l.1 in
    c.in_default.ensures.cases.0 (subst IsUtf8 (sym e.0) l.0))
