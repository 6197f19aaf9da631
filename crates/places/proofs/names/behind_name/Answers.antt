use Rattle.std.proofs.Common.{◌≡◌, true, false}
use Rattle.std.proofs.lemmas.Bool.Decides.{Decides-eqb}
use Rattle.std.proofs.lemmas.Slice.Eq.{slice_eq-Decides}
use Rattle.places.proofs.WalkLaws.{if_none}
use Rattle.places.proofs.NameLaws.{no_name, other_name}
use Rattle.places.proofs.names.behind_name.Goals as goal

pub returns-in_err-name-clause-none : goal.returns-in_err-name-clause-none
returns-in_err-name-clause-none c = if_none _ (no_name c.args.wanted.now c.in_err-name.ensures.none)

pub returns-then-eq-clause-found : goal.returns-then-eq-clause-found
returns-then-eq-clause-found c =
    rw ((slice_eq-Decides Decides-eqb c.in_ok-name.name.now c.args.wanted.now c.eq.result c.eq.ensures).0 c.if-eq.true) at c.in_ok-name.ensures.found

pub returns-else-eq-clause-none : goal.returns-else-eq-clause-none
returns-else-eq-clause-none c =
    other_name c.in_ok-name.ensures.found (λ e.
    let same : c.eq.result ≡ true = (slice_eq-Decides Decides-eqb c.in_ok-name.name.now c.args.wanted.now c.eq.result c.eq.ensures).1 e in
    let other : c.eq.result ≡ false = c.if-eq.false in
    cc)
