use Rattle.places.proofs.WalkLaws.{none_then}
use Rattle.places.proofs.LimitLaws.{table_some, memory_some, no_table, no_memory}
use Rattle.places.proofs.sizes.type_at.Goals as goal

pub returns-then-section-eq-TABLES-clause-found : goal.returns-then-section-eq-TABLES-clause-found
returns-then-section-eq-TABLES-clause-found c =
    table_some c.args.bytes.now c.args.section c.args.at c.if-section-eq-TABLES.true c.limits_at.result c.limits_at.ensures.found c.limits_at.ensures.inside

pub returns-then-section-eq-TABLES-clause-none : goal.returns-then-section-eq-TABLES-clause-none
returns-then-section-eq-TABLES-clause-none c =
    none_then c.limits_at.result c.limits_at.ensures.none (λ none. no_table c.args.bytes.now c.args.section c.args.at c.if-section-eq-TABLES.true none)

pub returns-clause-found : goal.returns-clause-found
returns-clause-found c = memory_some c.args.bytes.now c.args.section c.args.at c.if-section-eq-TABLES.false c.limits_at-2.result c.limits_at-2.ensures.found

pub returns-clause-none : goal.returns-clause-none
returns-clause-none c =
    none_then c.limits_at-2.result c.limits_at-2.ensures.none (λ none. no_memory c.args.bytes.now c.args.section c.args.at c.if-section-eq-TABLES.false none)
