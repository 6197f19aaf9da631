use Rattle.places.proofs.Words.{get_or, immediates_of, rules, slice_get-get_or, ◌≡◌}
use Rattle.places.proofs.WalkLaws.{if_none, none_then, none_empty}
use Rattle.places.proofs.LengthLaws.{free_operation, table_some, plain_some, no_table_labels, no_table_integers, no_plain}
use Rattle.places.proofs.operations.behind_operation.Goals as goal

pub returns-then-at-bytes-clause-none : goal.returns-then-at-bytes-clause-none
returns-then-at-bytes-clause-none c = none_empty free_operation c.args.bytes.now c.args.at c.if-at-bytes.true

pub returns-in_err-labels-clause-none : goal.returns-in_err-labels-clause-none
returns-in_err-labels-clause-none c =
    if_none _ (no_table_labels c.args.bytes.now c.args.at (get_or c.args.bytes.now c.args.at 0) (slice_get-get_or c.args.bytes.now c.args.at 0 (search rules))
    (search rules) c.in_err-labels.ensures.none)

pub returns-then-opcode-eq-BR_TABLE-clause-found : goal.returns-then-opcode-eq-BR_TABLE-clause-found
returns-then-opcode-eq-BR_TABLE-clause-found c =
    table_some c.args.bytes.now c.args.at (get_or c.args.bytes.now c.args.at 0) c.in_ok-labels.labels c.in_ok-labels.first
    (slice_get-get_or c.args.bytes.now c.args.at 0 (search rules)) (search rules) c.in_ok-labels.ensures.here c.behind_integers.result c.behind_integers.ensures.found

pub returns-then-opcode-eq-BR_TABLE-clause-none : goal.returns-then-opcode-eq-BR_TABLE-clause-none
returns-then-opcode-eq-BR_TABLE-clause-none c =
    none_then c.behind_integers.result c.behind_integers.ensures.none (λ none.
    no_table_integers c.args.bytes.now c.args.at (get_or c.args.bytes.now c.args.at 0) c.in_ok-labels.labels c.in_ok-labels.first
    (slice_get-get_or c.args.bytes.now c.args.at 0 (search rules)) (search rules) c.in_ok-labels.ensures.here none)

pub returns-clause-found : goal.returns-clause-found
returns-clause-found c =
    plain_some c.args.bytes.now c.args.at (get_or c.args.bytes.now c.args.at 0) c.immediates.result
    (slice_get-get_or c.args.bytes.now c.args.at 0 (search rules)) (search rules) (search rules) c.behind_integers-2.result c.behind_integers-2.ensures.found

pub returns-clause-none : goal.returns-clause-none
returns-clause-none c =
    let same : c.immediates.result ≡ immediates_of (get_or c.args.bytes.now c.args.at 0) = search rules in
    none_then c.behind_integers-2.result c.behind_integers-2.ensures.none (λ none.
    no_plain c.args.bytes.now c.args.at (get_or c.args.bytes.now c.args.at 0) (slice_get-get_or c.args.bytes.now c.args.at 0 (search rules)) (search rules)
    (rw same at none))
