-- A step of an instruction has a charge.
use Rattle.reduction.proofs.Words.{Code, code_left, Contents, Context, Done, Ends, Goes, IsCharged, List, Move, next, SoundWithin, Store, Stuck, suc, ValType}
use Rattle.reduction.proofs.Words.{Value, zero}
use Rattle.reduction.proofs.Rules.{StepRule, next_rule}
use Rattle.reduction.proofs.Rules as rule

abbrev pub OrStuck : Move → Type 0
OrStuck (Goes zero s contexts) = ⊥
OrStuck (Goes (suc n) s contexts) = Unit {0}
OrStuck (Ends results) = ⊥
OrStuck _ = Unit {0}

-- something begins, and no sequence ends
abbrev pub Begins : Code → Type 0
Begins Done = ⊥
Begins _ = Unit {0}

costs_by : {m : Contents} {s : Store} {contexts : List Context} {values : List Value} {code : Code} {move : Move}
    → StepRule m s contexts values code move → Begins code → OrStuck move
costs_by rule.closes begins = search
costs_by _ begins = search

pub costs_to_begin : (m : Contents) (s : Store) (contexts : List Context) → Begins (code_left contexts) → OrStuck (next m s contexts)
costs_to_begin m s contexts begins = costs_by (next_rule m s contexts) begins

pub charged : (m : Contents) (answers : List ValType) (move : Move) → OrStuck move → SoundWithin m 128 answers move → IsCharged move
charged m answers (Goes zero s contexts) k ok = k
charged m answers (Goes (suc n) s contexts) k ok = tt
charged m answers (Ends results) k ok = k
charged m answers Stuck k ok = ok
charged m answers _ k ok = tt
