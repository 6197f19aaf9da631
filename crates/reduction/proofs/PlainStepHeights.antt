-- How many operands and locals an instruction leaves that neither branches nor calls.
use Rattle.reduction.proofs.Words.{ap, arith, Contents, counts, Fails, Instr, Lacks, Leaves, length, length-append, List, plain_step, PlainStep, refl, Value, ℕ}
use Rattle.reduction.proofs.Words.{◌+◌, ◌∙◌, ◌≡◌}
use Rattle.std.proofs.lemmas.List.{length-set}
use Rattle.valid.specs.Height.{Effect, Changes, Ends}
use Rattle.instance.specs.Store.{Store as Memory_and_globals}
use Rattle.reduction.proofs.PlainStepView.{LocalsLeft, same_locals, local_set, PlainStepView, plain_step_view}

-- the operands behind an effect
abbrev pub Adds : Effect → (before after : ℕ) → Type 0
Adds (Changes pops pushes) before after = after + pops ≡ before + pushes
Adds Ends before after = ⊥

-- an instruction leaves as many locals, and so many operands
abbrev pub Counts : Effect → (locals before : ℕ) → PlainStep → Type 0
Counts e locals before (Leaves s ls values) = (length ls ≡ locals) × Adds e before (length values)
Counts e locals before (Fails trap) = Unit {0}
Counts e locals before Lacks = Unit {0}

pub as_many : (locals ls : List Value) → LocalsLeft locals ls → length ls ≡ length locals
as_many locals ls same_locals = refl
as_many locals ls (local_set x v) = length-set locals x v

pub plain_step_counts : (s : Memory_and_globals) (locals : List Value) (m : Contents) (labels : List ℕ) (i : Instr) (values : List Value)
    → Counts (counts m labels i) (length locals) (length values) (plain_step m s locals i values)
plain_step_counts s locals m labels i values = by (plain_step m s locals i values) (plain_step_view m s locals i values) where
  by : (o : PlainStep) → PlainStepView m s locals i values o → Counts (counts m labels i) (length locals) (length values) o
  by (Leaves t ls vs) h =
      let before = ap (λ (xs : List Value). length xs) h.before ∙ length-append h.popped h.rest in
      let after = ap (λ (xs : List Value). length xs) h.after ∙ length-append h.pushed h.rest in
      (as_many locals ls h.locals_left, rw (h.counted labels) (omega (arith, before, after)))
  by (Fails trap) h = tt
  by Lacks h = tt
