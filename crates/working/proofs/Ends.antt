-- What a run of an order comes to.
use Rattle.std.proofs.Common.{◌≡◌, ℕ, List, refl}
use Rattle.valid.specs.Valid.{ValidModule}
use Rattle.order.specs.Work.{WorkOrder, WorkEnd, Done, NoMemory, Works, Uses, IsTheEnd, IsEndOf}
use Rattle.working.specs.declared.report.WorkReport.{WorkReport}
use Rattle.working.specs.declared.report.WorkReport.TheVariants as report
use Rattle.working.specs.Working.{IsResult}

-- a result, which is the end of the order
pub record Result (o : WorkOrder) (end : WorkEnd) : Type 0 where
  pub value : ℕ
  pub bytes : List ℕ
  pub is : end ≡ Done value bytes
  pub computed : IsTheEnd o (Done value bytes)

pub result : (o : WorkOrder) (end : WorkEnd) → IsEndOf o end → IsResult end → Result o end
result o (Done value bytes) computed is = record { value = value; bytes = bytes; is = refl; computed = computed }
result o _ computed is = absurd is

-- any end is the order's, or tells of want of memory
pub end_of_order : (o : WorkOrder) (end : WorkEnd) (used : ℕ) → ValidModule o.loaded.contents
    → ((o : WorkOrder) (end other : WorkEnd) → ValidModule o.loaded.contents → Works o end → Works o other → end ≡ other)
    → Uses o end used → IsEndOf o end
end_of_order o NoMemory used valid one uses = tt
end_of_order o end used valid one uses = record { computed = (used, uses); only = λ other works. one o other end valid works (used, uses) }

pub not_both : {r : WorkReport} → r ≡ report.Result → r ≡ report.Stopped → ⊥
not_both result stopped = cc
