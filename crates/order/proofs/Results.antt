-- The results of the calls of an order: the start function has none, `uv_work` has one.
use Rattle.order.proofs.Words.{ap, BareEnding, Contents, Ended, ended_in, ended_with, Ending, List, refl, Return, Some, type_of_entry, type_of_function}
use Rattle.order.proofs.Words.{ValidModule, Value, whole, whole_ending, Work, ℕ, [], ◌∙◌, ◌∷◌, ◌≡◌}
use Rattle.std.proofs.Common.{length, take, get_or}
use Rattle.events.specs.declared.ended.BareEnded.{BareEnded}
use Rattle.events.specs.declared.ended.BareEnding.TheVariants as bare
use Rattle.interp.specs.Lent.{result_count}
use Rattle.interp.proofs.CountsOfResults.{count_is, without_results}

pub not_whole : (end : BareEnding) → (end ≡ bare.Return → ⊥) → (values : List Value) → whole_ending end ≡ Return values → ⊥
not_whole bare.Return not values is = not refl
not_whole _ not values is = absurd (cc)

pub work_has_one : (m : Contents) (function : ℕ) → type_of_function m function ≡ Some (type_of_entry Work) → result_count m function ≡ 1
work_has_one m function typed = rw typed refl

first_alone : (places : List Value) (default : Value) → length places ≡ 1 → take 1 places ≡ get_or places 0 default ∷ []
first_alone [] default one = absurd (cc)
first_alone (first ∷ places) default one = refl

pub work_ended : (m : Contents) (function : ℕ) → type_of_function m function ≡ Some (type_of_entry Work) → (ended : BareEnded) (places : List Value) (default : Value)
    → length places ≡ 1 → ended_in m function ended places ≡ ended_with ended (get_or places 0 default ∷ [])
work_ended m function typed ended places default one =
    ap (λ (vs : List Value). ended_with ended vs) (ap (λ (k : ℕ). take k places) (work_has_one m function typed) ∙ first_alone places default one)

pub start_has_none : (m : Contents) → ValidModule m → (function : ℕ) → m.start ≡ Some function → result_count m function ≡ 0
start_has_none m valid function is = count_is m function (record { params = []; results = [] }) (rw is at valid.start)

pub start_ended : (m : Contents) → ValidModule m → (function : ℕ) → m.start ≡ Some function → (ended : BareEnded) (places : List Value)
    → ended_in m function ended places ≡ whole ended
start_ended m valid function is ended places =
    ap (λ (k : ℕ). ended_with ended (take k places)) (start_has_none m valid function is)
    ∙ ap {B = Ended} (λ (e : Ending). record { ending = e; used = ended.used }) (without_results ended.ending)
