-- What the statuses 0, 3 and 4 come from.
use Rattle.std.proofs.Common.{◌≡◌, refl, Result, Ok, Err, IfOk, IfErr, OnOk}
use Rattle.running.specs.declared.failure.Failure.{Failure}
use Rattle.running.specs.declared.status.ExitStatus.{ExitStatus}
use Rattle.running.specs.declared.status.ExitStatus.TheVariants as status
use Rattle.running.specs.Statuses.{number_of_status, status_of_failure, status_of_end}

pub done_of : (s : ExitStatus) → number_of_status s ≡ 0 → s ≡ status.Done
done_of status.Done h = refl
done_of _ h = cc

pub at_ok : {E : Type 0} (r : Result ExitStatus E) (P : ExitStatus → Type 0) (s : ExitStatus) → IfOk r P → r ≡ Ok s → P s
at_ok (Ok t) P s h is =
    let same : t ≡ s = cc in
    rw same at h
at_ok (Err e) P s h is = cc

-- two facts of what is Ok
pub both : {E : Type 0} (r : Result ExitStatus E) (A B : Type 0) → OnOk r A → OnOk r B → IfOk r (λ (s : ExitStatus). s ≡ status.Done → A × B)
both (Ok s) A B a b = λ _. (a, b)
both (Err e) A B a b = tt

pub refused_of : (s : ExitStatus) → number_of_status s ≡ 3 → s ≡ status.Refused
refused_of status.Refused h = refl
refused_of _ h = cc

pub ended_of : (s : ExitStatus) → number_of_status s ≡ 4 → s ≡ status.Ended
ended_of status.Ended h = refl
ended_of _ h = cc

-- what is done unless it fails is refused by its failure
pub at_refused : (r : Result ExitStatus Failure) (A : Type 0) → IfOk r (λ (s : ExitStatus). s ≡ status.Done)
    → IfErr r (λ (f : Failure). status_of_failure f ≡ status.Refused → A) → status_of_end r ≡ status.Refused → A
at_refused (Ok s) A done refused is = cc
at_refused (Err f) A done refused is = refused is

pub nothing_ended : {E : Type 0} (r : Result ExitStatus E) → IfOk r (λ (s : ExitStatus). s ≡ status.Ended → Unit {0})
nothing_ended (Ok s) = λ _. tt
nothing_ended (Err e) = tt
