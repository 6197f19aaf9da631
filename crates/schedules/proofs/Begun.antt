-- The jobs that a log says were begun, and those of a loop's orders that are.
use Rattle.schedules.proofs.Words.{ap, arith, Bool, cond, count_by, Event, false, is_of_loop, List, LogEntry, OrderAsked, Passed, refl, Some}
use Rattle.schedules.proofs.Words.{sum_by-cons, times, true, ℕ, [], ◌++◌, ◌+◌, ◌<◌, ◌==◌, ◌∷◌, ◌≡◌}
use Rattle.world_log.specs.declared.entry.LogEntry.TheVariants as line
use Rattle.world_log.specs.declared.outcome.StartOutcome.TheVariants as start
use Rattle.world_log.specs.declared.outcome.JobId.{JobId}
use Rattle.world.specs.Laws.{is_begun, is_of_job}

abbrev pub jobs_begun : List LogEntry → List JobId
jobs_begun [] = []
jobs_begun (line.Start n (start.Begun job) ∷ log) = job ∷ jobs_begun log
jobs_begun (_ ∷ log) = jobs_begun log

pub begun_append : (log more : List LogEntry) → jobs_begun (log ++ more) ≡ jobs_begun log ++ jobs_begun more
begun_append [] more = refl
begun_append (line.Start n (start.Begun job) ∷ log) more = ap (λ (js : List JobId). job ∷ js) (begun_append log more)
begun_append (_ ∷ log) more = begun_append log more

-- a loop's own line begins none
pub own_begins_none : (n : ℕ) (entry : LogEntry) → is_of_loop n entry ≡ true → jobs_begun (entry ∷ []) ≡ []
own_begins_none n (line.Start k outcome) h = absurd (cc)
own_begins_none n _ h = refl

pub begun_count : (l r : ℕ) (log : List LogEntry) → count_by (is_begun l r) log ≡ count_by (is_of_job l r) (jobs_begun log)
begun_count l r [] = refl
begun_count l r (line.Start n (start.Begun job) ∷ log) =
    let a = sum_by-cons (λ (x : LogEntry). cond {A = ℕ} (is_begun l r x) 1 0) (line.Start n (start.Begun job)) log in
    let b = sum_by-cons (λ (x : JobId). cond {A = ℕ} (is_of_job l r x) 1 0) job (jobs_begun log) in
    let c = begun_count l r log in
    omega (arith, a, b, c)
begun_count l r (e ∷ log) =
    let a = sum_by-cons (λ (x : LogEntry). cond {A = ℕ} (is_begun l r x) 1 0) e log in
    let c = begun_count l r log in
    omega (arith, a, c)

-- the job of an order that the loop of this number hands out, where it is begun; and those of all its orders
abbrev pub begun_in : (n : ℕ) (gone : List (ℕ × ℕ)) → Event → List JobId
begun_in n gone (OrderAsked (Some o)) = cond (times (o.slot, o.request) gone == 0) (record { loop_no = n; request = o.request } ∷ []) []
begun_in n gone _ = []

abbrev pub begun_along : {S : Type 0} → (n : ℕ) (gone : List (ℕ × ℕ)) → List (Passed S) → List JobId
begun_along n gone [] = []
begun_along n gone (p ∷ passed) = begun_in n gone p.event ++ begun_along n gone passed

-- what each job of a list is
abbrev pub EachJob : (JobId → Type 0) → List JobId → Type 0
EachJob P [] = Unit {0}
EachJob P (x ∷ xs) = P x × EachJob P xs

pub each_append : (P : JobId → Type 0) (xs ys : List JobId) → EachJob P xs → EachJob P ys → EachJob P (xs ++ ys)
each_append P [] ys h k = k
each_append P (x ∷ xs) ys h k = (h.0, each_append P xs ys h.1 k)

pub each_counted : (P : JobId → Type 0) (q : JobId → Bool) (xs : List JobId) → EachJob P xs → 0 < count_by q xs → (x : JobId) × P x × (q x ≡ true)
each_counted P q [] h some = absurd (omega (arith, some))
each_counted P q (x ∷ xs) h some = by (q x) refl (each_counted P q xs h.1) where
  split : count_by q (x ∷ xs) ≡ cond {A = ℕ} (q x) 1 0 + count_by q xs
  split = sum_by-cons (λ (y : JobId). cond {A = ℕ} (q y) 1 0) x xs

  by : (b : Bool) → q x ≡ b → (0 < count_by q xs → (y : JobId) × P y × (q y ≡ true)) → (y : JobId) × P y × (q y ≡ true)
  by true is rest = (x, h.0, is)
  by false is rest = let none = ap (λ (b : Bool). cond {A = ℕ} b 1 0) is in rest (omega (arith, some, split, none))
