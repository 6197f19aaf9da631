-- What is counted in the log of one loop.
use Rattle.schedules.proofs.Words.{ap, AreInPlace, arith, Atom, Bool, cond, count_by, false, filter, is_of_loop, IsAsInWorld, jobs_in, List, LogEntry}
use Rattle.schedules.proofs.Words.{opening_threads, refl, Setting, sum_by-cons, sym, Threads, ThreadsRun, true, ℕ, [], ◌&&◌, ◌+◌, ◌==◌, ◌∙◌, ◌∷◌, ◌≡◌, ◌≤◌}
use Rattle.events.specs.declared.phase.EntryKind.TheVariants as kind
use Rattle.world_log.specs.declared.entry.LogEntry.TheVariants as line
use Rattle.world.specs.Laws.{is_after, AfterOnceInLog as IsAfterOnceInWorld}

-- what passes one test alone is not lost by the other
counted : {X : Type 0} (p q : X → Bool) (xs : List X) → ((x : X) → q x ≡ false → p x ≡ false) → count_by p (filter q xs) ≡ count_by p xs
counted p q [] f = refl
counted {X} p q (x ∷ xs) f = by (q x) refl (counted p q xs f) where
  whole : count_by p (x ∷ xs) ≡ cond (p x) 1 0 + count_by p xs
  whole = sum_by-cons (λ y. cond (p y) 1 0) x xs

  by : (b : Bool) → q x ≡ b → count_by p (filter q xs) ≡ count_by p xs → count_by p (cond b (x ∷ filter q xs) (filter q xs)) ≡ count_by p (x ∷ xs)
  by true is rest = sum_by-cons (λ y. cond (p y) 1 0) x (filter q xs) ∙ ap (λ n. cond (p x) 1 0 + n) rest ∙ sym whole
  by false is rest = (let none = ap (λ b. cond {A = ℕ} b 1 0) (f x is) in omega (arith, rest, whole, none))

and_false : (a b : Bool) → a ≡ false → (a && b) ≡ false
and_false true b h = absurd (cc)
and_false false b h = refl

after_of_loop : (l request : ℕ) (entry : LogEntry) → is_of_loop l entry ≡ false → is_after l request entry ≡ false
after_of_loop l request (line.Ran n kind.After number ended emits) h = and_false (n == l) (number == request) h
after_of_loop l request _ h = refl

pub once_in_threads : IsAfterOnceInWorld → IsAsInWorld → (settings : List Setting) (workers : ℕ) (atoms : List Atom) (log : List LogEntry) (t : Threads) → AreInPlace settings
    → ThreadsRun (opening_threads settings workers) atoms log t → (l request : ℕ) → count_by (is_after l request) log ≤ 1
once_in_threads once as_world settings workers atoms log t placed h l request =
    let it = as_world settings workers atoms log t placed h in
    let few = once settings (jobs_in log) it.steps it.told it.world it.run l request in
    let one = counted (is_after l request) (is_of_loop l) it.told (after_of_loop l request) in
    let two = counted (is_after l request) (is_of_loop l) log (after_of_loop l request) in
    let same = ap (count_by (is_after l request)) (it.logs l) in
    omega (arith, few, one, two, same)
