-- Where the run of an order stopped.
use Rattle.order.proofs.Words.{codes, Computes, ComputesTo, end_of_run, Ended, Ending, EndsAs, ExportsFunction, Halt, I32, IsFresh, List, NoMemory, None}
use Rattle.order.proofs.Words.{Option, option_map, refl, Return, Returned, reverse, Some, StartRun, Store, subst, sym, Value, WorkEnd, WorkOrder, WorkStop, ℕ}
use Rattle.order.proofs.Words.{[], ◌+◌, ◌-◌, ◌∷◌, ◌≡◌, ◌≢◌}
use Rattle.order.specs.Stopping.{LeavesTrail, StoppedIsComputed, stops, works}
use Rattle.order.specs.Trails.{Innermost, innermost_sites}
use Rattle.order.specs.Work as work
use Rattle.order.proofs.WorkHostAnswers.{not_returned}

-- the start function does not return
pub stops_to : (o : WorkOrder) (s t : Store) (ended : Ended) (reply : List ℕ) (stop : Option Halt) (e : WorkEnd) → IsFresh o.loaded.contents s
    → StartRun o o.loaded.contents.start s (end_of_run ended.ending) ended.used t reply → ((values : List Value) → ended.ending ≡ Return values → ⊥)
    → ((f : ℕ) → o.loaded.contents.start ≡ Some f → WorkStop o o.fuel s [] f [] ended t reply stop)
    → EndsAs (end_of_run ended.ending) reply e → ComputesTo o e ended.used stop
stops_to o s t ended reply stop e fresh run not stopped end = by_start o.loaded.contents.start refl run where
  by_start : (start : Option ℕ) → o.loaded.contents.start ≡ start → StartRun o start s (end_of_run ended.ending) ended.used t reply → ComputesTo o e ended.used stop
  by_start None is r = absurd (not_returned ended.ending not [] r.0)
  by_start (Some f) is r = stops s t ended reply f fresh is (stopped f is) (not_returned ended.ending not) refl end

-- it returns, and `uv_work` runs with the fuel that is left
pub works_to : (o : WorkOrder) (s t u : Store) (started ended : Ended) (values : List Value) (reply reply' : List ℕ) (stop : Option Halt) (e : WorkEnd) → IsFresh o.loaded.contents s
    → started.ending ≡ Return values → StartRun o o.loaded.contents.start s (end_of_run started.ending) started.used t reply
    → (f : ℕ) × ExportsFunction o.loaded.contents (codes "uv_work") f × WorkStop o (o.fuel - started.used) t reply f (I32 o.op ∷ []) ended u reply' stop
    → EndsAs (end_of_run ended.ending) reply' e → ComputesTo o e (started.used + ended.used) stop
works_to o s t u started ended values reply reply' stop e fresh returned run work end =
    let first : StartRun o o.loaded.contents.start s (Returned (reverse values)) started.used t reply =
    subst (λ (x : Ending). StartRun o o.loaded.contents.start s (end_of_run x) started.used t reply) returned run in
    works s t u (reverse values) ended started.used reply reply' work.0 fresh first work.1 work.2 refl end

-- that run computes the order's end
pub is_computed : StoppedIsComputed
is_computed o end used stop (stops s t ended reply function fresh is ran not all ends) =
    subst (λ (n : ℕ). Computes o end n) (sym all)
    (work.stops s t (end_of_run ended.ending) reply fresh
    (subst (λ (f : Option ℕ). StartRun o f s (end_of_run ended.ending) ended.used t reply) (sym is) ran.run) not ends)
is_computed o end used stop (works s t u results ended first reply reply' function fresh started exported ran all ends) =
    work.works s t u results (end_of_run ended.ending) first ended.used reply reply' function fresh started exported ran.run all ends

-- the trail is what is kept of that
pub leaves : (o : WorkOrder) (e : WorkEnd) (used : ℕ) (stop : Option Halt) (trail : Option Innermost) → e ≢ NoMemory → ComputesTo o e used stop → trail ≡ option_map innermost_sites stop
    → LeavesTrail o e used trail
leaves o NoMemory used stop trail told h is = absurd (told refl)
leaves o _ used stop trail told h is = (stop, h, is)
