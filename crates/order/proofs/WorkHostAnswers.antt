-- What the host of a work function answers, over a whole run.
use Rattle.order.proofs.Words.{ap, AreNamedApart, codes, Computes, end_of_run, Ended, Ending, EndsAs, ExportsFunction, Halt, HostCall, I32, Imports, Invokes}
use Rattle.order.proofs.Words.{IsFresh, IsLinked, Lawful, List, Loaded, Names, NoMemory, Option, refl, Return, Returned, reverse, Serves, StartRun, Store}
use Rattle.order.proofs.Words.{subst, ValidModule, Value, WorkAnswered, WorkEnd, WorkHost, WorkOrder, WorkStop, ℕ, [], ◌+◌, ◌-◌, ◌∙◌, ◌∷◌, ◌≡◌, ◌≢◌}
use Rattle.reduction.proofs.StepByStep.{steps_map}
use Rattle.order.specs.Work.{Done, Trap, Depth, Spent, WorkAnswers, WorkCall, Works, IsTheEnd, IsEndOf, WorkRun, Uses, stops, works}
use Rattle.reduction.specs.Leading.{Leads, calling, scene}
use Rattle.reduction.specs.Stopping.{StopsAt}
use Rattle.order.specs.ImportTypes.{import_types}
use Rattle.order.proofs.ImportTypes.{names}
use Rattle.order.proofs.OneEnd.{one_end}

-- the calls of a whole run are those of the order's host
pub record Served (o : WorkOrder) (trace : List HostCall) (old new : WorkHost) : Type 0 where
  pub answers : Lawful (WorkCall o) trace old.reply.items new.reply.items
  pub serves : Serves new o

pub served : (o : WorkOrder) (trace : List HostCall) (old new : WorkHost) → Serves old o → Lawful WorkAnswered trace old new → Served o trace old new
served o trace old new serves h =
    let it = steps_map WorkAnswered (WorkCall o) (λ x. x.reply.items) (λ x. Serves x o) one trace old new serves h in
    record { answers = it.0; serves = it.1 }
  where
    one : (call : HostCall) (old new : WorkHost) → Serves old o → WorkAnswered old call new → WorkCall o old.reply.items call new.reply.items × Serves new o
    one call old new serves answered = (
      (
        answered.asked,
        subst (λ (l : Loaded). Imports l.contents call.function answered.asked) serves.linked answered.imported,
        subst (λ (bs : List ℕ). WorkAnswers bs old.reply.items call new.reply.items answered.asked call.args) serves.bytes answered.answers,
      ),
      record { linked = answered.same_module ∙ serves.linked; bytes = ap (λ v. v.items) answered.same_bytes ∙ serves.bytes },
    )

the_end : AreNamedApart → (o : WorkOrder) (e : WorkEnd) → ValidModule o.loaded.contents → Works o e → IsTheEnd o e
the_end apart o e valid h = record { computed = h; only = λ other k. one_end apart o other e valid k h }

pub is_end : AreNamedApart → (o : WorkOrder) (e : WorkEnd) → ValidModule o.loaded.contents → Works o e → IsEndOf o e
is_end apart o (Done value bytes) valid h = the_end apart o (Done value bytes) valid h
is_end apart o (Trap code) valid h = the_end apart o (Trap code) valid h
is_end apart o Depth valid h = the_end apart o Depth valid h
is_end apart o Spent valid h = the_end apart o Spent valid h
is_end apart o NoMemory valid h = tt

pub names_of : (v l h : Loaded) → v ≡ l → IsLinked l.contents → h ≡ l → Names v.contents (import_types h.contents)
names_of v l h same linked other = rw (same, other) (names l.contents linked)

-- a call of a function, as the order's
module _ (o : WorkOrder) (fuel : ℕ) (v : Loaded) (is : v ≡ o.loaded) (s t : Store) (old new : WorkHost) (serves : Serves old o) (function : ℕ) (args : List Value) (ended : Ended) where
  pub work_stops : (stop : Option Halt) → Leads WorkAnswered (calling v.contents function args fuel o.depth) (scene s old) ended stop (scene t new)
      → WorkStop o fuel s old.reply.items function args ended t new.reply.items stop
  work_stops stop h = record {
    run = record {
      trace = h.asked;
      run = subst (λ (l : Loaded). Invokes l.contents o.depth fuel s function args h.asked (end_of_run ended.ending) ended.used t) is h.ran;
      answers = (served o h.asked old new serves h.answered).answers;
    };
    stops = subst (λ (l : Loaded). StopsAt l.contents o.depth s function args h.asked ended.ending ended.used t stop) is h.stopped;
  }

  pub work_serves : (stop : Option Halt) → Leads WorkAnswered (calling v.contents function args fuel o.depth) (scene s old) ended stop (scene t new) → Serves new o
  work_serves stop h = (served o h.asked old new serves h.answered).serves

pub not_returned : (how : Ending) → ((values : List Value) → how ≡ Return values → ⊥) → (results : List Value) → end_of_run how ≢ Returned results
not_returned (Return values) h results e = h values refl
not_returned _ h results e = absurd (cc)

-- the start function does not return
pub stops_end : (o : WorkOrder) (s t : Store) (how : Ending) (used : ℕ) (reply : List ℕ) (e : WorkEnd) → IsFresh o.loaded.contents s
    → StartRun o o.loaded.contents.start s (end_of_run how) used t reply → ((values : List Value) → how ≡ Return values → ⊥)
    → EndsAs (end_of_run how) reply e → Computes o e used
stops_end o s t how used reply e fresh run not end = stops s t (end_of_run how) reply fresh run (not_returned how not) end

-- it returns, and `uv_work` runs with the fuel that is left
pub works_end : (o : WorkOrder) (s t u : Store) (started ended : Ended) (values : List Value) (reply reply' : List ℕ) (e : WorkEnd) → IsFresh o.loaded.contents s
    → started.ending ≡ Return values → StartRun o o.loaded.contents.start s (end_of_run started.ending) started.used t reply
    → (f : ℕ) × ExportsFunction o.loaded.contents (codes "uv_work") f × WorkRun o (o.fuel - started.used) t reply f (I32 o.op ∷ []) (end_of_run ended.ending) ended.used u reply'
    → EndsAs (end_of_run ended.ending) reply' e → Computes o e (started.used + ended.used)
works_end o s t u started ended values reply reply' e fresh returned run work end =
    let first : StartRun o o.loaded.contents.start s (Returned (reverse values)) started.used t reply =
    subst (λ (x : Ending). StartRun o o.loaded.contents.start s (end_of_run x) started.used t reply) returned run in
    works s t u (reverse values) (end_of_run ended.ending) started.used ended.used reply reply' work.0 fresh first work.1 work.2 refl end

-- what is computed is what is used for it
pub uses : (o : WorkOrder) (e : WorkEnd) (used : ℕ) → e ≢ NoMemory → Computes o e used → Uses o e used
uses o NoMemory used told h = absurd (told refl)
uses o _ used told h = h
