-- An order under way stands where it would stop if it had just so much fuel as it has used.
use Rattle.order.proofs.Words.{arith, Caller, Contents, defined, Ended, HostCall, I32, imported, Invokes, IsAtStage, IsStarting, IsWorking, List, None, Option}
use Rattle.order.proofs.Words.{Paused, refl, Returned, RunEnd, RunStage, Serves, Some, StartRun, stop_of, Store, subst, used_in_stage, Value, WorkAnswered}
use Rattle.order.proofs.Words.{WorkHost, WorkOrder, WorkStop, ℕ, [], ◌+◌, ◌-◌, ◌∷◌, ◌≡◌}
use Rattle.std.proofs.Common.{◌≤◌, length}
use Rattle.std.specs.Prelude.{IfSome, IsSome}
use Rattle.limits.specs.declared.TheConstants.{MAX_DEPTH}
use Rattle.instance.specs.declared.stack.Last.{Last}
use Rattle.instance.specs.Stops.{halt_of}
use Rattle.reduction.specs.Run.{OutOfFuel}
use Rattle.events.specs.declared.ended.Ending.TheVariants as ending
use Rattle.interp.specs.Slices.{RunIsOver, RunStandsAt}
use Rattle.order.specs.declared.machine.WorkMachine.{WorkMachine}
use Rattle.order.specs.declared.stage.RunStage.TheVariants.{Fresh, Starting, Working}
use Rattle.order.specs.Slices.{with_fuel, OrderStandsAt}
use Rattle.order.specs.Stopping as stopping
use Rattle.order.proofs.WorkHostAnswers.{not_returned, work_stops}

-- what has not spent its fuel needs no more than it used
less_fuel : (m : Contents) (depth fuel n : ℕ) (s t : Store) (function : ℕ) (args : List Value) (trace : List HostCall) (outcome : RunEnd) (used : ℕ) → used ≤ n
    → (outcome ≡ OutOfFuel → ⊥) → Invokes m depth fuel s function args trace outcome used t → Invokes m depth n s function args trace outcome used t
less_fuel m depth fuel n s t function args trace outcome used few not (defined type f is run) =
    defined type f is (record { run = run.run; within = few; all = λ q. absurd (not q) })
less_fuel m depth fuel n s _ function args _ _ _ few not (imported call is named given from) = imported call is named given from

-- so a start function that returned does so too
started_with : (o : WorkOrder) (n : ℕ) (start : Option ℕ) (s t : Store) (results : List Value) (first : ℕ) (reply : List ℕ) → first ≤ n
    → StartRun o start s (Returned results) first t reply → StartRun (with_fuel n o) start s (Returned results) first t reply
started_with o n None s t results first reply few run = run
started_with o n (Some function) s t results first reply few run = record {
  trace = run.trace;
  run = less_fuel o.loaded.contents o.depth o.fuel n s t function [] run.trace (Returned results) first few (λ q. absurd (cc)) run.run;
  answers = run.answers;
}

-- a call of the order's that stands there
module _ (o : WorkOrder) (n : ℕ) (paused : Paused) (deep : paused.depth ≡ o.depth) (s t : Store) (old new : WorkHost) (serves : Serves old o) (args : List Value)
    (frames : List Caller) where
  abbrev spent : Ended
  spent = record { ending = ending.Spent; used = paused.used }

  stands_work : (last : Last) → RunStandsAt o.loaded.contents paused.depth WorkAnswered paused.function s old args paused.used t new (Some last) frames
      → WorkStop (with_fuel n o) paused.used s old.reply.items paused.function args spent t new.reply.items (Some (halt_of last frames))
  stands_work last stands =
      let over : RunIsOver o.loaded.contents o.depth WorkAnswered paused.function s old args paused.used spent t new (Some (halt_of last frames)) =
      subst (λ (d : ℕ). RunIsOver o.loaded.contents d WorkAnswered paused.function s old args paused.used spent t new (Some (halt_of last frames))) deep stands.1 in
      work_stops (with_fuel n o) paused.used o.loaded refl s t old new (record { linked = serves.linked; bytes = serves.bytes }) paused.function args spent
      (Some (halt_of last frames)) over.leads

module _ (o : WorkOrder) (m : WorkMachine) (paused : Paused) where
  module _ (q : IsStarting o m paused) where
    starts_by : (last : Option Last)
        → RunStandsAt o.loaded.contents paused.depth WorkAnswered paused.function q.s q.old [] paused.used m.state m.host last m.machine.frames.items
        → OrderStandsAt (record { order = o; used = paused.used; copied = m.host.copied; store = m.state }) (stop_of last m.machine.frames.items)
    starts_by None stands = stands
    starts_by (Some last) stands =
        let ran : WorkStop (with_fuel paused.used o) paused.used q.s [] paused.function [] (record { ending = ending.Spent; used = paused.used })
        m.state m.host.reply.items (Some (halt_of last m.machine.frames.items)) =
        subst (λ (bytes : List ℕ). WorkStop (with_fuel paused.used o) paused.used q.s bytes paused.function [] (record { ending = ending.Spent; used = paused.used })
        m.state m.host.reply.items (Some (halt_of last m.machine.frames.items))) q.empty
        (stands_work o paused.used paused q.calling.deep q.s m.state q.old m.host q.calling.serves [] m.machine.frames.items last stands) in
        stopping.stops q.s m.state (record { ending = ending.Spent; used = paused.used }) m.host.reply.items paused.function q.fresh q.is_start ran
        (not_returned ending.Spent (λ values e. absurd (cc))) refl refl

    pub starting_stands : OrderStandsAt (record { order = o; used = paused.used; copied = m.host.copied; store = m.state }) (stop_of paused.last m.machine.frames.items)
    starting_stands = starts_by paused.last q.calling.under_way.stands

    pub starting_within : MAX_DEPTH ≤ length m.machine.frames.items → IfSome paused.last (λ l. l.depth ≤ length m.machine.frames.items)
    starting_within room = by_last paused.last q.calling.under_way.stands where
      by_last : (last : Option Last)
          → RunStandsAt o.loaded.contents paused.depth WorkAnswered paused.function q.s q.old [] paused.used m.state m.host last m.machine.frames.items
          → IfSome last (λ l. l.depth ≤ length m.machine.frames.items)
      by_last None stands = tt
      by_last (Some last) stands = omega (arith, stands.0, room)

  module _ (first : ℕ) (q : IsWorking o m first paused) where
    works_by : (last : Option Last) → IsSome last
        → RunStandsAt o.loaded.contents paused.depth WorkAnswered paused.function q.t q.old (I32 o.op ∷ []) paused.used m.state m.host last m.machine.frames.items
        → OrderStandsAt (record { order = o; used = first + paused.used; copied = m.host.copied; store = m.state }) (stop_of last m.machine.frames.items)
    works_by None some stands = absurd (cc)
    works_by (Some last) some stands =
        let n : ℕ = first + paused.used in
        let left : paused.used ≡ n - first = omega arith in
        let few : first ≤ n = omega arith in
        let ran : WorkStop (with_fuel n o) (n - first) q.t q.old.reply.items paused.function (I32 o.op ∷ []) (record { ending = ending.Spent; used = paused.used })
        m.state m.host.reply.items (Some (halt_of last m.machine.frames.items)) =
        subst (λ (k : ℕ). WorkStop (with_fuel n o) k q.t q.old.reply.items paused.function (I32 o.op ∷ []) (record { ending = ending.Spent; used = paused.used })
        m.state m.host.reply.items (Some (halt_of last m.machine.frames.items))) left
        (stands_work o n paused q.calling.deep q.t m.state q.old m.host q.calling.serves (I32 o.op ∷ []) m.machine.frames.items last stands) in
        stopping.works q.started.s q.t m.state q.started.results (record { ending = ending.Spent; used = paused.used }) first q.old.reply.items m.host.reply.items
        paused.function q.started.fresh
        (started_with o n o.loaded.contents.start q.started.s q.t q.started.results first q.old.reply.items few q.started.run) q.exported ran refl refl

    pub working_stands : IsSome paused.last → OrderStandsAt (record { order = o; used = first + paused.used; copied = m.host.copied; store = m.state }) (stop_of paused.last m.machine.frames.items)
    working_stands some = works_by paused.last some q.calling.under_way.stands

    pub working_within : MAX_DEPTH ≤ length m.machine.frames.items → IfSome paused.last (λ l. l.depth ≤ length m.machine.frames.items)
    working_within room = by_last paused.last q.calling.under_way.stands where
      by_last : (last : Option Last)
          → RunStandsAt o.loaded.contents paused.depth WorkAnswered paused.function q.t q.old (I32 o.op ∷ []) paused.used m.state m.host last m.machine.frames.items
          → IfSome last (λ l. l.depth ≤ length m.machine.frames.items)
      by_last None stands = tt
      by_last (Some last) stands = omega (arith, stands.0, room)

-- it has used no more than it has
pub used_within : (o : WorkOrder) (m : WorkMachine) (stage : RunStage) → IsAtStage o m stage → used_in_stage stage ≤ o.fuel
used_within o m Fresh at = omega arith
used_within o m (Starting paused) at = omega (arith, at.calling.under_way.paid)
used_within o m (Working first paused) at = omega (arith, at.0.started.within, at.0.calling.under_way.paid)
