-- The words that several proofs of this crate use, from where they are defined.
pub use Rattle.desk.specs.Desk.{Desk, desk_calls, desk_others, DeskStarts}
pub use Rattle.events.specs.declared.did.StepDid.{StepDid}
pub use Rattle.limits.specs.declared.TheConstants.{MAX_JOBS}
pub use Rattle.order.specs.Orders.{order_of}
pub use Rattle.order.specs.Work.{IsEndOf, WorkOrder}
pub use Rattle.order.specs.declared.order.Order.{Order}
pub use Rattle.order.specs.declared.reply.Reply.{Reply}
pub use Rattle.phases.proofs.CancelFates.{CancelFate, cancelled, fate_in, stayed}
pub use Rattle.phases.proofs.StepsByCalls.{IsKeptInSteps, step_keeps}
pub use Rattle.phases.specs.Guests.{GuestCall}
pub use Rattle.phases.specs.History.{ClockRaised, EndOffered, Event, EventStep, History, IsOpening, MovedBeside, OrderAsked, RequestAnswered, Stepped}
pub use Rattle.phases.specs.Laws.{AreDue, is_after_event}
pub use Rattle.phases.specs.Outside.{after_clock, handing, is_failed, next_in, next_order_of}
pub use Rattle.phases.specs.Requests.{Answered, Completion, HandedOut, is_open_stage, lowest_open, Request, Requests, with_stage}
pub use Rattle.phases.specs.State.{Core, Loop, Setting, State}
pub use Rattle.phases.specs.Step.{in_state}
pub use Rattle.phases.specs.declared.entry.Status.{Status}
pub use Rattle.phases.specs.declared.entry.Status.TheVariants.{Failed, Over, Running}
pub use Rattle.reduction.proofs.StepByStep.{steps_join}
pub use Rattle.std.proofs.Common.{ap, arith, Bool, cond, Err, false, find, get_or, inl, inr, is_some, length, List, map, None, not, Ok, Option, refl, replicate}
pub use Rattle.std.proofs.Common.{Result, Some, subst, suc, sym, take, true, zero, ℕ, [], ◌&&◌, ◌++◌, ◌+◌, ◌<◌, ◌==◌, ◌↔◌, ◌∙◌, ◌∷◌, ◌≡◌, ◌≢◌, ◌≤◌, ◌⊎◌}
pub use Rattle.std.proofs.lemmas.Bool.{and_parts, cases_eq, eq-eqb, eqb-true, ne_eqb}
pub use Rattle.std.proofs.lemmas.List.{length-map, length-set, map-append, map-set}
pub use Rattle.std.proofs.lemmas.List.Elements.{All-set, Contains-append_left, Contains-push, Contains-push_cases}
pub use Rattle.std.proofs.lemmas.List.Sums.{sum_by_push}
pub use Rattle.std.proofs.lemmas.Option.{slice_get-get_or}
pub use Rattle.std.specs.Int.{cast_signed, w32}
pub use Rattle.std.specs.List.{Contains, count_by, filter}
pub use Rattle.std.specs.Prelude.{All, pos, slice_get, slice_set}
pub use Rattle.tallies.proofs.Places.{map_get, set_apart, set_here, set_same}
pub use Rattle.tallies.proofs.Requests.{either}
pub use Rattle.world.specs.Histories.{AreTold, EntryTells, is_of_owner}
pub use Rattle.world.specs.Laws.{AreInPlace, is_after, IsCancelledInLog}
pub use Rattle.world.specs.Making.{answer_of, answers_of, FitsLoops, IsJob, LoopsAreNumbered, setting_from, settings_from, worker_of, WorldIsKept}
pub use Rattle.world.specs.World.{Answer, CollectsFrom, core, entry_told, FinishesJob, HasLoop, Idle, job_of, Only, opening_loop, opening_world, PostsJob}
pub use Rattle.world.specs.World.{PostsOrder, Started, StartsJob, StepsLoop, Taken, UnlessFailed, with_loop, with_worker_at, WithWorker, Worker, WorkerTakesJob}
pub use Rattle.world.specs.World.{World, WorldRun, WorldStep}
pub use Rattle.world_log.specs.declared.entry.LogEntry.{LogEntry}
pub use Rattle.world_log.specs.declared.outcome.JobId.{JobId}
pub use Rattle.world_log.specs.declared.step.Step.{Step}
