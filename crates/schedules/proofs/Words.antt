-- The words that several proofs of this crate use, from where they are defined.
pub use Rattle.desk.specs.Desk.{Desk, desk_calls, DeskGets, is_open_request, started}
pub use Rattle.desk.specs.Laws.{Passed, PassesThrough}
pub use Rattle.events.specs.declared.did.StepDid.{StepDid}
pub use Rattle.instance.specs.Store.{Store}
pub use Rattle.limits.specs.declared.TheConstants.{MAX_ASYNCS, MAX_JOBS}
pub use Rattle.order.specs.Work.{WorkEnd, WorkOrder}
pub use Rattle.phases.proofs.CallMoves.{CallMoves, cancels_won, leaves_all, opens, Stays, ToCancel, ToOpen, ToSend, Touch, Touches}
pub use Rattle.phases.proofs.CancelFates.{IsBeside, sent, took, tried, unmoved}
pub use Rattle.phases.proofs.Mirroring.{Chain, step_retraced}
pub use Rattle.phases.proofs.StepGoes.{TakesOwn}
pub use Rattle.phases.proofs.StepsByCalls.{event_keeps}
pub use Rattle.phases.specs.Calls.{Calls, IsLawful}
pub use Rattle.phases.specs.Guests.{GuestCall}
pub use Rattle.phases.specs.History.{ClockRaised, EndOffered, Event, EventStep, IsOpening, MovedBeside, OrderAsked, Stepped}
pub use Rattle.phases.specs.Host.{with_requests}
pub use Rattle.phases.specs.Outside.{after_clock, answered, is_failed, next_order_of, TakesReplyTo}
pub use Rattle.phases.specs.Requests.{Answered, Cancelled, HandedOut, has_number, in_stage, is_free_slot, is_open_stage, is_settled, lowest_open, Open, Request}
pub use Rattle.phases.specs.Requests.{request_of, Requests, Stage, with_stage, with_work, without_request}
pub use Rattle.phases.specs.State.{Core, Loop, Setting, State}
pub use Rattle.phases.specs.Step.{in_state, over, sharing, StepsWith}
pub use Rattle.phases.specs.View.{Sent, View}
pub use Rattle.phases.specs.declared.entry.Status.{Status}
pub use Rattle.phases.specs.declared.entry.Status.TheVariants.{Failed, Over, Running}
pub use Rattle.pool.specs.declared.seats.Seats.{Seats}
pub use Rattle.reduction.proofs.StepByStep.{steps_keep}
pub use Rattle.schedules.specs.Accesses.{Access, AccessMoves, Cancels, listed_calls, Opens, Reach, Sends, StepsBy, Takes}
pub use Rattle.schedules.specs.Laws.{is_full, is_of_loop, is_taken_by, IsAsInWorld, jobs_in, log_of}
pub use Rattle.schedules.specs.Schedule.{Atom, opening_threads, StepUnderway, Threads, ThreadsRun}
pub use Rattle.schedules.specs.Together.{AreInThread, IsInThread, lines_of, StandBehind}
pub use Rattle.serve.specs.HandedOut.{handed_in, passed_in}
pub use Rattle.serve.specs.Histories.{setting_at, thread_calls, ThreadHistory}
pub use Rattle.serve.specs.declared.served.Served.{Served}
pub use Rattle.serve.specs.declared.serving.Serving.{Serving}
pub use Rattle.std.proofs.Common.{ap, append-nil, append_assoc, arith, Bool, cond, false, inl, inr, length, length-set, List, map, MatchBool, None, not, Option}
pub use Rattle.std.proofs.Common.{refl, replicate, Some, subst, suc, sym, true, zero, ℕ, [], ◌&&◌, ◌++◌, ◌+◌, ◌<◌, ◌==◌, ◌∙◌, ◌∷◌, ◌≡◌, ◌≢◌, ◌≤◌, ◌⊎◌}
pub use Rattle.std.proofs.lemmas.Bool.{cases_eq, cases_lt, eq-eqb, eqb-true, ne_eqb}
pub use Rattle.std.proofs.lemmas.List.{length_push, set-set}
pub use Rattle.std.proofs.lemmas.List.Elements.{filter-append}
pub use Rattle.std.proofs.lemmas.List.Sums.{sum_by-append, sum_by-cons}
pub use Rattle.std.specs.List.{count_by, filter, find}
pub use Rattle.std.specs.Prelude.{nat_lt, slice_get, slice_index, slice_set}
pub use Rattle.syntax.specs.Loaded.{Loaded}
pub use Rattle.tallies.proofs.Filtered.{Member}
pub use Rattle.tallies.proofs.Places.{map_get, set_apart, set_here, set_same}
pub use Rattle.tallies.proofs.Requests.{pushed, same_request, times_grow, times_miss}
pub use Rattle.tallies.specs.Counts.{raised}
pub use Rattle.tallies.specs.Requests.{is_pending, is_request, last_in, times}
pub use Rattle.world.specs.Laws.{AreInPlace, RunsJoin}
pub use Rattle.world.specs.World.{Answer, core, entry_told, HasLoop, Idle, job_of, Only, opening_loop, opening_world, PostsOrder, Started, Taken, TellsEnd}
pub use Rattle.world.specs.World.{UnlessFailed, with_loop, with_replies, with_worker_at, Worker, World, WorldRun, WorldStep}
pub use Rattle.world_log.specs.declared.entry.LogEntry.{LogEntry}
pub use Rattle.world_log.specs.declared.outcome.JobEnd.{JobEnd}
pub use Rattle.world_log.specs.declared.step.Step.{Step}
