-- The words that several proofs of this crate use, from where they are defined.
pub use Rattle.board.specs.Boards.{AreHandsOf, AreNumbered, AreRepliesWhole, BoardView, Collects, HasNumber, IsNewPass, IsPassOf, PassView, Posts}
pub use Rattle.board.specs.Jobs.{ticket_of}
pub use Rattle.board.specs.Views.{HandView, IsWhole}
pub use Rattle.board.specs.declared.line.Named.{Named}
pub use Rattle.claims.specs.Views.{ClaimsView, CrewView, EachOnce, is_ticket, LoopView, new_loop_view, new_worker_view, WorkerView}
pub use Rattle.claims.specs.declared.seats.Ticket.{Ticket}
pub use Rattle.events.specs.declared.did.StepDid.{StepDid}
pub use Rattle.events.specs.declared.ended.Ended.{Ended}
pub use Rattle.events.specs.declared.phase.EntryKind.{EntryKind}
pub use Rattle.limits.specs.declared.TheConstants.{MAX_CALLBACKS}
pub use Rattle.order.specs.Orders.{end_of, order_of}
pub use Rattle.order.specs.Work.{WorkEnd, WorkOrder}
pub use Rattle.order.specs.declared.order.Order.{Order}
pub use Rattle.order.specs.declared.reply.Reply.{Reply}
pub use Rattle.phases.proofs.Mirroring.{Anyhow, IsMirrored, step_mirrors}
pub use Rattle.phases.specs.Bare.{whole_did}
pub use Rattle.phases.specs.Calls.{Calls}
pub use Rattle.phases.specs.Guests.{GuestCall}
pub use Rattle.phases.specs.History.{CancelAnswered, ClockRaised, emitted, EndOffered, Event, EventStep, History, IsOpening, MovedBeside, OrderAsked}
pub use Rattle.phases.specs.History.{RequestAnswered, Stepped}
pub use Rattle.phases.specs.Laws.{IsAfterLast, IsAfterOnce, IsAfterOwn}
pub use Rattle.phases.specs.Outside.{next_in}
pub use Rattle.phases.specs.Requests.{HandedOut, Request, Stage}
pub use Rattle.phases.specs.State.{Loop, opening, Setting, State}
pub use Rattle.phases.specs.Step.{LoopStep, over}
pub use Rattle.phases.specs.View.{new_view, View}
pub use Rattle.phases.specs.declared.did.BareDid.{BareDid}
pub use Rattle.phases.specs.declared.entry.Status.{Status}
pub use Rattle.phases.specs.declared.entry.Status.TheVariants.{Failed, Over, Running}
pub use Rattle.pool.specs.Turns.{Put, put_for, started_by, Turn}
pub use Rattle.pool.specs.declared.seats.Seats.{Seats}
pub use Rattle.reduction.proofs.StepByStep.{steps_join}
pub use Rattle.serve.specs.Answers.{IsServed}
pub use Rattle.serve.specs.HandedOut.{FoundBehind, passed_in, passed_of}
pub use Rattle.serve.specs.Histories.{EndsBy, HasDone, HasEnded, IsByThread, setting_at, thread_calls, ThreadHistory, ThreadStep}
pub use Rattle.serve.specs.Inner.Alone.{IsAlone}
pub use Rattle.serve.specs.Inner.Ends.{DidEvents, DidTurns, IsTied, LoopEnds, offer_of, offered_in, WorkerEnds}
pub use Rattle.serve.specs.Inner.Moves.{IsOffered, MovesAlone, MovesBy, RecordHandsOut, RecordPosts}
pub use Rattle.serve.specs.Inner.Places.{EachDown, EachFrom, EachPair, EachThree, IsPassAt}
pub use Rattle.serve.specs.Inner.Posts.{handed_out, PostsAmong, PostsNone}
pub use Rattle.serve.specs.Inner.Promises.{IsThreadOf, IsWorkerThreadOf}
pub use Rattle.serve.specs.Inner.Threads.{HasTied, IsTiedSoFar}
pub use Rattle.serve.specs.Joint.{asks, JointRun}
pub use Rattle.serve.specs.declared.loop_thread.LoopThread.{LoopThread}
pub use Rattle.serve.specs.declared.record.LoopRecord.{LoopRecord}
pub use Rattle.serve.specs.declared.served.LoopEnding.{LoopEnding}
pub use Rattle.serve.specs.declared.served.Served.{Served}
pub use Rattle.serve.specs.declared.serving.Serving.{Serving}
pub use Rattle.std.proofs.Common.{All, ap, append-nil, append_assoc, arith, Bool, cond, count_by, Err, false, get_or, inl, inr, length, length-set, List, map}
pub use Rattle.std.proofs.Common.{None, not, Ok, OnOk, Option, refl, Result, Some, subst, suc, sym, true, vec_capacity, zero, ℕ, [], ◌++◌, ◌+◌, ◌<◌, ◌==◌, ◌∙◌}
pub use Rattle.std.proofs.Common.{◌∷◌, ◌≡◌, ◌≢◌, ◌≤◌, ◌⊎◌}
pub use Rattle.std.proofs.Math.Logic.{∥∥₁_map, ∥∥₁_map₂}
pub use Rattle.std.proofs.lemmas.List.{get_or-set_other, length_push}
pub use Rattle.std.proofs.lemmas.List.Concat.{flat_map-append}
pub use Rattle.std.proofs.lemmas.List.Sums.{sum_by-append}
pub use Rattle.std.proofs.lemmas.Option.{get_or_from_slice_get, same_Some, slice_get-get_or}
pub use Rattle.std.specs.Arc.{arc_value}
pub use Rattle.std.specs.List.{Contains, filter}
pub use Rattle.std.specs.Prelude.{flat_map, option_map, option_to_list, slice_get, slice_index, slice_set}
pub use Rattle.syntax.specs.Loaded.{Loaded}
pub use Rattle.tallies.proofs.Lists.{count_cons}
pub use native.Mathlib.Decide.{ℕ_discrete}
