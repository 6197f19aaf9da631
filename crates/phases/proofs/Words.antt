-- The words that several proofs of this crate use, from where they are defined.
pub use Rattle.events.specs.Phases.{may_end}
pub use Rattle.events.specs.declared.did.StepDid.{StepDid}
pub use Rattle.events.specs.declared.did.StepDid.TheVariants.{Ran}
pub use Rattle.events.specs.declared.ended.Ended.{Ended}
pub use Rattle.events.specs.declared.phase.EntryKind.{EntryKind}
pub use Rattle.handles.specs.Table.{after_again, entry, IsClosing, record_of, same_kind, Table}
pub use Rattle.handles.specs.declared.handle.Kind.{Kind}
pub use Rattle.handles.specs.declared.handle.Record.{Record}
pub use Rattle.imports.specs.Linking.{ExportsFunction, ExportsNothing, IsLinked}
pub use Rattle.imports.specs.Uv.{name_of_entry, type_of_entry}
pub use Rattle.imports.specs.declared.call.Call.{Call}
pub use Rattle.imports.specs.declared.call.Call.TheVariants.{Cancel, QueueWork}
pub use Rattle.imports.specs.declared.entry_point.EntryPoint.TheVariants.{Main}
pub use Rattle.instance.specs.Stops.{Halt, stop_of}
pub use Rattle.instance.specs.Store.{Store}
pub use Rattle.instance.specs.Storing.{IsStoreOf}
pub use Rattle.instance.specs.declared.stack.Caller.{Caller}
pub use Rattle.interp.specs.Slices.{RunIsOver, RunIsPaused}
pub use Rattle.interp.specs.declared.paused.Paused.{Paused}
pub use Rattle.limits.specs.declared.TheConstants.{MAX_ASYNCS, MAX_BYTES, MAX_DEPTH, MAX_HANDLES, MAX_REQUEST_NUMBER, MAX_REQUESTS}
pub use Rattle.order.specs.ImportTypes.{import_types}
pub use Rattle.order.specs.Orders.{end_of, order_of}
pub use Rattle.order.specs.Runnable.{CanRun}
pub use Rattle.order.specs.Uv.Bytes.{taken_out}
pub use Rattle.order.specs.Work.{IsEndOf, WorkEnd, WorkOrder}
pub use Rattle.order.specs.declared.order.Order.{Order}
pub use Rattle.order.specs.declared.uv.answers.TheConstants.{BUSY, INVALID, NONE_LEFT, NOT_HERE}
pub use Rattle.phases.specs.Bare.{whole_did}
pub use Rattle.phases.specs.Calls.{Calls, IsLawful}
pub use Rattle.phases.specs.Fitting.{AreClosing, AreKept, AreRising, RosterIsKept}
pub use Rattle.phases.specs.Guests.{GuestCall, GuestStep, GuestSteps}
pub use Rattle.phases.specs.History.{calls_in, CancelAnswered, ClockRaised, EndOffered, Event, EventStep, guest_calls, History, IsOpening, MovedBeside, Offers}
pub use Rattle.phases.specs.History.{OrderAsked, owners_call, RequestAnswered, Stepped}
pub use Rattle.phases.specs.Host.{CallStep, HostStep, next_work, QueuesWork, with_requests, with_roster}
pub use Rattle.phases.specs.Inner.Preparing.{Prepares}
pub use Rattle.phases.specs.Inner.Stage.{completion_in}
pub use Rattle.phases.specs.Keeping.{AreOrdersOf, IsOrderOf, KeepsLoop}
pub use Rattle.phases.specs.Laws.{asks_for, is_number, is_queue_work, IsCancel, WasAsked}
pub use Rattle.phases.specs.Outside.{answered, CancelIn, handing, IsOneOf, next_in, next_of, next_order_of, RequestIn}
pub use Rattle.phases.specs.PhaseList.{active_asyncs, active_from, begin_list, exports, first_list, handle_entry, is_active_handle, is_alive, is_empty}
pub use Rattle.phases.specs.Ready.{AreApart, AreReady, Grows, IsReady, IsSettledIn, Spares}
pub use Rattle.phases.specs.Requests.{Answered, cancellation, Cancelled, Completion, completion_of, end_completion, HandedOut, has_number, in_stage}
pub use Rattle.phases.specs.Requests.{is_open_stage, is_settled, lowest_open, no_requests, Open, Request, request_of, Requests, settled, Stage, with_stage}
pub use Rattle.phases.specs.Requests.{with_work, without_request}
pub use Rattle.phases.specs.Roster.{async_handle, callback_function, callback_in, callbacks_of, in_table, is_callback, is_handle, opening_roster, Roster}
pub use Rattle.phases.specs.Roster.{unless_handle, with_async, with_handles, with_made, without_handle}
pub use Rattle.phases.specs.Settings.{setting_of}
pub use Rattle.phases.specs.State.{Core, Loop, opening, Setting, State}
pub use Rattle.phases.specs.Step.{AfterWork, begun, CallsHandle, EntryStep, finished, handle_function, in_state, is_as_listed, over, phase_entered, RanNone}
pub use Rattle.phases.specs.Step.{RunsFrom, sharing, Skips, StepsWith, turn}
pub use Rattle.phases.specs.Stopping.{LoopStopsAt}
pub use Rattle.phases.specs.Underway.{Host, moves}
pub use Rattle.phases.specs.View.{AreOpenedUpTo, View}
pub use Rattle.phases.specs.contracts.roster.Roster.{the_view}
pub use Rattle.phases.specs.declared.callback.Prepared.{Prepared}
pub use Rattle.phases.specs.declared.entry.Entry.{Entry}
pub use Rattle.phases.specs.declared.entry.Entry.TheVariants.{Async}
pub use Rattle.phases.specs.declared.entry.Status.{Status}
pub use Rattle.phases.specs.declared.entry.Status.TheVariants.{Failed, Over, Running}
pub use Rattle.phases.specs.declared.stage.CancelState.{CancelState}
pub use Rattle.phases.specs.declared.stage.CancelState.TheVariants.{Pending, Unknown}
pub use Rattle.reduction.proofs.StepByStep.{steps_keep, steps_map}
pub use Rattle.reduction.specs.Hosting.{Lawful, Names}
pub use Rattle.reduction.specs.Invoking.{HasNoResults, TakesArguments}
pub use Rattle.reduction.specs.Leading.{calling, Leads, scene}
pub use Rattle.reduction.specs.Run.{HostCall}
pub use Rattle.std.proofs.Common.{All, ap, append-nil, append_assoc, arith, Bool, codes, cond, drop, false, filter, get_or, IfNone, IfSome, inl, inr, IsSomeAnd, length}
pub use Rattle.std.proofs.Common.{List, map, MatchBool, MatchOption, None, not, Option, refl, set, Some, subst, suc, sym, take, true, zero, ℕ, [], ◌&&◌, ◌++◌}
pub use Rattle.std.proofs.Common.{◌+◌, ◌-◌, ◌<◌, ◌==◌, ◌||◌, ◌∙◌, ◌∷◌, ◌≡◌, ◌≢◌, ◌≤◌, ◌⊎◌}
pub use Rattle.std.proofs.Math.Dec.{eqb-suc-zero}
pub use Rattle.std.proofs.lemmas.Bool.{cases_eq, cases_lt, eq-eqb, eqb-true, ne_eqb, or_right}
pub use Rattle.std.proofs.lemmas.List.{take_all, take_more}
pub use Rattle.std.proofs.lemmas.List.Elements.{All-head, All-tail, All-weaker}
pub use Rattle.std.proofs.lemmas.List.Folds.{find-append, list_any-append, list_any_none}
pub use Rattle.std.proofs.lemmas.List.Sums.{sum_by_push}
pub use Rattle.std.proofs.lemmas.Option.{get_or_from_slice_get, slice_get-get_or, slice_get_within}
pub use Rattle.std.proofs.lemmas.Slice.Eq.{bytes_eq-Decides}
pub use Rattle.std.specs.Arc.{arc_value}
pub use Rattle.std.specs.List.{Contains, count_by, find, list_any, slice_get}
pub use Rattle.std.specs.Option.{is_some, option_and_then, option_map, option_map_or, option_or}
pub use Rattle.std.specs.Prelude.{nat_le, nat_lt}
pub use Rattle.std.specs.Str.{bytes_eq}
pub use Rattle.syntax.specs.Loaded.{Loaded}
pub use Rattle.syntax.specs.declared.contents.Contents.{Contents}
pub use Rattle.syntax.specs.declared.types.ValType.{ValType}
pub use Rattle.syntax.specs.declared.types.Value.{Value}
pub use Rattle.syntax.specs.declared.types.Value.TheVariants.{I32}
pub use Rattle.tallies.proofs.Filtered.{found_kept, Member}
pub use Rattle.valid.specs.Targets.{AreTables}
pub use Rattle.valid.specs.Valid.{ValidModule}
pub use Rattle.valid.specs.declared.side_table.SideTable.{SideTable}
