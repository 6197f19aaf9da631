-- The words that several proofs of this crate use, from where they are defined.
pub use Rattle.desk.specs.Desk.{Desk, desk_calls}
pub use Rattle.phases.specs.Slices.{StepBegins, StepGoesOn}
pub use Rattle.phases.specs.State.{Core}
pub use Rattle.phases.specs.declared.slices.StepSlice.{StepSlice}
pub use Rattle.resident.specs.Calls.{ExportsNoFunction}
pub use Rattle.std.proofs.Common.{ap, arith, Bool, drop, false, inl, inr, length, List, map, None, Option, refl, rules, Some, subst, sym, take, ℕ, [], ◌++◌}
pub use Rattle.std.proofs.Common.{◌*◌, ◌+◌, ◌-◌, ◌<◌, ◌==◌, ◌^◌, ◌∙◌, ◌∷◌, ◌≡◌, ◌≤◌, ◌⊎◌}
pub use Rattle.std.proofs.alloc.Calls.{Al, handle_tells}
pub use Rattle.std.proofs.raw_atomic.Walks.{leaves, proved_at}
pub use Rattle.std.specs.contracts.impls.GlobalAllocator.TheImpl.{ghosts}
pub use Rattle.syntax.specs.declared.contents.Contents.{Contents}
pub use Rattle.syntax.specs.declared.contents.FuncType.{FuncType}
pub use Rattle.syntax.specs.declared.types.Value.{Value}
pub use Rattle.wasmloop_c.specs.Calls.{one_if, StepsNumbered}
pub use Rattle.wasmloop_c.specs.Signatures.{type_number}
pub use Rattle.wasmloop_c.specs.Sites.{IsByteOf, IsSiteOf, told_of}
pub use Rattle.wasmloop_c.specs.TurnSlices.{counted_on, StepIsTaken, used_in}
pub use Rattle.wasmloop_c.specs.Turning.{ends_turn, NoneEnds, ran_in, TakesSteps}
pub use Rattle.wasmloop_c.specs.Values.{number_of_value, values_of}
pub use Rattle.wasmloop_c.specs.declared.did.Did.{Did}
pub use Rattle.wasmloop_c.specs.declared.did.TheConstants.{RAN}
pub use Rattle.wasmloop_c.specs.declared.held.HeldLoop.{HeldLoop}
pub use Rattle.wasmloop_c.specs.declared.status.TheConstants.{OK}
pub use Rattle.wasmloop_c.specs.declared.step_slices.SliceEnd.{SliceEnd}
pub use Rattle.wasmloop_c.specs.declared.thing.LoopStage.{LoopStage}
pub use Rattle.wasmloop_c.specs.declared.turn.Turned.{Turned}
pub use Rattle.wasmloop_c.specs.declared.turn_slices.Turning.{Turning}
pub use base.Logic.{emp, ent, id⊢, SProp}
pub use contract.Monad.{fact, fact_i}
pub use contract.Running.{tables}
pub use denote.Builtin.{RawPtr}
pub use denote.Exit.{yes}
pub use denote.Param.{layout}
pub use denote.RattleType.{owns, RattleType, Valss}
pub use denote.RawPtr.{Ptr, ptr_val}
pub use denote.Signature.{plain, types_at}
pub use denote.Steps.{nothing}
pub use denote.Struct.Owning.{shape}
pub use denote.Struct.Struct.{within}
pub use denote.Triple.Entry.{alive}
pub use denote.Triple.Walked.{Goes-dropped, stay_dropped, Stays, walk_of}
pub use lib.Dec.{T}
pub use mathlib.Core.Bool.{true, ◌&&◌}
pub use mir.Syntax.{dnil, impl, tnil, ty_ptr}
pub use mir.Val.{has_ty, of_list, Val, vstruct, WT}
pub use prog.Wp.{WpFn}
pub use types.ByLocal.{alloc_all, free_all, get, get_in, look_at, pass_all, sets}
pub use types.Kit.{by, feq_i, feq_l, fjoin, fpack, fpick, fsplit, keep, move, qed, raw, split, suffices, use0, !, ‵, ◌$◌, ◌∵◌, ◌⊛◌}
pub use types.Part.{agg, sub, whole}
pub use types.Run.{and_then, enter, fld, no_more, of_opd, returns, stop}
