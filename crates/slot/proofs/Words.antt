-- The words that several proofs of this crate use, from where they are defined.
pub use Rattle.std.proofs.BoxSteps.Form.{args, B, Bx, D, P, R}
pub use Rattle.std.proofs.BoxSteps.Steps.{box_in, box_out}
pub use Rattle.std.proofs.alloc.Calls.{Goes-blank, handle_tells, token}
pub use Rattle.std.specs.Box.Ownership.{box_owns}
pub use Rattle.std.specs.Prelude.{None, Option, Some}
pub use base.Fml.{flft, fsep, ftrue}
pub use base.Logic.{ent, id⊢, SProp}
pub use base.Shift.{Keyless}
pub use contract.BorrowLft.{◌⊑◌}
pub use contract.Monad.{fact, Fun}
pub use denote.Exit.{no}
pub use denote.RattleType.{RattleType}
pub use denote.RawPtr.{block_ptr, in_a_block, null_ptr, Ptr, ptr_val, RawPtr}
pub use denote.Signature.{plain}
pub use denote.Steps.{heard, nothing, only}
pub use denote.Triple.Clauses.{Clauses, Ended}
pub use denote.Triple.Spec.{triple_of}
pub use denote.Triple.Statement.{Contract, Triple}
pub use denote.Triple.Table.{entered}
pub use denote.Triple.Walked.{ends_at, says, stay_dropped, Stays, walk_Meets, walk_of}
pub use lib.Dec.{T}
pub use mathlib.Core.List.{List, [], ◌++◌, ◌∷◌}
pub use mathlib.Core.Path.{ap, refl, subst, sym, ◌∙◌, ◌≡◌}
pub use mir.MapTy.{inst_fn}
pub use mir.Syntax.{a_type, Args, dcons, Dict, dnil, Fn}
pub use mir.Val.{has_ty, of_list, Val, vptr, vstruct, WT}
pub use prog.Memory.{Memory}
pub use prog.Routine.{Routine}
pub use prog.Wp.{Tables, WpFn}
pub use seplogic.Ra.Ura.{Ura}
pub use sound.WpLaws.{fm_of, WpFn-mono}
pub use types.ByLocal.{alloc_all, free_all, get, get_in, lands_as, look_at, pass_all, sets}
pub use types.Kit.{await, by, done, drop, feq_l, fjoin, fpick, fsplit, Item, join, later, move, pick, qed, raw, rewrite, some, split, split3, suffices, use1}
pub use types.Kit.{ !, ‵, ◌$◌, ◌∵◌, ◌⊛◌}
pub use types.Logic.{Logic, sem}
pub use types.Part.{agg, sub, whole}
pub use types.Run.{and_then, enter, fld, no_more, of_opd, returns, stop}
