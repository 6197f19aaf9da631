use Rattle.wasmloop_c.proofs.Names.{ap, Desk, desk_calls, HeldLoop, inl, inr, refl, StepBegins, StepSlice, subst}
use Rattle.phases.specs.declared.slices.StepSlice.TheVariants as slice
use Rattle.wasmloop_c.specs.declared.thing.LoopStage.TheVariants as stage
use Rattle.wasmloop_c.proofs.HeldLoops.{begins, same}
use Rattle.wasmloop_c.proofs.step_slices.begin.Goals as goal

pub invariant_of-go_on : goal.invariant_of-go_on
invariant_of-go_on c =
    record {
      begun = begins c.args.held (slice.Paused c.in-Ok-Paused.step)
          (subst (λ (s : StepSlice Desk). StepBegins desk_calls c.args.held.core s) c.in-Ok-Paused.field-0-is c.in-Ok-Paused.ensures.begun);
    }

pub returns-in-Ok-Paused : goal.returns-in-Ok-Paused
returns-in-Ok-Paused c =
    inl (
      slice.Paused c.in-Ok-Paused.step,
      c.go_on.ensures.0,
      subst (λ (s : StepSlice Desk). StepBegins desk_calls c.args.held.core s) c.in-Ok-Paused.field-0-is c.in-Ok-Paused.ensures.begun,
      c.go_on.ensures.1,
      c.go_on.ensures.2,
    )

pub over-requires : goal.over-requires
over-requires c =
    begins c.args.held (slice.Over c.in-Ok-Over.core c.in-Ok-Over.did)
    (subst (λ (s : StepSlice Desk). StepBegins desk_calls c.args.held.core s) c.in-Ok-Over.field-0-is c.in-Ok-Over.ensures.begun)

pub returns-in-Ok-Over : goal.returns-in-Ok-Over
returns-in-Ok-Over c =
    inl (
      slice.Over c.in-Ok-Over.core c.in-Ok-Over.did,
      slice.Over c.in-Ok-Over.core c.in-Ok-Over.did,
      subst (λ (s : StepSlice Desk). StepBegins desk_calls c.args.held.core s) c.in-Ok-Over.field-0-is c.in-Ok-Over.ensures.begun,
      refl,
      c.over.ensures,
    )

pub returns-in-Err : goal.returns-in-Err
returns-in-Err c = inr (c.in-Err.refused, ap (λ (h : HeldLoop). stage.Resting h) (same c.args.held c.in-Err.core _ c.in-Err.ensures.refused), refl)
