-- The operands, the contexts and the locals of contexts within the limits.
use Rattle.reduction.proofs.Words.{arith, Beneath, beneath_call, Code, code_left, Contents, Context, Counted, Done, FitsHeights, Frame, frames, GoesOn}
use Rattle.reduction.proofs.Words.{height_of, IsWithin, Label, labels_of, length, length-append, List, MAX_HEIGHT, MAX_LOCALS, operands_of, suc, ℕ, [], ◌*◌}
use Rattle.reduction.proofs.Words.{◌+◌, ◌∷◌, ◌≤◌}
use Rattle.reduction.proofs.Contexts.{height-parts}
use Rattle.reduction.specs.HeightsOfRuns.{all_operands, all_locals}

fits_of : (m : Contents) (labels : List ℕ) (base before after : ℕ) (code : Code) → Counted m labels base before after code → FitsHeights labels base before
fits_of m labels base before after Done k = k.0
fits_of m labels base before after _ k = k.0

module _ (m : Contents) where
  fits_once : (contexts : List Context) (more after : ℕ) → GoesOn m contexts more after (code_left contexts) → FitsHeights (labels_of contexts) (beneath_call contexts) (more + length (operands_of contexts))
  fits_once contexts more after k = fits_of m (labels_of contexts) (beneath_call contexts) (more + length (operands_of contexts)) after (code_left contexts) k

  -- the operands below the innermost call's are within the heights of their calls
  operands_below : (after : ℕ) (contexts : List Context) → Beneath m after contexts
      → length (all_operands contexts) + MAX_HEIGHT ≤ height_of contexts + MAX_HEIGHT * frames contexts
  operands_below after [] h = absurd h
  operands_below after (Label arity next values code ∷ below) (later, h, k, n) =
      omega (arith, operands_below later below h, length-append values (all_operands below))
  operands_below after (Frame locals arity values code ∷ []) h = omega (arith, length-append values [])
  operands_below after (Frame locals arity values code ∷ top ∷ below) (few, small, same, later, h, k) =
      let inner = top ∷ below in
      let fits = fits_once inner after later k in
      omega (arith, operands_below later (top ∷ below) h, fits.height, height-parts inner, length-append values (all_operands inner))

  -- so are the contexts below the innermost call's
  contexts_below : (after : ℕ) (contexts : List Context) → Beneath m after contexts → length contexts + 258 ≤ suc (length (labels_of contexts)) + 258 * frames contexts
  contexts_below after [] h = absurd h
  contexts_below after (Label arity next values code ∷ below) (later, h, k, n) = omega (arith, contexts_below later below h)
  contexts_below after (Frame locals arity values code ∷ []) h = omega arith
  contexts_below after (Frame locals arity values code ∷ top ∷ below) (few, small, same, later, h, k) =
      let inner = top ∷ below in
      let fits = fits_once inner after later k in
      omega (arith, contexts_below later (top ∷ below) h, fits.nesting)

  pub operands_within : (more : ℕ) (contexts : List Context) → IsWithin m contexts more → length (all_operands contexts) ≤ MAX_HEIGHT * frames contexts
  operands_within more contexts w =
      let fits = fits_once contexts more w.after w.code in
      omega (arith, operands_below w.after contexts w.beneath, fits.height, height-parts contexts)

  pub contexts_within : (more : ℕ) (contexts : List Context) → IsWithin m contexts more → length contexts ≤ 258 * frames contexts
  contexts_within more contexts w =
      let fits = fits_once contexts more w.after w.code in
      omega (arith, contexts_below w.after contexts w.beneath, fits.nesting)

  locals_beneath : (after : ℕ) (contexts : List Context) → Beneath m after contexts → length (all_locals contexts) ≤ MAX_LOCALS * frames contexts
  locals_beneath after [] h = absurd h
  locals_beneath after (Label arity next values code ∷ below) (later, h, k, n) = locals_beneath later below h
  locals_beneath after (Frame locals arity values code ∷ []) (few, small, same) = omega (arith, few, length-append locals [])
  locals_beneath after (Frame locals arity values code ∷ top ∷ below) (few, small, same, later, h, k) =
      omega (arith, few, locals_beneath later (top ∷ below) h, length-append locals (all_locals (top ∷ below)))

  pub locals_within : (more : ℕ) (contexts : List Context) → IsWithin m contexts more → length (all_locals contexts) ≤ MAX_LOCALS * frames contexts
  locals_within more contexts w = locals_beneath w.after contexts w.beneath
