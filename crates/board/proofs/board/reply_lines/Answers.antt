use Rattle.board.proofs.Words.{All-push, ap, arith, length-append, LineView, makers_at, MAX_REPLIES, sym, [], ◌++◌, ◌∙◌, ◌∷◌, ◌≡◌}
use Rattle.board.proofs.Makers.{one_line_more}
use Rattle.board.proofs.board.reply_lines.Goals as goal

pub loop-loop_no-preserved : goal.loop-loop_no-preserved
loop-loop_no-preserved c =
    let known = c.loop-loop_no.invariant in
    let lines = c.loop-loop_no.lines.items in
    let line : LineView = c.in_ok-line.line in
    let made = c.in_ok-line.ensures in
    rw c.in_ok-push.ensures.items (
      omega (arith, length-append lines (line ∷ []), known.0),
      c.in_ok-push-2.ensures.items ∙ ap (λ ms. ms ++ c.in_ok-line.maker ∷ []) known.1 ∙ ap (λ m. makers_at 1 0 lines ++ m ∷ []) made.maker
          ∙ sym (one_line_more 1 0 c.loop-loop_no.loop_no lines line (omega (arith, known.0))),
      All-push (λ (l : LineView). l.places ≡ MAX_REPLIES) lines line known.2 made.places,
    )
