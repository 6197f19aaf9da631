use Rattle.board.proofs.Words.{All-push, ap, arith, IsNewPass, length-append, LineView, List, MakerView, map, one_later, Reply, sym, ℕ, [], ◌+◌, ◌∙◌, ◌∷◌}
use Rattle.board.specs.Boards.{PassView, BoardView, HasNumber}
use Rattle.board.proofs.Makers.{lines_of, made_later, all_numbered, all_keyed, each_push}
use Rattle.board.proofs.board.Board.with_gathering.Goals as goal

pub invariant_of-push : goal.invariant_of-push
invariant_of-push g c k h at =
    let keys = c.in_ok-hands_of.ensures.keys ∙ ap (λ (ms : List (MakerView Reply)). map (λ m. m.key) ms) c.loop.invariant.1 in
    let key = all_keyed c.in_ok-hands_of.field-0.items (c.loop.counter + 1) 0 c.in_ok-replies.replies.items keys k h at in
    omega arith

pub hands_of-requires : goal.hands_of-requires
hands_of-requires g c =
    let lines : List LineView = c.in_ok-replies.replies.items in
    ap (λ (ms : List (MakerView Reply)). map (λ m. m.line) ms) c.loop.invariant.1 ∙ lines_of (c.loop.counter + 1) 0 lines
    ∙ ap (λ (ls : List LineView). map (λ l. l.id) ls) (sym c.as_slice.ensures.value)

pub loop-preserved : goal.loop-preserved
loop-preserved g c =
    let known = c.loop.invariant in
    let n : ℕ = c.loop.counter + 1 in
    let lines : List LineView = c.in_ok-replies.replies.items in
    let made = c.in_ok-hands_of.ensures in
    let hand = c.hand.ensures.hand in
    let board : BoardView = record { jobs = c.in_ok-jobs.jobs; replies = lines } in
    let pass : PassView g.row.J.Denot = record { jobs = c.hand.result; replies = c.in_ok-hands_of.field-0.items } in
    let new : IsNewPass board pass =
    record {
      own = record { jobs = hand.0 ∙ ap (λ (m : MakerView g.row.J.Denot). m.line) known.0; replies = made.lines ∙ ap (λ (ms : List (MakerView Reply)). map (λ m. m.line) ms) known.1 ∙ lines_of n 0 lines };
      jobs = hand.3;
      replies = made.idle;
    } in
    let number : HasNumber n pass =
    record {
      jobs = hand.2 ∙ ap (λ (m : MakerView g.row.J.Denot). m.next) known.0;
      replies = all_numbered pass.replies n 0 lines (made.numbers ∙ ap (λ (ms : List (MakerView Reply)). map (λ m. m.next) ms) known.1);
    } in
    let passes = c.loop.passes_made.items in
    rw c.in_ok-push.ensures.items (
      c.hand.ensures.maker ∙ ap one_later known.0,
      made.makers ∙ ap (λ (ms : List (MakerView Reply)). map (one_later {T = Reply}) ms) known.1 ∙ made_later n 0 lines,
      known.2,
      known.3,
      known.4,
      omega (arith, length-append passes (pass ∷ []), known.5),
      All-push (IsNewPass board) passes pass known.6 new,
      each_push (λ k (p : PassView g.row.J.Denot). HasNumber (k + 1) p) passes pass known.7 (rw known.5 number),
    )
