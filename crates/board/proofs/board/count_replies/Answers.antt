use Rattle.board.proofs.Words.{ap, arith, cases_eq, length, length-map, LineView, List, MakerView, map, refl, Reply, same_Some, set, set_same, slice_get}
use Rattle.board.proofs.Words.{slice_get_read, Some, sym, ℕ, ⊎_elim, ◌∙◌, ◌≡◌, ◌≢◌}
use Rattle.board.proofs.Makers.{same_part}
use Rattle.board.proofs.Taking.{below}
use Rattle.board.proofs.board.count_replies.Goals as goal

makers_count : (makers : List (MakerView Reply)) (lines : List LineView) → map (λ m. m.line) makers ≡ map (λ l. l.id) lines → length makers ≡ length lines
makers_count makers lines e = sym (length-map makers (λ (m : MakerView Reply). m.line)) ∙ ap length e ∙ length-map lines (λ (l : LineView). l.id)

pub count-requires-clause-line : goal.count-requires-clause-line
count-requires-clause-line c =
    let lines : List LineView = c.args.lines.now in
    let makers : List (MakerView Reply) = c.loop-i.makers.items in
    let less = c.loop-i-test.true in
    let own : map (λ (m : MakerView Reply). m.line) makers ≡ map (λ (l : LineView). l.id) lines = ap (map (λ (m : MakerView Reply). m.line)) c.loop-i.invariant.0 ∙ c.requires.makers in
    let size = makers_count makers lines own in
    let maker = slice_get_read makers _ _ c.index_mut.result.now refl (omega arith) c.index_mut.ensures.value in
    let line = slice_get_read lines _ _ c.index-lines-i.result refl less c.index-lines-i.is in
    same_part (λ (m : MakerView Reply). m.line) (λ (l : LineView). l.id) makers lines c.loop-i.i c.index_mut.result.now c.index-lines-i.result own maker line

pub count-requires-clause-all : goal.count-requires-clause-all
count-requires-clause-all c =
    let lines : List LineView = c.args.lines.now in
    let makers : List (MakerView Reply) = c.loop-i.makers.items in
    let less = c.loop-i-test.true in
    let size = makers_count makers lines (ap (map (λ (m : MakerView Reply). m.line)) c.loop-i.invariant.0 ∙ c.requires.makers) in
    let maker : slice_get makers c.loop-i.i ≡ Some c.index_mut.result.now = slice_get_read makers _ _ c.index_mut.result.now refl (omega arith) c.index_mut.ensures.value in
    c.requires.all c.loop-i.i c.index_mut.result.now (rw c.loop-i.invariant.0 at maker)

pub loop-i-preserved : goal.loop-i-preserved
loop-i-preserved c =
    let lines : List LineView = c.args.lines.now in
    let makers : List (MakerView Reply) = c.loop-i.makers.items in
    let i : ℕ = c.loop-i.i in
    let known = c.loop-i.invariant in
    let less = c.loop-i-test.true in
    let size = makers_count makers lines (ap (map (λ (m : MakerView Reply). m.line)) known.0 ∙ c.requires.makers) in
    let m : MakerView Reply = c.index_mut.result.now in
    let maker : slice_get makers i ≡ Some m = slice_get_read makers _ _ c.index_mut.result.now refl (omega arith) c.index_mut.ensures.value in
    let was : slice_get c.args.makers.now.items i ≡ Some m = rw known.0 at maker in (
      ap (set makers i) c.count.ensures.same ∙ set_same makers i m maker ∙ known.0,
      omega arith,
      λ k n under e.
          ⊎_elim
          (λ (here : k ≡ i).
          let same : m ≡ n = same_Some m n (sym was ∙ rw here at e) in
          rw same at c.count.ensures.whole)
          (λ (ne : k ≢ i). known.2 k n (omega arith) e)
          (cases_eq k i),
    )

pub returns : goal.returns
returns c =
    record {
      whole =
          λ k m e.
          let there = below c.args.makers.now.items k m e in
          let over = c.loop-i-test.false in
          let size = makers_count c.args.makers.now.items c.args.lines.now c.requires.makers in
          c.loop-i.invariant.2 k m (omega arith) e;
    }
