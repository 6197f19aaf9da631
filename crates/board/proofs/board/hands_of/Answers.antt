use Rattle.board.proofs.Words.{add-one, All-push, ap, arith, get_or, HandView, IsIdle, length, length-map, LineView, List, MakerView, map, map-append}
use Rattle.board.proofs.Words.{one_later, refl, Reply, set, slice_get, slice_get_read, Some, sym, take, ℕ, [], ◌++◌, ◌<◌, ◌∙◌, ◌∷◌, ◌≡◌}
use Rattle.board.proofs.Makers.{advanced, advanced_all, advanced_get, advanced_length, advanced_next, taken_next, same_part}
use Rattle.board.proofs.board.hands_of.Goals as goal

same_count : (makers : List (MakerView Reply)) (lines : List LineView) → map (λ m. m.line) makers ≡ map (λ l. l.id) lines → length makers ≡ length lines
same_count makers lines e = sym (length-map makers (λ (m : MakerView Reply). m.line)) ∙ ap length e ∙ length-map lines (λ (l : LineView). l.id)

-- the next maker is as it was passed
maker_was : (i : ℕ) (makers now : List (MakerView Reply)) (m : MakerView Reply) → now ≡ advanced i makers → i < length makers → m ≡ get_or now i m → slice_get makers i ≡ Some m
maker_was i makers now m is below read =
    let size : length now ≡ length makers = ap length is ∙ advanced_length i makers in
    sym (advanced_get i makers) ∙ ap (λ ms. slice_get ms i) (sym is) ∙ slice_get_read now _ _ m refl (omega arith) read

pub hand-requires : goal.hand-requires
hand-requires c =
    let makers : List (MakerView Reply) = c.args.makers.now.items in
    let lines : List LineView = c.args.lines.now in
    let count = same_count makers lines c.requires in
    let below = c.loop-i-test.true in
    same_part (λ (m : MakerView Reply). m.line) (λ (l : LineView). l.id) makers lines c.loop-i.i c.index_mut.result.now c.index-lines-i.result c.requires
    (maker_was c.loop-i.i makers c.loop-i.makers.items c.index_mut.result.now c.loop-i.invariant.0 (omega arith) c.index_mut.ensures.value)
    (slice_get_read lines _ _ c.index-lines-i.result refl below c.index-lines-i.is)

pub loop-i-preserved : goal.loop-i-preserved
loop-i-preserved c =
    let i : ℕ = c.loop-i.i in
    let makers : List (MakerView Reply) = c.args.makers.now.items in
    let hands : List (HandView Reply) = c.loop-i.hands.items in
    let hand : HandView Reply = c.hand.result in
    let m : MakerView Reply = c.index_mut.result.now in
    let known = c.loop-i.invariant in
    let count = same_count makers c.args.lines.now c.requires in
    let below = c.loop-i-test.true in
    let was = maker_was i makers c.loop-i.makers.items m known.0 (omega arith) c.index_mut.ensures.value in
    let made = c.hand.ensures.hand in
    rw c.in_ok-push.ensures.items (
      ap (λ x. set c.loop-i.makers.items i x) c.hand.ensures.maker ∙ ap (λ ms. set ms i (one_later m)) known.0 ∙ advanced_next i makers m was ∙ ap (λ k. advanced k makers) (sym (add-one i)),
      omega arith,
      map-append (λ (h : HandView Reply). h.line) hands (hand ∷ []) ∙ ap (λ xs. xs ++ hand.line ∷ []) known.2 ∙ ap (λ id. take i (map (λ (m : MakerView Reply). m.line) makers) ++ id ∷ []) made.0
          ∙ sym (taken_next (λ (m : MakerView Reply). m.line) i makers m was) ∙ ap (λ k. take k (map (λ (m : MakerView Reply). m.line) makers)) (sym (add-one i)),
      map-append (λ (h : HandView Reply). h.key) hands (hand ∷ []) ∙ ap (λ xs. xs ++ hand.key ∷ []) known.3 ∙ ap (λ n. take i (map (λ (m : MakerView Reply). m.key) makers) ++ n ∷ []) made.1
          ∙ sym (taken_next (λ (m : MakerView Reply). m.key) i makers m was) ∙ ap (λ k. take k (map (λ (m : MakerView Reply). m.key) makers)) (sym (add-one i)),
      map-append (λ (h : HandView Reply). h.number) hands (hand ∷ []) ∙ ap (λ xs. xs ++ hand.number ∷ []) known.4 ∙ ap (λ n. take i (map (λ (m : MakerView Reply). m.next) makers) ++ n ∷ []) made.2
          ∙ sym (taken_next (λ (m : MakerView Reply). m.next) i makers m was) ∙ ap (λ k. take k (map (λ (m : MakerView Reply). m.next) makers)) (sym (add-one i)),
      All-push IsIdle hands hand known.5 made.3,
    )

pub returns-clause-makers : goal.returns-clause-makers
returns-clause-makers c =
    let makers : List (MakerView Reply) = c.args.makers.now.items in
    let count = same_count makers c.args.lines.now c.requires in
    let known = c.loop-i.invariant in
    let within = known.1 in
    let over = c.loop-i-test.false in
    known.0 ∙ ap (λ k. advanced k makers) (omega arith) ∙ advanced_all makers
