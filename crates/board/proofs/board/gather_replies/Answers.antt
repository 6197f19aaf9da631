use Rattle.board.proofs.Words.{ap, arith, HandView, length, length-map, LineView, List, MakerView, map, refl, Reply, slice_get, slice_get_read, Some, sym, ℕ}
use Rattle.board.proofs.Words.{◌<◌, ◌∙◌, ◌≡◌}
use Rattle.board.proofs.Makers.{same_part}
use Rattle.board.proofs.Taking.{below, next_hand, one_less, map_set}
use Rattle.board.proofs.board.gather_replies.Goals as goal

makers_count : (makers : List (MakerView Reply)) (lines : List LineView) → map (λ m. m.line) makers ≡ map (λ l. l.id) lines → length makers ≡ length lines
makers_count makers lines e = sym (length-map makers (λ (m : MakerView Reply). m.line)) ∙ ap length e ∙ length-map lines (λ (l : LineView). l.id)

hands_count : (hands : List (HandView Reply)) (lines : List LineView) → map (λ h. h.line) hands ≡ map (λ l. l.id) lines → length hands ≡ length lines
hands_count hands lines e = sym (length-map hands (λ (h : HandView Reply). h.line)) ∙ ap length e ∙ length-map lines (λ (l : LineView). l.id)

pub gather-requires : goal.gather-requires
gather-requires c =
    let lines : List LineView = c.args.lines.now in
    let makers : List (MakerView Reply) = c.loop-hand.makers.items in
    let hands : List (HandView Reply) = c.args.hands.items in
    let more : List (HandView Reply) = c.pop.new.self.items in
    let k : ℕ = c.len-loop_no.result in
    let known = c.loop-hand.invariant in
    let a = c.len-loop_no.ensures in
    let b = c.pop.new.self.ok.0 in
    let place : k ≡ length more = omega arith in
    let next : slice_get hands (length more) ≡ Some c.in-Some.hand = next_hand c.args.makers.now.items hands c.loop-hand.hands.items makers more c.in-Some.hand known.1 c.in-Some.ensures.items in
    let here : slice_get hands k ≡ Some c.in-Some.hand = rw place next in
    let less : k < length hands = below hands k c.in-Some.hand here in
    let same = makers_count makers lines known.0 in
    let others = hands_count hands lines c.requires.hands in
    let maker = slice_get_read makers _ _ c.index_mut.result.now refl (omega arith) c.index_mut.ensures.value in
    let line = slice_get_read lines _ _ c.index-lines-loop_no.result refl (omega arith) c.index-lines-loop_no.is in (
      same_part (λ (m : MakerView Reply). m.line) (λ (l : LineView). l.id) makers lines k c.index_mut.result.now c.index-lines-loop_no.result known.0 maker line,
      same_part (λ (h : HandView Reply). h.line) (λ (l : LineView). l.id) hands lines k c.in-Some.hand c.index-lines-loop_no.result c.requires.hands here line,
    )

pub loop-hand-preserved : goal.loop-hand-preserved
loop-hand-preserved c =
    let lines : List LineView = c.args.lines.now in
    let makers : List (MakerView Reply) = c.loop-hand.makers.items in
    let hands : List (HandView Reply) = c.args.hands.items in
    let more : List (HandView Reply) = c.pop.new.self.items in
    let k : ℕ = c.len-loop_no.result in
    let known = c.loop-hand.invariant in
    let a = c.len-loop_no.ensures in
    let b = c.pop.new.self.ok.0 in
    let place : k ≡ length more = omega arith in
    let next : slice_get hands (length more) ≡ Some c.in-Some.hand = next_hand c.args.makers.now.items hands c.loop-hand.hands.items makers more c.in-Some.hand known.1 c.in-Some.ensures.items in
    let here : slice_get hands k ≡ Some c.in-Some.hand = rw place next in
    let less : k < length hands = below hands k c.in-Some.hand here in
    let same = makers_count makers lines known.0 in
    let others = hands_count hands lines c.requires.hands in
    let maker : slice_get makers k ≡ Some c.index_mut.result.now = slice_get_read makers _ _ c.index_mut.result.now refl (omega arith) c.index_mut.ensures.value in
    let at : slice_get makers (length more) ≡ Some c.index_mut.result.now = rw place at maker in
    let w : MakerView Reply = c.gather.new.maker in (
      map_set (λ (m : MakerView Reply). m.line) makers k c.index_mut.result.now w maker (ap (λ (m : MakerView Reply). m.line) c.gather.ensures) ∙ known.0,
      rw place (one_less c.args.makers.now.items hands c.loop-hand.hands.items makers more c.in-Some.hand known.1 c.in-Some.ensures.items c.index_mut.result.now at w c.gather.ensures),
    )
