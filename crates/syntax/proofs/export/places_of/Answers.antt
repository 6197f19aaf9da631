use Rattle.syntax.proofs.Words.{ap, arith, get_by, is_some, length, List, nat_eq, pointwise, refl, slice_get_read, subst, sym, ℕ, [], ◌++◌, ◌+◌, ◌∙◌, ◌∷◌, ◌≡◌}
use Rattle.std.proofs.Common.{Vec, Global}
use Rattle.indexmap.proofs.CallerLemmas.{insert_entry-new}
use Rattle.syntax.proofs.ExportLaws.{TellsBefore, place_in, none_found, tells_at_end, tells_present, tells_inserted}
use Rattle.syntax.proofs.export.places_of.Goals.{then-not-contains_key+in_ok-from_slice+in_ok-insert, else-not-contains_key}
use Rattle.syntax.proofs.export.places_of.Goals as goal

pub loop-place-preserved : goal.loop-place-preserved
loop-place-preserved c =
    let exports = c.args.exports.now in
    let place = c.loop-place.place in
    let export = c.index-exports-place.result in
    let here = slice_get_read exports (length exports) place export refl (omega arith) c.index-exports-place.is in
    let Tells : List (Vec ℕ Global × ℕ) → Type 0 = λ es. TellsBefore exports (place + 1) (place_in (λ (k : Vec ℕ Global). k.items) es) in
    let before = c.loop-place.places.entries in
    elim c.if-not-contains_key.branch [
      | then-not-contains_key+in_ok-from_slice+in_ok-insert w ↦
          let key = w.in_ok-from_slice.field-0 in
          let unknown = sym c.contains_key.ensures ∙ w.if-not-contains_key.true in
          let none =
          none_found (place_in (λ (k : Vec ℕ Global). k.items) before key.items)
          (ap (λ n. is_some (place_in (λ (k : Vec ℕ Global). k.items) before n)) w.in_ok-from_slice.ensures.items ∙ unknown) in
          let last = insert_entry-new (λ (x y : Vec ℕ Global). pointwise nat_eq x.items y.items) c.loop-place.places key place none in
          let entries : c.if-not-contains_key.places.entries ≡ before ++ (key, place) ∷ [] = ap (λ m. m.entries) w.places-is ∙ w.in_ok-insert.ensures.entries ∙ last in
          let added =
          tells_inserted (λ (k : Vec ℕ Global). k.items) exports place export here c.as_slice-name.result.now c.as_slice-name.ensures before
          c.loop-place.invariant key w.in_ok-from_slice.ensures.items unknown in
          subst Tells (sym entries) added
      | else-not-contains_key w ↦
          let same =
          tells_present (λ (k : Vec ℕ Global). k.items) exports place export here c.as_slice-name.result.now c.as_slice-name.ensures before
          c.loop-place.invariant (sym c.contains_key.ensures ∙ w.if-not-contains_key.false) in
          rw (w.places-is) same
    ]

pub returns : goal.returns
returns c =
    tells_at_end c.args.exports.now c.loop-place.place (λ name. get_by (λ key. pointwise nat_eq name key.items) c.loop-place.places)
    c.loop-place-test.false c.loop-place.invariant
