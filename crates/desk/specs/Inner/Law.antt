-- The calls of a desk meet the law of what a loop shares, and those of others leave what the loop knows.
use Rattle.std.proofs.Common.{◌≡◌, ℕ, Bool, true, false, ◌&&◌, refl, sym, ap, ◌∙◌}
use Rattle.std.specs.Prelude.{slice_set}
use Rattle.tallies.specs.Counts.{raised}
use Rattle.phases.specs.View.{Cancelled, Sent, Taken}
use Rattle.phases.specs.Calls.{IsLawful, AreBeside}
use Rattle.desk.specs.Desk.{Desk, DeskCancels, DeskSends, DeskTakes, DeskStarts, DeskGets, desk_calls, desk_others}

first_holds : (a b : Bool) → true ≡ (a && b) → a ≡ true
first_holds true b h = refl
first_holds false b h = sym h

cancels : (d e : Desk) (c : ℕ × ℕ) (won : Bool) → DeskCancels d c won e → Cancelled d.view e.view c won
cancels d e c true h = (ap (λ x. x.view) h.1.1, first_holds _ _ h.0, h.1.0)
cancels d e c false h = ap (λ x. x.view) h.1

sends : (d e : Desk) (a : ℕ) (ok : Bool) → DeskSends d a ok e → Sent d.view e.view a ok
sends d e a true h = (ap (λ x. x.view) h.1, h.0)
sends d e a false h = (ap (λ x. x.view) h.1, h.0)

takes : (d e : Desk) (a n : ℕ) → DeskTakes d a n e → Taken d.view e.view a n
takes d e a n h = (
  ap (λ x. x.view) h.1 ∙ ap (λ k. record d.view {
    takes = raised d.view.takes a 1;
    taken = raised d.view.taken a k;
    untaken = slice_set d.view.untaken a 0;
  }) (sym h.0),
  h.2,
  h.3,
)

starts : (d e : Desk) (c : ℕ × ℕ) (ok : Bool) → DeskStarts d c ok e → e.view ≡ d.view
starts d e c true h = ap (λ x. x.view) h.1
starts d e c false h = ap (λ x. x.view) h.1

gets : (d e : Desk) (a : ℕ) (ok : Bool) → DeskGets d a ok e → e.view ≡ d.view
gets d e a true h = ap (λ x. x.view) h.1
gets d e a false h = ap (λ x. x.view) h.1

pub desk_lawful : IsLawful desk_calls
desk_lawful = record {
  opens = λ d e slot request h. ap (λ x. x.view) h;
  cancels = λ d e slot request won h. cancels d e (slot, request) won h;
  sends = sends;
  takes = takes;
}

pub desk_beside : AreBeside desk_calls desk_others
desk_beside = record {
  starts = λ d e slot request ok h. starts d e (slot, request) ok h;
  gets = gets;
}
