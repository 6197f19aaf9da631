use Rattle.phases.proofs.Words.{All, arith, false, get_or, is_handle, list_any, list_any_none, None, Option, Some, sym, true, ℕ, ◌≡◌}
use Rattle.std.proofs.Common.{eqb}
use Rattle.std.specs.Option.{option_eq}
use Rattle.std.proofs.lemmas.List.Elements.{All-from_get_or}
use Rattle.std.proofs.lemmas.List.Sums.{position_or_len_is}
use Rattle.phases.proofs.roster.position_of.Goals as goal

is_here : (handle : ℕ) (o : Option ℕ) → true ≡ option_eq eqb o (Some handle) → is_handle handle o ≡ true
is_here handle None h = absurd (cc)
is_here handle (Some x) h = sym h

pub returns-then-eq-clause-value : goal.returns-then-eq-clause-value
returns-then-eq-clause-value c =
    sym (position_or_len_is (is_handle c.args.handle) c.args.asyncs.now c.loop-number.number None (omega arith) c.loop-number.invariant
    (λ within. is_here c.args.handle (get_or c.args.asyncs.now c.loop-number.number None) c.if-eq.ensures))

pub unreachable-requires : goal.unreachable-requires
unreachable-requires c =
    let all : All (λ x. is_handle c.args.handle x ≡ false) c.args.asyncs.now =
    All-from_get_or (λ x. is_handle c.args.handle x ≡ false) c.args.asyncs.now None
    (λ i within. c.loop-number.invariant i (let end = c.loop-number-test.false in omega arith)) in
    let none : list_any (is_handle c.args.handle) c.args.asyncs.now ≡ false = list_any_none (is_handle c.args.handle) c.args.asyncs.now all in
    let some = c.requires.there in
    cc
