use Rattle.decode.proofs.Words.{ap, apart, arith, expr, free_expr, held, Leaves, length, List, nat_tests, whole, ℕ, [], ◌<◌, ◌≡◌}
use Rattle.syntax.proofs.ModuleLaws.{free_locals}
use Rattle.decode.proofs.RefusalLaws.{hence, after, stops_before}
use Rattle.decode.proofs.Exits.{past}
use Rattle.decode.proofs.AssemblyLaws.{all_exit}
use Rattle.decode.proofs.parts.body.Goals as goal

pub returns-in_err-declared : goal.returns-in_err-declared
returns-in_err-declared c = all_exit held c.args.contents.now _ _ c.from_residual.ensures.1 (λ ok. hence (c.in_err-declared.ensures ok) (λ text none v h. none v.0 _ (apart (whole h)).first))

pub returns-in_err-code : goal.returns-in_err-code
returns-in_err-code c = all_exit held c.args.contents.now _ _ c.from_residual-in_err-code.ensures.1 (λ ok. after c.in_ok-declared.ensures (c.in_err-code.ensures ok) (λ text mid l none v h.
    none v.1 [] (past free_locals l (whole h)).1))

pub returns-then-not-is_empty : goal.returns-then-not-is_empty
returns-then-not-is_empty c ok =
    let some : 0 < length c.in_ok-code.rest.now = grind (arith, nat_tests) in
    let there = stops_before {P = λ (t : List ℕ). (u : List ℕ) × Leaves (expr c.in_ok-code.code) t u × (0 < length u)} c.in_ok-code.ensures some c.before-then-not-is_empty.ensures.left (λ text left k more. (left, k, more)) in
    after c.in_ok-declared.ensures there (λ text mid l k v h.
    let p = past free_locals l (whole h) in
    let e = (free_expr.one c.in_ok-code.code v.1 _ _ [] k.1 p.1).1 in
    let none : length k.0 ≡ 0 = ap length e in
    omega (arith, none, k.2))
