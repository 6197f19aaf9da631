use Rattle.decode.proofs.Words.{ap, arith, free_u32, length, nat_tests, whole, [], ◌<◌, ◌≡◌}
use Rattle.decode.proofs.RefusalLaws.{hence, stops_before}
use Rattle.decode.proofs.AssemblyLaws.{started_exit, start_some}
use Rattle.decode.proofs.assembly.started.Goals as goal

pub returns-in_err-index : goal.returns-in_err-index
returns-in_err-index c = started_exit _ _ _ _ c.from_residual.ensures.1 c.in-Some.is (λ ok. hence (c.in_err-index.ensures ok) (λ text none f h.
    let s = start_some f text h in
    none s.0 [] (whole s.1)))

pub returns-then-not-is_empty : goal.returns-then-not-is_empty
returns-then-not-is_empty c ok =
    let some : 0 < length c.in_ok-index.rest.now = grind (arith, nat_tests) in (
      c.in-Some.section,
      c.in-Some.is,
      stops_before c.in_ok-index.ensures some c.before-then-not-is_empty.ensures.left (λ text left l more f h.
          let s = start_some f text h in
          let e = free_u32.one c.in_ok-index.index s.0 text left [] l (whole s.1) in
          let none : length left ≡ 0 = ap length e.1 in
          omega (arith, more, none)),
    )
