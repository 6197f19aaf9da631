use Rattle.std.proofs.Common.{arith}
use Rattle.std.proofs.lemmas.Bool.Decides.{nat_tests}
use Rattle.places.proofs.operations.immediates.Goals as goal

pub returns-in_default : goal.returns-in_default
returns-in_default c = grind (arith, nat_tests)

pub returns-in_default-2 : goal.returns-in_default-2
returns-in_default-2 c = grind (arith, nat_tests)

pub returns-in_default-3 : goal.returns-in_default-3
returns-in_default-3 c = grind (arith, nat_tests)

pub returns-in_default-4 : goal.returns-in_default-4
returns-in_default-4 c = grind (arith, nat_tests)

pub returns-in_default-5 : goal.returns-in_default-5
returns-in_default-5 c = grind (arith, nat_tests)

pub returns-in-17 : goal.returns-in-17
returns-in-17 c = grind (arith, nat_tests)

pub returns-in-17-2 : goal.returns-in-17-2
returns-in-17-2 c = grind (arith, nat_tests)

pub returns-in-2-to-4 : goal.returns-in-2-to-4
returns-in-2-to-4 c = grind (arith, nat_tests)

pub returns-in-2-to-4-2 : goal.returns-in-2-to-4-2
returns-in-2-to-4-2 c = grind (arith, nat_tests)

pub returns-in-2-to-4-3 : goal.returns-in-2-to-4-3
returns-in-2-to-4-3 c = grind (arith, nat_tests)

pub returns-in-2-to-4-4 : goal.returns-in-2-to-4-4
returns-in-2-to-4-4 c = grind (arith, nat_tests)

pub returns-in-2-to-4-5 : goal.returns-in-2-to-4-5
returns-in-2-to-4-5 c = grind (arith, nat_tests)
