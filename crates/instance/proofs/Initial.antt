-- The initial values of globals have the globals' types.
use Rattle.std.proofs.Common.{◌≡◌, suc, List, [], ◌∷◌, map, All, refl, ap, ◌∙◌, arith}
use Rattle.syntax.specs.declared.types.ValType.{ValType}
use Rattle.syntax.specs.declared.contents.Global.{Global}
use Rattle.syntax.specs.Code.{Code}
use Rattle.valid.specs.Typing.{type_of}
use Rattle.valid.specs.Segments.{constant_in}
use Rattle.valid.specs.Valid.{IsConstant}

constant_type : (t : ValType) (code : Code) → IsConstant t code → type_of (constant_in code) ≡ t
constant_type t code (v, is, typed) = ap (λ (c : Code). type_of (constant_in c)) is ∙ typed

pub initial_types : (globals : List Global) → All (λ g. IsConstant g.value_type g.init) globals
    → map type_of (map (λ g. constant_in g.init) globals) ≡ map (λ g. g.value_type) globals
initial_types [] constants = refl
initial_types (g ∷ globals) constants =
    let first : IsConstant g.value_type g.init = constants 0 g (omega arith) in
    let others : All (λ g. IsConstant g.value_type g.init) globals = λ k d within. constants (suc k) d (omega (arith, within)) in
    rw (constant_type g.value_type g.init first, initial_types globals others) refl
