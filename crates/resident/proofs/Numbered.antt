-- The export with a name, and its number.
use Rattle.resident.proofs.Words.{ap, Contents, ExportsNoFunction, FuncType, HasFunctionType, List, None, Option, refl, Some, sym, ℕ, ◌≡◌}
use Rattle.syntax.specs.Exporting.{IsFirstPlace}
use Rattle.syntax.specs.declared.contents.ExternKind.TheVariants.{Func}
use Rattle.syntax.specs.declared.export.Export.{Export}
use Rattle.resident.specs.Numbered.{ExportsAt, ExportsNoFunctionAt, NumbersExport}

pub unnamed : (m : Contents) (name : List ℕ) → IsFirstPlace m.exports name None → ExportsNoFunction m name
unnamed m name none = (None, none, λ function type has e. absurd cc)

pub no_function : (m : Contents) (name : List ℕ) (number : ℕ) → IsFirstPlace m.exports name (Some number) → ExportsNoFunctionAt m number → ExportsNoFunction m name
no_function m name number (e, before, at, is) none =
    (Some (record { kind = e.kind; index = e.index }), (number, e, before, at, is, refl, refl), λ function type has same. none function type has (found function same)) where
      found : (function : ℕ) → ◌≡◌ {A = Option Export} (Some (record { kind = e.kind; index = e.index })) (Some (record { kind = Func; index = function })) → ExportsAt m number function
      found function same =
          let export : ◌≡◌ {A = Export} (record { kind = e.kind; index = e.index }) (record { kind = Func; index = function }) = cc in
          (e, at, ap (λ (x : Export). x.kind) export, ap (λ (x : Export). x.index) export)

pub numbered : (m : Contents) (name : List ℕ) (number function : ℕ) (type : FuncType) → IsFirstPlace m.exports name (Some number) → ExportsAt m number function
    → HasFunctionType m function type → NumbersExport m name number
numbered m name number function type (e, before, at, is) (f, found, kind, index) has =
    let same : f ≡ e = cc in
    record {
      function = function;
      type = type;
      named = (number, e, before, at, is, rw (← same) (sym kind), rw (← same) (sym index));
      numbered = (f, found, kind, index);
      typed = has;
    }
