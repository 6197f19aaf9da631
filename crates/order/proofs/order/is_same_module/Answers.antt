use Rattle.std.proofs.Common.{◌≡◌, ap, sym, ◌∙◌}
use Rattle.std.proofs.lemmas.Bool.Decides.{Decides-eqb}
use Rattle.std.proofs.lemmas.Slice.Eq.{slice_eq-Decides}
use Rattle.order.proofs.Modules.{same_loaded}
use Rattle.order.proofs.order.is_same_module.Goals as goal

pub returns : goal.returns
returns c =
    let module_is : c.module-module.result.now ≡ c.args.linked.now = cc in
    let other_is : c.module-other.result.now ≡ c.args.other.now = cc in
    let same_bytes = slice_eq-Decides Decides-eqb _ _ c.eq.result c.eq.ensures in (
      λ same. sym module_is ∙ same_loaded c.one_module.ensures _ _ c.contents.ensures.spelled c.contents-2.ensures.spelled (sym c.bytes.ensures ∙ same_bytes.0 same ∙ c.bytes-2.ensures) ∙ other_is,
      λ same. same_bytes.1 (c.bytes.ensures ∙ ap (λ l. l.bytes) (module_is ∙ same ∙ sym other_is) ∙ sym c.bytes-2.ensures),
    )
