use Rattle.std.proofs.Common.{◌≡◌, sym, ap, ◌∙◌}
use Rattle.syntax.specs.declared.initializer.KeptInitializer.{KeptInitializer}
use Rattle.syntax.specs.Inner.Initializers.{kept_initializer}
use Rattle.syntax.proofs.initializer.Initializer.constant.Goals as goal

pub returns-in-Other : goal.returns-in-Other
returns-in-Other c =
    let same : c.in-Other.body.value ≡ c.args.self.now = sym (ap (λ (kept : KeptInitializer). kept_initializer kept) c.in-Other.is) ∙ c.self.view_is in
    rw (c.deref.ensures ∙ same) at c.constant_of.ensures
