use Rattle.std.proofs.Common.{◌≡◌, List, [], sym, ap, ◌∙◌, subst}
use Rattle.syntax.specs.declared.types.Value.{Value}
use Rattle.events.specs.Bare.{IsBare}
use Rattle.events.specs.declared.ended.Ending.{Ending}
use Rattle.events.specs.declared.ended.Ending.TheVariants.{Return}
use Rattle.events.proofs.ended.BareEnding.of.Goals as goal

returned : (end : Ending) (values : List Value) → end ≡ Return values → IsBare end → Return [] ≡ end
returned end values is bare =
    let none : values ≡ [] = subst (λ (e : Ending). IsBare e) is bare in
    ap (λ (vs : List Value). Return vs) (sym none) ∙ sym is

pub returns-in-Return : goal.returns-in-Return
returns-in-Return c = returned c.args.ending.now _ c.in-Return.is c.requires
