use Rattle.phases.proofs.Words.{ap, callback_function, false, is_some, None, sym, true, ◌∙◌, ◌≡◌}
use Rattle.phases.proofs.roster.Roster.duty_function.Goals as goal

pub unreachable-requires : goal.unreachable-requires
unreachable-requires c =
    let r = c.args.record.now in
    let there = rw (sym c.self.view_is) at c.requires.there in
    let good : is_some (callback_function c.self.inside.callbacks.items r.callback) ≡ true = c.self.invariant.callbacks c.args.handle r there c.requires.duty in
    let none : callback_function c.self.inside.callbacks.items r.callback ≡ None =
    ap (λ cs. callback_function cs r.callback) (sym c.as_slice.ensures.value) ∙ sym c.function_at.ensures ∙ c.in_default.is in
    let bad : is_some (callback_function c.self.inside.callbacks.items r.callback) ≡ false = ap is_some none in
    cc

pub returns : goal.returns
returns c =
    rw c.requires.there
    (rw (sym c.self.view_is) (ap (λ cs. callback_function cs c.args.record.now.callback) (sym c.as_slice.ensures.value) ∙ sym c.function_at.ensures ∙ c.in-Some.is))
