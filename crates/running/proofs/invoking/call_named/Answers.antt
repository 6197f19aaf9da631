use Rattle.std.proofs.Common.{◌≡◌, Some, map, string_bytes, ◌∙◌, subst}
use Rattle.std.specs.Arc.{arc_value}
use Rattle.std.proofs.lemmas.Result.{IfOk-weaker}
use Rattle.syntax.specs.Loaded.{Loaded}
use Rattle.syntax.specs.declared.contents.ExternKind.TheVariants.{Func}
use Rattle.syntax.specs.Exporting.{IsFirst}
use Rattle.valid.specs.Typing.{HasFunctionType}
use Rattle.running.specs.Arguments.{AllSpell}
use Rattle.running.proofs.InvocationParts.{takes}
use Rattle.running.proofs.invoking.call_named.Goals as goal

pub call-requires-clause-takes : goal.call-requires-clause-takes
call-requires-clause-takes c =
    let same : c.valid-valid.result.now ≡ arc_value c.args.linked = c.valid-valid.ensures.same ∙ c.deref.ensures in
    let typed = subst (λ (l : Loaded). HasFunctionType l.contents c.in-Some.function c.in-Some.func_type.now) same c.in-Some.ensures.typed in
    takes (arc_value c.args.linked).contents c.in-Some.function c.as_slice-3.result.now c.in-Some.func_type.now typed
    (rw c.as_slice-3.ensures.value (c.in_ok-args.ensures.typed ∙ c.as_slice.ensures))

pub returns : goal.returns
returns c =
    let i = c.args.invocation.now in
    let same : c.valid-valid.result.now ≡ arc_value c.args.linked = c.valid-valid.ensures.same ∙ c.deref.ensures in
    let named : IsFirst (arc_value c.args.linked).contents.exports (string_bytes i.name) (Some (record { kind = Func; index = c.in-Some.function })) =
    subst (λ (l : Loaded). IsFirst l.contents.exports (string_bytes i.name) (Some (record { kind = Func; index = c.in-Some.function }))) same
    (rw (← c.as_str-name.ensures.value, ← c.as_bytes.ensures.value) c.in-Some.ensures.named) in
    let spelled : AllSpell (map string_bytes i.arguments.items) c.as_slice-3.result.now =
    rw (c.as_slice-3.ensures.value, ← c.as_slice-2.ensures.value) c.in_ok-args.ensures.spelled in
    IfOk-weaker c.call.result _ _
    (λ called is. record { function = c.in-Some.function; named = named; args = c.as_slice-3.result.now; spelled = spelled; gives = is })
    c.call.ensures
