-- Operands of a call and beneath it: a step of a block leaves the calls beneath, and what begins or ends a block moves no operand.
use Rattle.reduction.proofs.Words.{append_assoc, beneath_call, call_of, Contents, Context, height_of, length, length-append, operands_of, Target, with_locals}
use Rattle.reduction.proofs.Words.{ap, arith, Code, drop, Frame, Label, List, Move, next, refl, sym, take, Value, ℕ, [], ◌++◌, ◌+◌, ◌-◌, ◌∙◌, ◌∷◌, ◌≡◌, ◌≤◌}
use Rattle.reduction.proofs.Contexts.{height-parts, call-going, call-locals, call-receiving, call-continuing, call-reached, call-in}
use Rattle.std.proofs.lemmas.List.{take-append-le}
use Rattle.std.proofs.Math.Seq.{drop-append_seam, drop-append-add}
use Rattle.instance.specs.Store.{Store as Memory_and_globals}
use Rattle.reduction.specs.HeightsOfRuns.{all_operands}
use Rattle.reduction.specs.Places.{Cuts, StaysIn, cut}
use Rattle.reduction.proofs.Rules.{StepRule, next_rule}
use Rattle.reduction.proofs.Rules as rule

-- the operands are those of the innermost call and those beneath it
pub operands-parts : (contexts : List Context) → length (all_operands contexts) ≡ height_of contexts + length (all_operands (call_of contexts))
operands-parts [] = refl
operands-parts (Label arity next values code ∷ below) = omega (arith, length-append values (all_operands below), operands-parts below)
operands-parts (Frame locals arity values code ∷ below) = omega (arith, length-append values (all_operands below))

-- whether the innermost context is a block's
abbrev InBlock : List Context → Type 0
InBlock (Label arity next values code ∷ below) = Unit {0}
InBlock _ = ⊥

stays_by : {m : Contents} {s : Memory_and_globals} {contexts : List Context} {values : List Value} {code : Code} {move : Move} → StepRule m s contexts values code move
    → InBlock contexts → StaysIn (call_of contexts) move
stays_by (rule.leaves {ls} {vs} {rest} {contexts} still h) k = call-going vs rest (with_locals ls contexts) ∙ call-locals ls contexts
stays_by (rule.passes {values} {rest} {contexts}) k = call-going values rest contexts
stays_by (rule.branches {left} {arity} {next} {below} j at few) k = call-continuing (take arity left) next below ∙ sym (call-reached at)
stays_by (rule.returns at few) k = sym (call-in at)
stays_by (rule.calls {left} {type} {rest} {contexts} c typed) k = call-going (drop (length type.params) left) rest contexts
stays_by (rule.enters {rest} {left} {type} {contexts} o few) k = call-going (drop (length type.params) left) rest contexts
stays_by (rule.closes {values} {below}) k = call-receiving values below
stays_by rule.answers k = absurd k
stays_by _ k = tt

-- a step within a block stays in its call
pub stays : (m : Contents) (s : Memory_and_globals) (arity : ℕ) (back : Code) (values : List Value) (code : Code) (below : List Context)
    → StaysIn (call_of below) (next m s (Label arity back values code ∷ below))
stays m s arity back values code below = stays_by (next_rule m s (Label arity back values code ∷ below)) tt

-- what lies beneath the operands of the innermost context
abbrev pub lower : List Context → List Value
lower [] = []
lower (Label arity next values code ∷ below) = all_operands below
lower (Frame locals arity values code ∷ below) = all_operands below

pub operands-over : (contexts : List Context) → all_operands contexts ≡ operands_of contexts ++ lower contexts
operands-over (Label arity next values code ∷ below) = refl
operands-over _ = refl

-- the lowest of some operands, from a height within those beneath
lowest : (upper under : List Value) (n : ℕ) → n ≤ length under → drop (length (upper ++ under) - n) (upper ++ under) ≡ drop (length under - n) under
lowest upper under n h =
    let e : length (upper ++ under) - n ≡ length upper + (length under - n) = omega (arith, length-append upper under, h) in
    rw e (drop-append-add upper under (length under - n))

-- What a branch leaves is the cut of all operands, once those that it tests are taken.
pub cut_down : (t : Target) (tested values : List Value) (contexts there : List Context) → operands_of contexts ≡ tested ++ values → Cuts t values contexts there
    → all_operands there ≡ cut t (length (all_operands (call_of contexts))) (values ++ lower contexts)
cut_down t tested values contexts there top c =
    let under = lower contexts in
    let beneath = length (all_operands (call_of contexts)) in
    let whole : all_operands contexts ≡ (tested ++ values) ++ under = operands-over contexts ∙ ap (λ (vs : List Value). vs ++ under) top in
    let all : length (all_operands contexts) ≡ length (tested ++ values) + length under = ap (λ (vs : List Value). length vs) whole ∙ length-append (tested ++ values) under in
    let own : length (operands_of contexts) ≡ length (tested ++ values) = ap (λ (vs : List Value). length vs) top in
    let size : length under ≡ beneath_call contexts + beneath = omega (arith, all, own, operands-parts contexts, height-parts contexts) in
    let low : beneath + t.height ≤ length under = omega (arith, size, c.above) in
    let from : height_of contexts - t.height ≡ length ((tested ++ values) ++ under) - (beneath + t.height) =
    omega (arith, length-append (tested ++ values) under, size, own, height-parts contexts, c.above) in
    let rest : drop (height_of contexts - t.height) (all_operands contexts) ≡ drop (length under - (beneath + t.height)) under =
    ap (λ (vs : List Value). drop (height_of contexts - t.height) vs) whole ∙ ap (λ (n : ℕ). drop n ((tested ++ values) ++ under)) from
    ∙ lowest (tested ++ values) under (beneath + t.height) low in
    c.operands ∙ ap (λ (vs : List Value). take t.keep values ++ vs) (rest ∙ sym (lowest values under (beneath + t.height) low))
    ∙ ap (λ (vs : List Value). vs ++ drop (length (values ++ under) - (beneath + t.height)) (values ++ under)) (sym (take-append-le t.keep values under c.enough))

-- and those are all operands but the tested ones
pub taken : (tested values : List Value) (contexts : List Context) → operands_of contexts ≡ tested ++ values → drop (length tested) (all_operands contexts) ≡ values ++ lower contexts
taken tested values contexts top =
    ap (λ (vs : List Value). drop (length tested) vs) (operands-over contexts ∙ ap (λ (vs : List Value). vs ++ lower contexts) top ∙ append_assoc tested values (lower contexts))
    ∙ drop-append_seam tested (values ++ lower contexts)

pub left_by : (t : Target) (tested values : List Value) (contexts there : List Context) → operands_of contexts ≡ tested ++ values → Cuts t values contexts there
    → all_operands there ≡ cut t (length (all_operands (call_of contexts))) (drop (length tested) (all_operands contexts))
left_by t tested values contexts there top c = rw (taken tested values contexts top) (cut_down t tested values contexts there top c)
