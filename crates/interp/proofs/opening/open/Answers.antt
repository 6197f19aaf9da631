use Rattle.interp.proofs.Words.{ap, arith, drop, erased, Func, FuncType, length, length-append, length-replicate, List, MAX_HEIGHT, replicate, slice_get, Some}
use Rattle.interp.proofs.Words.{ℕ, ◌++◌, ◌+◌, ◌-◌, ◌∙◌, ◌≡◌, ◌≤◌}
use Rattle.reduction.proofs.OneRun.{one_function}
use Rattle.interp.proofs.opening.open.Goals as goal
use Rattle.interp.proofs.opening.open.Goals.{then-len-room, else-len-room}

pub returns-clause-opened : goal.returns-clause-opened
returns-clause-opened c = λ type f defined.
    let r = c.requires in
    let one = one_function c.args.contents.now c.args.function r.type type r.f f r.defined defined in
    let imports = c.len.ensures in
    let there = defined.1 in
    let index : c.args.function - c.len.result ≡ defined.0 = omega (arith, imports, there) in
    let found : Some c.in-Some.func.now ≡ Some f = c.in-Some.ensures ∙ ap (λ (k : ℕ). slice_get c.args.contents.now.functions k) index ∙ defined.2 in
    let func : c.in-Some.func.now ≡ f = cc in
    let zeros : c.len-zeros.result ≡ length f.locals = c.len-zeros.ensures ∙ ap (λ (g : Func). length g.locals) func in
    let count : length c.args.args.now ≡ length type.params = r.count ∙ ap (λ (t : FuncType). length t.params) one.0 in
    let height : length c.args.args.now + c.len-zeros.result ≡ length type.params + length f.locals = omega (arith, zeros, count) in
    let before = c.if-len-room.slots in
    let rest = drop (length c.args.args.now + c.len-zeros.result) before in
    let needs : length c.args.args.now + c.len-zeros.result + MAX_HEIGHT ≤ c.max-room.result = let is = c.max-room.ensures in omega (arith, is) in
    let wide : length c.args.args.now + c.len-zeros.result + MAX_HEIGHT ≤ length before =
    elim c.if-len-room.branch [
      | then-len-room w ↦
          let added = c.max-room.result - length c.args.slots.now in
          let long : length before ≡ length (c.args.slots.now ++ replicate added 0) = ap (λ (xs : List ℕ). length xs) (w.slots-is ∙ w.lengthen.ensures) in
          omega (arith, needs, long, length-append c.args.slots.now (replicate added 0), length-replicate {A = ℕ} added 0)
      | else-len-room w ↦
          let long : length before ≡ length c.args.slots.now = ap (λ (xs : List ℕ). length xs) w.slots-is in
          let test = w.if-len-room.false in
          let is = c.len-2.ensures in
          omega (arith, needs, long, test, is)
    ] in
    let same : length c.lay_on.new.slots ≡ length before = c.lay_on.ensures.room in
    record {
      free = rest;
      at_is = λ i. record { function = index i; pc = 0; sp = height i; base = 0; depth = 0 };
      slots_are = c.lay_on.ensures.laid ∙ ap (λ (n : ℕ). (erased c.args.args.now ++ replicate n 0) ++ rest) zeros;
      room = omega (arith, wide, same, height);
    }
