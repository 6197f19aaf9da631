-- No step opens a call by itself.
use Rattle.reduction.proofs.Words.{arith, Arrives, as_operands, asks, Calls, calls, Code, Contents, Context, drop, frames, Goes, goes, here, IsReached, length}
use Rattle.reduction.proofs.Words.{List, Move, next, take, Value, with_locals, ℕ, ◌<◌, ◌∷◌, ◌≤◌}
use Rattle.reduction.proofs.Contexts.{frames-going, frames-locals, frames-receiving, frames-continuing, frames-reached, frames-in_call}
use Rattle.instance.specs.Store.{Store as Memory_and_globals}
use Rattle.reduction.proofs.Rules.{StepRule, next_rule}
use Rattle.reduction.proofs.Rules as rule

-- a step leads to so many calls at most
abbrev pub Opens : (most : ℕ) → Move → Type 0
Opens most (Goes charge s contexts) = frames contexts ≤ most
Opens most (Calls f args below) = frames below ≤ most
Opens most _ = Unit {0}

module _ (m : Contents) (s : Memory_and_globals) where
  opens_by : {contexts : List Context} {values : List Value} {code : Code} {move : Move} → StepRule m s contexts values code move → Opens (frames contexts) move
  opens_by (rule.leaves {ls} {vs} {rest} {contexts} still h) = omega (arith, frames-going vs rest (with_locals ls contexts), frames-locals ls contexts)
  opens_by (rule.passes {values} {rest} {contexts}) = omega (arith, frames-going values rest contexts)
  opens_by (rule.branches {left} {arity} {next} {below} j at few) = omega (arith, frames-reached at, frames-continuing (take arity left) next below)
  opens_by (rule.returns at few) = omega (arith, frames-in_call at)
  opens_by (rule.calls {left} {type} {rest} {contexts} c typed) = omega (arith, frames-going (drop (length type.params) left) rest contexts)
  opens_by (rule.enters {rest} {left} {type} {contexts} o few) = omega (arith, frames-going (drop (length type.params) left) rest contexts)
  opens_by (rule.closes {values} {below}) = omega (arith, frames-receiving values below)
  opens_by (rule.answers {values} {top} {below}) = omega (arith, frames-receiving values (top ∷ below))
  opens_by _ = tt

  pub opens : (contexts : List Context) → Opens (frames contexts) (next m s contexts)
  opens contexts = opens_by (next_rule m s contexts)

module _ (m : Contents) where
  arrives_open : {depth : ℕ} {s t : Memory_and_globals} {contexts there : List Context} → Arrives m depth s contexts t there → frames contexts ≤ depth → frames there ≤ depth
  arrives_open here h = h
  arrives_open {depth} {s} {t} {contexts} (goes charge e rest) h =
      let k = rw e at (opens m s contexts) in arrives_open rest (omega (arith, k, h))
  arrives_open (calls function args below type f e d few rest) h = arrives_open rest (omega (arith, few))
  arrives_open {depth} {s} {t} {contexts} (asks call below e imported memory answer rest) h =
      let k = rw e at (opens m s contexts) in
      arrives_open rest (omega (arith, k, h, frames-receiving (as_operands call.answer) below))

  pub reached_open : (depth : ℕ) (contexts : List Context) → 0 < depth → IsReached m depth contexts → frames contexts ≤ depth
  reached_open depth contexts h r = arrives_open r.arrives (omega (arith, h))
