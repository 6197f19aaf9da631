-- Soundness with the limits: a step of typed contexts within them leads to such contexts.
use Rattle.reduction.proofs.Words.{ap, arith, AwaitsWithin, Bounded, Calls, Contents, Context, Ends, entered, frames, Func, FuncType, Goes, HaveGlobalTypes}
use Rattle.reduction.proofs.Words.{IsDefined, IsWithin, length, length-map, List, Move, next, pushed, receiving, Some, SoundWithin, Store, Stuck, sym, Traps}
use Rattle.reduction.proofs.Words.{type_of, types_of, ValidModule, ValType, Value, ℕ, [], ◌<◌, ◌∙◌, ◌∷◌, ◌≡◌, ◌≤◌}
use Rattle.reduction.proofs.Contexts.{frames-receiving}
use Rattle.reduction.specs.Typed.{Sound}
use Rattle.reduction.proofs.Lists.{length-pushed}
use Rattle.reduction.proofs.Soundness.{sound, type_of_function-is}
use Rattle.reduction.proofs.CallsAreTyped.{enters_call, starts_call, answers_call}
use Rattle.reduction.proofs.HeightsKept.{Kept, kept, received}
use Rattle.reduction.proofs.HeightsFrames.{Opens, opens}
use Rattle.reduction.proofs.HeightsOfRuns.{Awaited, entered_within}

module _ (m : Contents) (depth : ℕ) (answers : List ValType) where
  together : (most : ℕ) (move : Move) → Sound m answers move → Kept m move → Opens most move → most ≤ depth → SoundWithin m depth answers move
  together most (Goes charge s contexts) a k o h = (a.0, record { typed = a.1; within = k; shallow = omega (arith, o, h) })
  together most (Traps trap) a k o h = tt
  together most (Calls f args below) (type, has, typed, awaits) (found, at, size, within) o h =
      let e : Some found ≡ Some type = sym at ∙ type_of_function-is m answers f type has in
      let same : found ≡ type = cc in
      (type, has, typed, record { awaits = awaits; within = rw same at within; shallow = omega (arith, o, h) })
  together most (Ends results) a k o h = a
  together most Stuck a k o h = a

  pub sound_within : (s : Store) (contexts : List Context) → HaveGlobalTypes m s.globals → Bounded m depth answers contexts → SoundWithin m depth answers (next m s contexts)
  sound_within s contexts fit b =
      together (frames contexts) (next m s contexts) (sound m answers s contexts fit b.typed) (kept m s contexts b.within) (opens m s contexts) b.shallow

  pub enters_within : (function : ℕ) (type : FuncType) (f : Func) (args : List Value) (below : List Context) → ValidModule m → IsDefined m function type f
      → types_of args ≡ type.params → AwaitsWithin m depth answers below type → frames below < depth → Bounded m depth answers (entered type f args below)
  enters_within function type f args below v d e w h =
      let size : length args ≡ length type.params = omega (arith, length-map args type_of, ap (λ (ts : List ValType). length ts) e) in
      record {
        typed = enters_call m answers function type f args below v d e w.awaits;
        within = entered_within m v function type f args below d size (awaited below w.within);
        shallow = omega (arith, h);
      } where
        awaited : (below : List Context) → IsWithin m below (length type.results) → Awaited m below (length type.results)
        awaited [] w = tt
        awaited (top ∷ below) w = w

  pub answers_within : (below : List Context) (type : FuncType) (values : List Value) → types_of values ≡ pushed type.results []
      → AwaitsWithin m depth answers below type → Bounded m depth answers (receiving values below)
  answers_within below type values e w =
      let size : length values ≡ length type.results =
      omega (arith, length-map values type_of, ap (λ (ts : List ValType). length ts) e, length-pushed type.results []) in
      record {
        typed = answers_call m answers below type.results values e w.awaits;
        within = received m (length type.results) below values w.within size;
        shallow = omega (arith, frames-receiving values below, w.shallow);
      }

-- the outermost call
pub starts_within : (m : Contents) (depth function : ℕ) (type : FuncType) (f : Func) (args : List Value) → ValidModule m → IsDefined m function type f
    → types_of args ≡ type.params → 0 < depth → Bounded m depth type.results (entered type f args [])
starts_within m depth function type f args v d e h =
    let size : length args ≡ length type.params = omega (arith, length-map args type_of, ap (λ (ts : List ValType). length ts) e) in
    record { typed = starts_call m function type f args v d e; within = entered_within m v function type f args [] d size tt; shallow = omega (arith, h) }
