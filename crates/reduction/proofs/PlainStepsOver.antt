-- A step of an instruction that neither branches nor calls.
use Rattle.reduction.proofs.Words.{Br, Code, Contents, Context, Instr, List, locals_of, plain, plain_step, StaysInBlock, turned, Value, ◌≡◌}
use Rattle.instance.specs.Store.{Store as Memory_and_globals}

pub plain-turned : (m : Contents) (s : Memory_and_globals) (i : Instr) (vs : List Value) (rest : Code) (contexts : List Context) → StaysInBlock i
    → plain m s i vs rest contexts ≡ turned (plain_step m s (locals_of contexts) i vs) rest contexts
plain-turned m s (Br label) vs rest contexts k = search
plain-turned m s _ vs rest contexts k = search
