-- A memory that is lent to be read.
use Rattle.std.specs.Prelude.{◌≡◌, ⊤}
use Rattle.std.specs.Borrow.{follows_so, MutBor, Fml}
use mathlib.Core.Option.{none}
use Rattle.instance.specs.contracts.memory.Memory.{the_row}
use Rattle.instance.specs.Store.{MemoryInstance}

-- the memory is as it was, once what is read of it is given back
abbrev pub KeepsMemory : MutBor MemoryInstance → Fml
KeepsMemory m = follows_so the_row the_row m.ghost_name none (λ _ _. ⊤) (λ last. last ≡ m.now)
