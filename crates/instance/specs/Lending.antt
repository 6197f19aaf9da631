-- An instance whose state is lent, and a state whose memory is.
use Rattle.std.specs.Borrow.{Lends, MutBor, Fml}
use Rattle.instance.specs.declared.state.Instance.{Instance}
use Rattle.instance.specs.contracts.memory.Memory.{the_row as memory_row}
use Rattle.instance.specs.contracts.state.Instance.{the_row as instance_row}
use Rattle.instance.specs.contracts.state.State.{the_row as state_row}
use Rattle.instance.specs.Store.{Store, MemoryInstance, with_memory_instance}

-- the instance ends with the state that is left behind r, and with its stack as it is
abbrev pub LendsState : MutBor Instance → MutBor Store → Fml
LendsState i r = Lends instance_row state_row i r (λ s. record { state = s; stack = i.now.stack })

-- the state ends with the memory that is left behind r
abbrev pub LendsMemory : MutBor Store → MutBor MemoryInstance → Fml
LendsMemory s r = Lends state_row memory_row s r (λ m. with_memory_instance m s.now)
