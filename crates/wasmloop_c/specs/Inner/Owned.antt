-- What a handle's pointer owns.
use Rattle.std.specs.Prelude.{Option}
use base.Fml.{Fml}
use denote.RawPtr.{Ptr}
use Rattle.std.specs.contracts.impls.GlobalAllocator.TheImpl.{ghosts}
use Rattle.wasmloop_c.specs.declared.thing.Thing.{Thing}
use Rattle.wasmloop_c.specs.contracts.thing.Thing.{the_row}
use Rattle.slot.specs.Inner.Slots.{loose_owns}

abbrev pub raw_owns : Ptr → Option Thing → Fml
raw_owns p x = loose_owns (ghosts.dealloc_token (record { memory = record { seal = tt } })) the_row p x
