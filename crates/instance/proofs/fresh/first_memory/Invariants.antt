use Rattle.std.proofs.Common.{◌≡◌, ◌*◌, length, drop}
use Rattle.limits.specs.declared.TheConstants.{PAGE_SIZE}
use Rattle.valid.specs.Segments.{minimum}
use Rattle.instance.specs.Store.{page_limit}
use Rattle.instance.specs.Fresh.{all_written, with_data, fresh_bytes}
use Rattle.instance.proofs.fresh.first_memory.Given as goal

abbrev pub invariant-loop-segment : goal.invariant-loop-segment
invariant-loop-segment l =
    (length l.memory.bytes ≡ minimum l.contents.memory * PAGE_SIZE)
    × (l.memory.limit ≡ page_limit l.contents.memory)
    × (all_written with_data l.memory.bytes (drop l.segment-index l.contents.«data») ≡ fresh_bytes l.contents)
