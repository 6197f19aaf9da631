-- The room of a memory, and what of it is kept.
use Rattle.std.specs.Prelude.{ℕ, ◌≡◌, ◌-◌, ◌*◌, ◌≤◌, List, ◌++◌, length, replicate, if◌then◌else◌, nat_le}
use Rattle.std.specs.Int.{next_multiple_of}
use Rattle.limits.specs.declared.TheConstants.{PAGE_SIZE}
use Rattle.instance.specs.declared.front.TheConstants.{STEP, FINE_STEP, NEAR}

-- so many bytes, of which a front is kept: after it all are zero
abbrev pub all_bytes : (total : ℕ) → (front : List ℕ) → List ℕ
all_bytes total front = front ++ replicate (total - length front) 0

-- so many bytes end within a front where they begin below its edge
abbrev pub edge_of : (front count : ℕ) → ℕ
edge_of front count = front - (count - 1)

-- the edges for accesses of 1, 2, 4 and 8 bytes: the first is the length of the front
pub record AreEdges (one two four eight : ℕ) : Type 0 where
  pub for_two : two ≡ edge_of one 2
  pub for_four : four ≡ edge_of one 4
  pub for_eight : eight ≡ edge_of one 8

-- a front ends within the pages, and there is room for all of them, and for as many as the memory may grow to; the edges are its
pub record HasRoomForPages (front edges capacity count limit : ℕ) : Type 0 where
  pub within : front ≤ count * PAGE_SIZE
  pub beside : edges ≡ front
  pub here : count * PAGE_SIZE ≤ capacity
  pub room : limit * PAGE_SIZE ≤ capacity

-- how long a front is made that is to reach over an end
abbrev pub rounded : (end : ℕ) → ℕ
rounded end = next_multiple_of end (if nat_le end NEAR then FINE_STEP else STEP)

-- the front then: what is new is zero
abbrev pub lengthened_front : (end : ℕ) → (front : List ℕ) → List ℕ
lengthened_front end front = front ++ replicate (rounded end - length front) 0
