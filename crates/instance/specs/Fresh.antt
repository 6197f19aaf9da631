-- The store of a new instance, before its start function (WebAssembly Core 1.0, 4.5.4).
use Rattle.std.specs.Prelude.{◌≡◌, ℕ, ◌+◌, ◌*◌, List, [], ◌∷◌, ◌++◌, length, map, take, drop, replicate, Option, Some, None}
use Rattle.limits.specs.declared.TheConstants.{PAGE_SIZE}
use Rattle.syntax.specs.declared.contents.Contents.{Contents}
use Rattle.syntax.specs.declared.types.Limits.{Limits}
use Rattle.syntax.specs.declared.types.Value.{Value}
use Rattle.syntax.specs.declared.contents.Element.{Element}
use Rattle.syntax.specs.declared.contents.Data.{Data}
use Rattle.valid.specs.Segments.{SegmentsFit, constant_in, offset_in, minimum}
use Rattle.instance.specs.Store.{Store, MemoryInstance, page_limit}

-- own: the list with these in place of what stood from a place on
abbrev pub overwritten : {X : Type 0} → ℕ → List X → List X → List X
overwritten at xs old = take at old ++ (xs ++ drop (at + length xs) old)

-- Core 1.0, 4.5.4: an element segment is written
abbrev pub with_element : List (Option ℕ) → Element → List (Option ℕ)
with_element table e = overwritten (offset_in e.offset) (map (λ f. Some f) e.functions) table

-- Core 1.0, 4.5.4: a data segment is written
abbrev pub with_data : List ℕ → Data → List ℕ
with_data memory d = overwritten (offset_in d.offset) d.bytes memory

-- own: the segments are written one after another
abbrev pub all_written : {S X : Type 0} → (S → X → S) → S → List X → S
all_written write s [] = s
all_written write s (x ∷ xs) = all_written write (write s x) xs

-- Core 1.0, 4.5.3: globals
abbrev pub fresh_globals : Contents → List Value
fresh_globals m = map (λ g. constant_in g.init) m.globals

-- Core 1.0, 4.5.3: tables
abbrev pub fresh_table : Contents → List (Option ℕ)
fresh_table m = all_written with_element (replicate (minimum m.table) None) m.elements

-- a memory of its least size, all zero
-- Core 1.0, 4.5.3: memories
abbrev pub fresh_memory : Option Limits → MemoryInstance
fresh_memory limits = record { bytes = replicate (minimum limits * PAGE_SIZE) 0; limit = page_limit limits }

-- own: the bytes of a new memory, with the data segments
abbrev pub fresh_bytes : Contents → List ℕ
fresh_bytes m = all_written with_data (replicate (minimum m.memory * PAGE_SIZE) 0) m.«data»

-- Core 1.0, 4.5.3: modules
abbrev pub fresh_store : Contents → Store
fresh_store m = record {
  globals = fresh_globals m;
  table = fresh_table m;
  memory = fresh_bytes m;
  limit = page_limit m.memory;
}

-- each segment fits, and the store is that of a new instance
-- Core 1.0, 4.5.4: instantiation
pub record IsFresh (m : Contents) (s : Store) : Type 0 where
  pub segments : SegmentsFit m
  pub store : s ≡ fresh_store m
