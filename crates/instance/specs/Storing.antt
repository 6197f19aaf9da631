-- Which stores belong to a module (WebAssembly Core 1.0, appendix, store validity).
use Rattle.std.specs.Prelude.{◌≡◌, ℕ, ◌*◌, ◌<◌, ◌≤◌, max, List, length, map, Option, Some, None, All}
use Rattle.limits.specs.declared.TheConstants.{PAGE_SIZE}
use Rattle.syntax.specs.declared.types.Value.{Value}
use Rattle.syntax.specs.declared.contents.Contents.{Contents}
use Rattle.valid.specs.Typing.{type_of, function_types}
use Rattle.valid.specs.Segments.{minimum}
use Rattle.instance.specs.Store.{Store, page_limit}

-- the values are of the types of the module's globals, in their order
abbrev pub HaveGlobalTypes : Contents → List Value → Type 0
HaveGlobalTypes m values = map type_of values ≡ map (λ g. g.value_type) m.globals

-- an element of a table is empty, or names a function of the module
abbrev pub NamesFunction : Contents → Option ℕ → Type 0
NamesFunction m None = Unit {0}
NamesFunction m (Some f) = f < length (function_types m)

-- So many whole pages: no fewer than the least number, and no more than the limit, or than the least number where
-- that is more.
pub record HasPages (limit least : ℕ) (bytes : List ℕ) : Type 0 where
  pub count : ℕ
  pub whole : length bytes ≡ count * PAGE_SIZE
  pub enough : least ≤ count
  pub within : count ≤ max limit least

-- The globals are of their types, the table is as long as declared and names functions of the module, and the memory
-- lies within what is declared.
pub record IsStoreOf (m : Contents) (s : Store) : Type 0 where
  pub globals : HaveGlobalTypes m s.globals
  pub table : length s.table ≡ minimum m.table
  pub elements : All (NamesFunction m) s.table
  pub limit : s.limit ≡ page_limit m.memory
  pub memory : HasPages s.limit (minimum m.memory) s.memory
