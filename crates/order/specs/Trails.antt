-- What a trail keeps of where a run stopped.
use Rattle.std.specs.Prelude.{ℕ, List, take, length, Option}
use Rattle.instance.specs.declared.stack.Site.{Site}
use Rattle.instance.specs.Stops.{Halt}
use Rattle.order.specs.declared.trail.TheConstants.{MAX_TRAIL}

-- the innermost sites, how many calls were open, and the address of an access outside the memory
pub record Innermost : Type 0 where
  pub sites : List Site
  pub calls : ℕ
  pub address : Option ℕ

abbrev pub innermost_sites : Halt → Innermost
innermost_sites stop = record { sites = take MAX_TRAIL stop.sites; calls = length stop.sites; address = stop.address }
