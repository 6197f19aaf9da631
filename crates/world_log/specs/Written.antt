-- What is written in a log.
use Rattle.std.specs.Prelude.{ℕ, List}
use Rattle.world_log.specs.declared.entry.LogEntry.{LogEntry}

-- the entries, the oldest first, and for how many more there is room
pub record Written : Type 0 where
  pub entries : List LogEntry
  pub room : ℕ
