use Rattle.std.proofs.Common.{◌≡◌, take, length}
use Rattle.order.proofs.trail.copy_sites.Given as goal

abbrev pub invariant-loop-index : goal.invariant-loop-index
invariant-loop-index l = record { copied : take l.index l.sites ≡ take l.index l.stop.sites; same : length l.sites ≡ length l.fn.sites }
