-- Where a loop stopped is where the loop of that number in the world did.
use Rattle.world.proofs.Words.{Core, Desk, desk_calls, None, Option, slice_get, Some, World, ℕ, ◌≡◌}
use Rattle.std.proofs.Common.{IfNone, IfSome, false, subst, sym, ◌∙◌}
use Rattle.instance.specs.Stops.{Halt}
use Rattle.phases.specs.Stopping.{LoopStopsAt}
use Rattle.phases.specs.Outside.{is_failed}
use Rattle.world.specs.World.{core}
use Rattle.world.specs.Stopping.{HasUnfailed, StopsIn}

pub stops_in : (w : World) (n : ℕ) (c : Core Desk) (stop : Option Halt) → slice_get w.loops n ≡ Some c
    → IfSome stop (λ sites. ∥ LoopStopsAt desk_calls c.setting c.loop.store sites ∥₁) → IfSome stop (StopsIn w n)
stops_in w n c None at stops = tt
stops_in w n c (Some sites) at stops = (c.setting, c.loop, at, stops)

pub unfailed_in : (w : World) (n : ℕ) (c : Core Desk) (stop : Option Halt) → slice_get w.loops n ≡ Some c
    → IfNone stop (is_failed c.loop.state.status ≡ false) → IfNone stop (HasUnfailed w n)
unfailed_in w n c None at h =
    λ g now has.
    let both : Some c ≡ Some (core g now) = sym at ∙ has in
    let same : c ≡ core g now = cc in
    subst (λ (x : Core Desk). is_failed x.loop.state.status ≡ false) same h
unfailed_in w n c (Some halt) at h = tt
