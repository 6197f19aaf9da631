-- The world that a script asks for.
use Rattle.std.specs.Prelude.{◌≡◌, ℕ, ◌+◌, List, [], ◌∷◌, All, Some, map, slice_get}
use Rattle.syntax.specs.Loaded.{Loaded}
use Rattle.loader.specs.Loading.{IsAccepted}
use Rattle.phases.specs.State.{Setting}
use Rattle.script.specs.declared.plan.LoopPlan.{LoopPlan}
use Rattle.script.specs.declared.plan.Plan.{Plan}
use Rattle.world.specs.World.{World, opening_world}

abbrev pub bytes_loaded : Loaded → List ℕ
bytes_loaded loaded = loaded.bytes

abbrev pub IsAcceptedModule : Loaded → Type 0
IsAcceptedModule loaded = IsAccepted loaded.bytes loaded.contents

-- the loop of a number that is planned so, of these modules
pub record IsPlanned (modules : List Loaded) (loop_no : ℕ) (planned : LoopPlan) (g : Setting) : Type 0 where
  pub loaded : slice_get modules planned.module ≡ Some g.loaded
  pub numbered : g.loop_no ≡ loop_no
  pub fuel : g.fuel ≡ planned.settings.fuel
  pub work_fuel : g.work_fuel ≡ planned.settings.work_fuel
  pub depth : g.depth ≡ planned.settings.depth

-- each is planned so, in order, with numbers from here on
abbrev pub ArePlanned : List Loaded → (from : ℕ) → List LoopPlan → List Setting → Type 0
ArePlanned modules from [] [] = Unit {0}
ArePlanned modules from (p ∷ ps) (g ∷ gs) = IsPlanned modules from p g × ArePlanned modules (from + 1) ps gs
ArePlanned modules from _ _ = ⊥

-- The world that the plan asks for: its modules are each accepted, and its loops and workers have done nothing.
pub record IsWorldOf (plan : Plan) (world : World) : Type 0 where
  pub modules : List Loaded
  pub spelled : map bytes_loaded modules ≡ map (λ t. t.items) plan.modules.items
  pub accepted : All IsAcceptedModule modules
  pub settings : List Setting
  pub loops : ArePlanned modules 0 plan.loops.items settings
  pub opens : world ≡ opening_world settings plan.workers
