use Rattle.wasmloop_c.proofs.Names.{List, refl, Value, ◌≡◌}
use Rattle.events.specs.Bare.{IsBare}
use Rattle.events.specs.declared.ended.Ending.{Ending}
use Rattle.events.specs.declared.ended.Ending.TheVariants.{Return}
use Rattle.wasmloop_c.proofs.did.numbers_of_ending.Goals as goal

-- what has not returned has no results
stopped : (e : Ending) → ((values : List Value) → e ≡ Return values → ⊥) → IsBare e
stopped (Return values) not = absurd (not values refl)
stopped _ not = tt

pub of-requires : goal.of-requires
of-requires c = stopped c.args.ending.now c.in_default.not-Return
