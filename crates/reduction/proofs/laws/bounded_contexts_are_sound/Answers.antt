use Rattle.reduction.proofs.HeightsSound.{sound_within, starts_within, enters_within, answers_within}
use Rattle.reduction.proofs.laws.bounded_contexts_are_sound.Goals as goal

pub returns : goal.returns
returns c = record { steps = sound_within; begins = starts_within; enters = enters_within; answers = answers_within }
