-- What a step did, without the results.
use Rattle.events.specs.Bare.{whole as whole_ended}
use Rattle.events.specs.declared.did.StepDid.{StepDid}
use Rattle.events.specs.declared.did.StepDid.TheVariants.{Entered, Ran, Skipped, Over, Failed}
use Rattle.phases.specs.declared.did.BareDid.{BareDid}
use Rattle.phases.specs.declared.did.BareDid.TheVariants as bare

-- as the owner gets it
abbrev pub whole_did : BareDid → StepDid
whole_did (bare.Entered phase now) = Entered phase now
whole_did (bare.Ran kind number ended) = Ran kind number (whole_ended ended)
whole_did (bare.Skipped kind number) = Skipped kind number
whole_did bare.Over = Over
whole_did bare.Failed = Failed
