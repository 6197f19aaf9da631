-- The part of a module that a function's refusal names.
use Rattle.std.specs.Prelude.{ℕ, Option, Some, None}
use Rattle.validate.specs.declared.site.Unfit.{Unfit}
use Rattle.validate.specs.declared.site.InvalidPart.{InvalidPart}
use Rattle.validate.specs.declared.site.InvalidPart.TheVariants as site
use Rattle.validate.specs.declared.site.BodyRefused.{BodyRefused}

abbrev pub invalid_part : ℕ → Option Unfit → Option ℕ → InvalidPart
invalid_part function unfit None = site.Function function
invalid_part function unfit (Some number) = site.Operation function number unfit

abbrev pub site_in : ℕ → BodyRefused → InvalidPart
site_in function r = invalid_part function r.unfit r.operation
