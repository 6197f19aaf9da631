-- One sequence of instructions after another.
use Rattle.syntax.specs.Code.{Code, Done, Plain, Structured, If}

abbrev pub joined : (first last : Code) → Code
joined Done last = last
joined (Plain i rest) last = Plain i (joined rest last)
joined (Structured kind type body rest) last = Structured kind type body (joined rest last)
joined (If type first second rest) last = If type first second (joined rest last)
