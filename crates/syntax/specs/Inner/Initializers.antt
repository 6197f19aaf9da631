-- An initializer, from how it is kept.
use Rattle.syntax.specs.declared.initializer.KeptInitializer.{KeptInitializer}
use Rattle.syntax.specs.declared.initializer.KeptInitializer.TheVariants as kept
use Rattle.syntax.specs.declared.types.Value.TheVariants as value
use Rattle.syntax.specs.declared.instruction.Instr.TheVariants.{Const}
use Rattle.syntax.specs.Code.{Code, Plain, Done}

abbrev pub kept_initializer : KeptInitializer → Code
kept_initializer (kept.I32 number) = Plain (Const (value.I32 number)) Done
kept_initializer (kept.I64 number) = Plain (Const (value.I64 number)) Done
kept_initializer (kept.Other body) = body.value
