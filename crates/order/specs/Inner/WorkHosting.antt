-- How the host of a work function moves.
use Rattle.std.specs.Prelude.{◌≡◌, ◌+◌, ◌≤◌, List}
use Rattle.std.specs.Arc.{arc_value}
use Rattle.syntax.specs.declared.contents.FuncType.{FuncType}
use Rattle.reduction.specs.Run.{HostCall}
use Rattle.imports.specs.declared.call.Call.{Call}
use Rattle.imports.specs.Linking.{Imports}
use Rattle.order.specs.declared.host.WorkHost.{WorkHost}
use Rattle.order.specs.ImportTypes.{import_types}
use Rattle.order.specs.Uv.Bytes.{bytes_named}
use Rattle.order.specs.Work.{WorkAnswers}

abbrev pub types_of_host : WorkHost → List FuncType
types_of_host h = import_types (arc_value h.linked).contents

-- it copies no more bytes than the call names, and answers as a work function's host does, and keeps its module and the bytes that there are to read
pub record WorkAnswered (old : WorkHost) (call : HostCall) (new : WorkHost) : Type 0 where
  pub asked : Call
  pub imported : Imports (arc_value old.linked).contents call.function asked
  pub answers : WorkAnswers (arc_value old.bytes).items old.reply.items call new.reply.items asked call.args
  pub same_module : arc_value new.linked ≡ arc_value old.linked
  pub same_bytes : arc_value new.bytes ≡ arc_value old.bytes
  pub copies : new.copied ≤ old.copied + bytes_named asked call.args
