-- How the host of a call with bytes moves.
use Rattle.std.specs.Prelude.{◌≡◌, List}
use Rattle.std.specs.Arc.{arc_value}
use Rattle.syntax.specs.declared.contents.FuncType.{FuncType}
use Rattle.reduction.specs.Run.{HostCall}
use Rattle.imports.specs.declared.call.Call.{Call}
use Rattle.imports.specs.Linking.{Imports}
use Rattle.order.specs.ImportTypes.{import_types}
use Rattle.order.specs.Work.{WorkAnswers}
use Rattle.wasmloop_c.specs.declared.bytes_host.BytesHost.{BytesHost}

abbrev pub types_answered : BytesHost → List FuncType
types_answered h = import_types (arc_value h.linked).contents

-- it answers as a work function's host does, and keeps its module and the bytes that there are to read
pub record BytesAnswered (old : BytesHost) (call : HostCall) (new : BytesHost) : Type 0 where
  pub asked : Call
  pub imported : Imports (arc_value old.linked).contents call.function asked
  pub answers : WorkAnswers old.bytes.now old.reply.items call new.reply.items asked call.args
  pub same_module : arc_value new.linked ≡ arc_value old.linked
  pub same_bytes : new.bytes.now ≡ old.bytes.now
