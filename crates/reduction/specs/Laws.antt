-- Laws of runs.
use Rattle.std.specs.Prelude.{◌≡◌, ℕ, suc, ◌+◌, ◌*◌, ◌<◌, ◌≤◌, List, [], ◌∷◌, ◌++◌, length, drop, min, Option, Some, slice_get}
use Rattle.limits.specs.declared.TheConstants.{MAX_HEIGHT, MAX_LOCALS, MAX_NESTING}
use Rattle.syntax.specs.declared.types.Value.{Value}
use Rattle.syntax.specs.declared.types.Value.TheVariants.{I32}
use Rattle.syntax.specs.declared.types.ValType.{ValType}
use Rattle.syntax.specs.declared.contents.Contents.{Contents}
use Rattle.syntax.specs.declared.contents.FuncType.{FuncType}
use Rattle.syntax.specs.declared.contents.Func.{Func}
use Rattle.syntax.specs.declared.instruction.Token.{Token}
use Rattle.syntax.specs.declared.instruction.Token.TheVariants as op
use Rattle.syntax.specs.declared.instruction.Instr.TheVariants as instr
use Rattle.syntax.specs.Code.{Code, operations}
use Rattle.valid.specs.declared.side_table.Target.{Target}
use Rattle.valid.specs.Stack.{pushed}
use Rattle.valid.specs.Typing.{type_of_function}
use Rattle.valid.specs.Valid.{ValidModule}
use Rattle.instance.specs.Store.{Store}
use Rattle.instance.specs.Storing.{HaveGlobalTypes}
use Rattle.instance.specs.declared.stack.Site.{Site}
use Rattle.instance.specs.Stops.{Halt}
use Rattle.reduction.specs.Configuration.{Context, Label, entered, frames, receiving, types_of}
use Rattle.reduction.specs.Step.{Goes, next}
use Rattle.reduction.specs.Run.{HostCall, RunEnd, IsDefined, Run, RunsWithin}
use Rattle.reduction.specs.Stopping.{Mark, Moment, RunsTo, Stopped}
use Rattle.reduction.specs.Hosting.{Lawful, IsDetermined}
use Rattle.reduction.specs.Invoking.{Invokes}
use Rattle.reduction.specs.Leading.{Call, Leads, scene}
use Rattle.events.specs.declared.ended.Ended.{Ended}
use Rattle.reduction.specs.Typed.{operands_of}
use Rattle.reduction.specs.HeightsTyped.{Bounded, AwaitsWithin, SoundWithin}
use Rattle.reduction.specs.HeightsOfRuns.{IsReached, all_operands, all_locals}
use Rattle.reduction.specs.Places.{Body, Place, AreBodies, IsPlaced, stepped, ArePlaced, LeadsOn, Cuts, BranchesTo, call_of}
use Rattle.reduction.specs.Places.{StaysIn, cut}

-- ---- how much stands open at once

-- at most `depth` calls
abbrev pub CallsAreBounded : Type 0
CallsAreBounded = (m : Contents) (depth : ℕ) (contexts : List Context) → 0 < depth → IsReached m depth contexts → frames contexts ≤ depth

-- at most so many operands for each open call
abbrev pub OperandsAreBounded : Type 0
OperandsAreBounded =
    (m : Contents) (depth : ℕ) (contexts : List Context) → ValidModule m → IsReached m depth contexts
    → length (all_operands contexts) ≤ MAX_HEIGHT * frames contexts

-- at most so many contexts for each: its frame, the label of its body and those of its blocks in one another
abbrev pub ContextsAreBounded : Type 0
ContextsAreBounded =
    (m : Contents) (depth : ℕ) (contexts : List Context) → ValidModule m → IsReached m depth contexts
    → length contexts ≤ (MAX_NESTING + 2) * frames contexts

-- at most so many locals for each, its parameters among them
abbrev pub LocalsAreBounded : Type 0
LocalsAreBounded =
    (m : Contents) (depth : ℕ) (contexts : List Context) → ValidModule m → IsReached m depth contexts
    → length (all_locals contexts) ≤ MAX_LOCALS * frames contexts

-- ---- type soundness, with the limits of bodies

-- from typed contexts within the limits a rule applies, and what it leads to is typed and within the limits
abbrev pub StepsAreSound : Type 0
StepsAreSound =
    (m : Contents) (depth : ℕ) (answers : List ValType) (s : Store) (contexts : List Context)
    → HaveGlobalTypes m s.globals → Bounded m depth answers contexts → SoundWithin m depth answers (next m s contexts)

-- a call from outside begins so
abbrev pub BeginningsAreSound : Type 0
BeginningsAreSound =
    (m : Contents) (depth function : ℕ) (type : FuncType) (f : Func) (args : List Value)
    → ValidModule m → IsDefined m function type f → types_of args ≡ type.params → 0 < depth
    → Bounded m depth type.results (entered type f args [])

-- a call over contexts that await its results begins so
abbrev pub CallsAreSound : Type 0
CallsAreSound =
    (m : Contents) (depth : ℕ) (answers : List ValType) (function : ℕ) (type : FuncType) (f : Func) (args : List Value) (below : List Context)
    → ValidModule m → IsDefined m function type f → types_of args ≡ type.params
    → AwaitsWithin m depth answers below type → frames below < depth
    → Bounded m depth answers (entered type f args below)

-- once the host has answered, the contexts that awaited its results are so
abbrev pub AnswersAreSound : Type 0
AnswersAreSound =
    (m : Contents) (depth : ℕ) (answers : List ValType) (below : List Context) (type : FuncType) (values : List Value)
    → types_of values ≡ pushed type.results [] → AwaitsWithin m depth answers below type
    → Bounded m depth answers (receiving values below)

-- ---- one ending

-- two runs from one start in which the host answered the same calls end alike
abbrev pub RunsEndOnce : Type 0
RunsEndOnce =
    (m : Contents) (depth fuel : ℕ) (s : Store) (contexts : List Context) (trace : List HostCall)
    (outcome outcome' : RunEnd) (used used' : ℕ) (t t' : Store)
    → RunsWithin m depth fuel s contexts trace outcome used t
    → RunsWithin m depth fuel s contexts trace outcome' used' t'
    → (outcome ≡ outcome') × (used ≡ used') × (t ≡ t')

-- so do two calls from outside
abbrev pub CallsEndOnce : Type 0
CallsEndOnce =
    (m : Contents) (depth fuel : ℕ) (s : Store) (function : ℕ) (args : List Value) (trace : List HostCall)
    (outcome outcome' : RunEnd) (used used' : ℕ) (t t' : Store)
    → Invokes m depth fuel s function args trace outcome used t
    → Invokes m depth fuel s function args trace outcome' used' t'
    → (outcome ≡ outcome') × (used ≡ used') × (t ≡ t')

-- ---- one stop

-- two runs from one start in which the host answered the same calls, and which end alike, stop at one operation and within one list of calls
abbrev pub RunsStopOnce : Type 0
RunsStopOnce =
    (m : Contents) (depth : ℕ) (s : Store) (contexts : List Context) (marks : List Mark) (trace : List HostCall) (outcome : RunEnd) (used : ℕ)
    (t t' : Store) (last last' : Moment)
    → RunsTo m depth last s contexts marks trace outcome used t
    → RunsTo m depth last' s contexts marks trace outcome used t'
    → last ≡ last'

-- and such a run is a run
abbrev pub StoppedRunsAreRuns : Type 0
StoppedRunsAreRuns =
    (m : Contents) (depth : ℕ) (s : Store) (contexts : List Context) (marks : List Mark) (trace : List HostCall) (outcome : RunEnd) (used : ℕ)
    (t : Store) (last : Moment)
    → RunsTo m depth last s contexts marks trace outcome used t → Run m depth s contexts trace outcome used t

-- ---- callers

-- the operation is a call of this function: by its index, or through an element of the table, by its type
abbrev pub CallsFunction : Contents → (function : ℕ) → Token → Type 0
CallsFunction m function (op.Plain (instr.Call f)) = f ≡ function
CallsFunction m function (op.Plain (instr.CallIndirect type)) = type_of_function m function ≡ slice_get m.types type
CallsFunction m function _ = ⊥

-- the caller's operation, in the body of its function, is a call of the callee's function
pub record IsCallerOf (m : Contents) (callee caller : Site) : Type 0 where
  pub f : Func
  pub operation : Token
  pub defined : slice_get m.functions caller.function ≡ Some f
  pub there : slice_get (operations f.body) caller.operation ≡ Some operation
  pub calls : CallsFunction m (length m.imports + callee.function) operation

-- each open call but the outermost was made by the next one
abbrev pub AreInCalls : Contents → List Site → Type 0
AreInCalls m (callee ∷ caller ∷ others) = IsCallerOf m callee caller × AreInCalls m (caller ∷ others)
AreInCalls m _ = Unit {0}

-- so it is where a call from outside stops
abbrev pub StopsAreInCalls : Type 0
StopsAreInCalls =
    (m : Contents) (depth : ℕ) (s : Store) (function : ℕ) (args : List Value) (trace : List HostCall) (outcome : RunEnd) (used : ℕ) (t : Store)
    (stop : Halt) → Stopped m depth s function args trace outcome used t (Some stop) → AreInCalls m stop.sites

-- ---- the table

-- a run leaves it as it was
abbrev pub RunsKeepTable : Type 0
RunsKeepTable =
    (m : Contents) (depth fuel : ℕ) (s : Store) (contexts : List Context) (trace : List HostCall) (outcome : RunEnd) (used : ℕ) (t : Store)
    → RunsWithin m depth fuel s contexts trace outcome used t → t.table ≡ s.table

-- so does a call from outside
abbrev pub CallsKeepTable : Type 0
CallsKeepTable =
    (m : Contents) (depth fuel : ℕ) (s : Store) (function : ℕ) (args : List Value) (trace : List HostCall) (outcome : RunEnd) (used : ℕ)
    (t : Store)
    → Invokes m depth fuel s function args trace outcome used t → t.table ≡ s.table

-- ---- one run, over a host whose calls are a function of what is seen of its state and of what is asked

-- one start has one run at most, and leads to one sight of the host
abbrev pub RunsAreDetermined : {H : Type 0} → (V : Type 0) → (H → HostCall → H → Type 0) → Type 0
RunsAreDetermined {H} V moves =
    (see : H → V) → IsDetermined see moves
    → (m : Contents) (depth fuel : ℕ) (s : Store) (contexts : List Context) (trace trace' : List HostCall)
    (outcome outcome' : RunEnd) (used used' : ℕ) (t t' : Store) (host host' new new' : H)
    → see host ≡ see host'
    → RunsWithin m depth fuel s contexts trace outcome used t → Lawful moves trace host new
    → RunsWithin m depth fuel s contexts trace' outcome' used' t' → Lawful moves trace' host' new'
    → (trace ≡ trace') × (outcome ≡ outcome') × (used ≡ used') × (t ≡ t') × (see new ≡ see new')

-- so has a call from outside
abbrev pub CallsAreDetermined : {H : Type 0} → (V : Type 0) → (H → HostCall → H → Type 0) → Type 0
CallsAreDetermined {H} V moves =
    (see : H → V) → IsDetermined see moves
    → (m : Contents) (depth fuel : ℕ) (s : Store) (function : ℕ) (args : List Value) (trace trace' : List HostCall)
    (outcome outcome' : RunEnd) (used used' : ℕ) (t t' : Store) (host host' new new' : H)
    → see host ≡ see host'
    → Invokes m depth fuel s function args trace outcome used t → Lawful moves trace host new
    → Invokes m depth fuel s function args trace' outcome' used' t' → Lawful moves trace' host' new'
    → (trace ≡ trace') × (outcome ≡ outcome') × (used ≡ used') × (t ≡ t') × (see new ≡ see new')

-- and a call from outside ends, stops and leads so in one way at most
abbrev pub AnswersAreDetermined : {H : Type 0} → (V : Type 0) → (H → HostCall → H → Type 0) → Type 0
AnswersAreDetermined {H} V moves =
    (see : H → V) → IsDetermined see moves
    → (call : Call) (s : Store) (ended ended' : Ended) (stop stop' : Option Halt) (t t' : Store) (host host' new new' : H)
    → see host ≡ see host'
    → Leads moves call (scene s host) ended stop (scene t new)
    → Leads moves call (scene s host') ended' stop' (scene t' new')
    → (ended ≡ ended') × (stop ≡ stop') × (t ≡ t') × (see new ≡ see new')

-- ---- where runs stand, by the side tables

-- the open calls stand at operations of their bodies
abbrev pub ReachedStandAtPlaces : Type 0
ReachedStandAtPlaces =
    (m : Contents) (body : ℕ → Body) (depth : ℕ) (contexts : List Context)
    → ValidModule m → AreBodies m body → IsReached m depth contexts → (places : List Place) × ArePlaced m body places contexts 0

-- a step leads on to where its operation and that one's entry in the table say
abbrev pub StepsLeadOn : Type 0
StepsLeadOn =
    (m : Contents) (body : ℕ → Body) (s : Store) (place : Place) (callers : List Place) (contexts : List Context)
    → IsPlaced m body place callers contexts 0
    → LeadsOn m body
    (stepped (body place.function) place (operands_of contexts) callers (slice_get (body place.function).operations place.pc))
    (next m s contexts)

-- a branch goes to its entry in the table of targets, and keeps and drops what that says
abbrev pub BrIsTold : Type 0
BrIsTold =
    (m : Contents) (body : ℕ → Body) (place : Place) (callers : List Place) (label charge : ℕ) (s to : Store) (contexts there : List Context)
    → IsPlaced m body place callers contexts 0
    → slice_get (body place.function).operations place.pc ≡ Some (op.Plain (instr.Br label))
    → next m s contexts ≡ Goes charge to there
    → BranchesTo m body place callers (slice_get (body place.function).table.targets place.pc) (operands_of contexts) contexts there

-- so does one that is taken where the operand isn't 0
abbrev pub BrIfIsTold : Type 0
BrIfIsTold =
    (m : Contents) (body : ℕ → Body) (place : Place) (callers : List Place) (label charge n : ℕ) (values : List Value) (s to : Store)
    (contexts there : List Context)
    → IsPlaced m body place callers contexts 0
    → slice_get (body place.function).operations place.pc ≡ Some (op.Plain (instr.BrIf label))
    → operands_of contexts ≡ I32 (suc n) ∷ values
    → next m s contexts ≡ Goes charge to there
    → BranchesTo m body place callers (slice_get (body place.function).table.targets place.pc) values contexts there

-- one through a table of labels goes to the entry of the label that the operand chooses, the last past their end
abbrev pub BrTableIsTold : Type 0
BrTableIsTold =
    (m : Contents) (body : ℕ → Body) (place : Place) (callers : List Place) (labels : List ℕ) (default charge n : ℕ) (values : List Value)
    (s to : Store) (contexts there : List Context)
    → IsPlaced m body place callers contexts 0
    → slice_get (body place.function).operations place.pc ≡ Some (op.Plain (instr.BrTable labels default))
    → operands_of contexts ≡ I32 n ∷ values
    → next m s contexts ≡ Goes charge to there
    → (start : Target) × (slice_get (body place.function).table.targets place.pc ≡ Some start)
    × BranchesTo m body place callers (slice_get (body place.function).table.chosen (start.pc + min n (length labels))) values contexts there

-- of all operands, but those that it tests, a branch keeps the topmost over those beneath the call and so many of the call's
abbrev pub BranchesCut : Type 0
BranchesCut =
    (t : Target) (tested values : List Value) (contexts there : List Context)
    → operands_of contexts ≡ tested ++ values → Cuts t values contexts there
    → all_operands there ≡ cut t (length (all_operands (call_of contexts))) (drop (length tested) (all_operands contexts))

-- a step within a block leaves its call and what lies beneath it
abbrev pub BlocksStayInCall : Type 0
BlocksStayInCall =
    (m : Contents) (s : Store) (arity : ℕ) (back : Code) (values : List Value) (code : Code) (below : List Context)
    → StaysIn (call_of below) (next m s (Label arity back values code ∷ below))
