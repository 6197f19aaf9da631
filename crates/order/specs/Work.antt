-- A work request, and its outcome.
use Rattle.std.specs.Prelude.{◌≡◌, ◌≢◌, ℕ, ◌+◌, ◌-◌, ◌^◌, ◌≤◌, List, [], ◌∷◌, length, Some, None, Option, codes}
use Rattle.limits.specs.declared.TheConstants.{MAX_BYTES}
use Rattle.syntax.specs.declared.types.Value.{Value}
use Rattle.syntax.specs.declared.types.Value.TheVariants.{I32, I64}
use Rattle.syntax.specs.Loaded.{Loaded}
use Rattle.instance.specs.Store.{Store}
use Rattle.instance.specs.Fresh.{IsFresh}
use Rattle.reduction.specs.Run.{HostCall, RunEnd, Returned, Trapped, TooDeep, OutOfFuel}
use Rattle.reduction.specs.Hosting.{Lawful}
use Rattle.reduction.specs.Invoking.{Invokes}
use Rattle.imports.specs.declared.call.Call.{Call}
use Rattle.imports.specs.declared.call.Call.TheVariants.{Now, InLen, InCopy, OutSet}
use Rattle.imports.specs.Linking.{Imports, ExportsFunction}
use Rattle.order.specs.declared.uv.answers.TheConstants.{NOT_HERE}
use Rattle.order.specs.Uv.Bytes.{input_length, copied_in, set_out}

-- A request as it is handed out: whose it is, the module, the operation, the bytes, and what it may use.
pub record WorkOrder : Type 0 where
  pub loop_no : ℕ
  pub request : ℕ
  pub slot : ℕ
  pub loaded : Loaded
  pub op : ℕ
  pub bytes : List ℕ
  pub fuel : ℕ
  pub depth : ℕ

-- what becomes of a request
pub data WorkEnd : Type 0 where
  Done : (value : ℕ) → (bytes : List ℕ) → WorkEnd
  Trap : (code : ℕ) → WorkEnd
  Depth : WorkEnd
  Spent : WorkEnd
  NoMemory : WorkEnd

-- A function's ending reads as this end of a request, with the bytes that were set last. Of returns, that of one i32 alone does.
abbrev pub EndsAs : RunEnd → (reply : List ℕ) → WorkEnd → Type 0
EndsAs (Returned (I32 value ∷ [])) reply end = end ≡ Done value reply
EndsAs (Returned _) reply end = ⊥
EndsAs (Trapped code) reply end = end ≡ Trap code
EndsAs TooDeep reply end = end ≡ Depth
EndsAs OutOfFuel reply end = end ≡ Spent

-- an answer of a number
abbrev pub SaysNumber : HostCall → ℕ → Type 0
SaysNumber call answer = call.answer ≡ Some (I32 answer)

-- the call answers this, and leaves the memory and the bytes of the reply so
abbrev pub GivesAnswer : HostCall → List ℕ → (answer : ℕ) → (memory reply : List ℕ) → Type 0
GivesAnswer call reply' answer memory reply = SaysNumber call answer × (call.after ≡ memory) × (reply' ≡ reply)

-- what the host of a work function answers to a function of "uv", of these arguments
abbrev pub WorkAnswers : (bytes reply : List ℕ) → HostCall → (reply' : List ℕ) → Call → List Value → Type 0
WorkAnswers bytes reply call reply' InLen [] = GivesAnswer call reply' (input_length (Some bytes)) call.before reply
WorkAnswers bytes reply call reply' InCopy (I32 to ∷ I32 from ∷ I32 count ∷ []) =
    let copied = copied_in (Some bytes) to from count call.before in GivesAnswer call reply' copied.0 copied.1 reply
WorkAnswers bytes reply call reply' OutSet (I32 place ∷ I32 count ∷ []) =
    let set = set_out place count call.before reply in GivesAnswer call reply' set.0 call.before set.1
-- every other call is not here, `now` by its own type
WorkAnswers bytes reply call reply' Now args = (call.answer ≡ Some (I64 (2 ^ 64 - 1))) × (call.after ≡ call.before) × (reply' ≡ reply)
WorkAnswers bytes reply call reply' _ args = GivesAnswer call reply' NOT_HERE call.before reply

-- one call of the host of a work function
abbrev pub WorkCall : WorkOrder → List ℕ → HostCall → List ℕ → Type 0
WorkCall o reply call reply' = (f : Call) × Imports o.loaded.contents call.function f × WorkAnswers o.bytes reply call reply' f call.args

-- a function of the order's module runs so, on this store and with these bytes of the reply
pub record WorkRun (o : WorkOrder) (fuel : ℕ) (s : Store) (reply : List ℕ) (function : ℕ) (args : List Value) (outcome : RunEnd) (used : ℕ)
    (t : Store) (reply' : List ℕ) : Type 0 where
  pub trace : List HostCall
  pub run : Invokes o.loaded.contents o.depth fuel s function args trace outcome used t
  pub answers : Lawful (WorkCall o) trace reply reply'

-- the start function, where there is one, runs so on a new instance
-- Core 1.0, 4.5.4: instantiation, the start function
abbrev pub StartRun : WorkOrder → Option ℕ → Store → RunEnd → (used : ℕ) → Store → List ℕ → Type 0
StartRun o None s outcome used t reply = (outcome ≡ Returned []) × (used ≡ 0) × (t ≡ s) × (reply ≡ [])
StartRun o (Some function) s outcome used t reply = WorkRun o o.fuel s [] function [] outcome used t reply

-- What one thread computes from the order alone, and the units of fuel that it uses: the start function and then `uv_work`,
-- on a new instance, with the fuel that is left.
pub data Computes (o : WorkOrder) (end : WorkEnd) (used : ℕ) : Type 0 where
  -- the start function does not return
  stops : (s t : Store) (outcome : RunEnd) (reply : List ℕ) → IsFresh o.loaded.contents s
      → StartRun o o.loaded.contents.start s outcome used t reply
      → ((results : List Value) → outcome ≢ Returned results)
      → EndsAs outcome reply end → Computes o end used
  works : (s t u : Store) (results : List Value) (outcome : RunEnd) (first second : ℕ) (reply reply' : List ℕ) (function : ℕ)
      → IsFresh o.loaded.contents s
      → StartRun o o.loaded.contents.start s (Returned results) first t reply
      → ExportsFunction o.loaded.contents (codes "uv_work") function
      → WorkRun o (o.fuel - first) t reply function (I32 o.op ∷ []) outcome second u reply'
      → used ≡ first + second
      → EndsAs outcome reply' end → Computes o end used

-- what it computes, whatever it uses
abbrev pub Works : WorkOrder → WorkEnd → Type 0
Works o end = (used : ℕ) × Computes o end used

-- the end of the order: one thread computes it, and no other
pub record IsTheEnd (o : WorkOrder) (end : WorkEnd) : Type 0 where
  pub computed : Works o end
  pub only : (other : WorkEnd) → Works o other → other ≡ end

-- what a run of the order uses; where there is no memory, nothing runs
abbrev pub Uses : WorkOrder → WorkEnd → (used : ℕ) → Type 0
Uses o NoMemory used = used ≡ 0
Uses o end used = Computes o end used

-- what a reply to the order may say: its end, or that there was no memory
abbrev pub IsEndOf : WorkOrder → WorkEnd → Type 0
IsEndOf o NoMemory = Unit {0}
IsEndOf o end = IsTheEnd o end

-- the bytes of an end are as many as a reply has at most
abbrev pub IsShortEnd : WorkEnd → Type 0
IsShortEnd (Done value bytes) = length bytes ≤ MAX_BYTES
IsShortEnd _ = Unit {0}
