-- The contexts of a run stand in their bodies where its marks say, and so each caller at its call.
use Rattle.reduction.proofs.Words.{as_operands, behind_first, behind_instruction, if◌then◌else◌, marks_entered, opening_bracket, operations_to, StaysInBlock, ℕ}
use Rattle.reduction.proofs.Words.{arith, branched_to, continuing, IsDefined, left_with, operations, receiving, returned_to, slice_get, Structured, with_locals}
use Rattle.reduction.proofs.Words.{AsBlock, AsLoop, at_code, Called, Calls, Contents, Context, entered, FuncType, HostCall, Inside, length, RunEnd, value_of}
use Rattle.reduction.proofs.Words.{Bool, Code, Done, drop, false, Frame, Func, Goes, Halt, Instr, Label, List, moved, Plain, Store, Stuck, subst, Token, Value}
use Rattle.reduction.proofs.Words.{ap, Br, If, map, Move, next, refl, size, Some, suc, sym, take, true, zero, [], ◌++◌, ◌+◌, ◌-◌, ◌==◌, ◌∙◌, ◌∷◌, ◌≡◌}
use Rattle.syntax.specs.declared.instruction.Token.TheVariants as op
use Rattle.instance.specs.declared.stack.Site.{Site}
use Rattle.reduction.specs.Stopping.{Mark, Moment, RunsTo, ends, traps, spent, too_deep, goes, calls, asks, Stopped, marks_after, sites, stopped_at, halt_at}
use Rattle.reduction.specs.Laws.{CallsFunction, AreInCalls}
use Rattle.reduction.proofs.PlacesGuided.{first_at, behind_code}
use Rattle.reduction.proofs.Rules.{Reaches, InCall, Jumps, Calling, Opening, StepRule, next_rule}
use Rattle.reduction.proofs.Rules as rule

-- ---- a sequence in its body

-- the instructions of the sequence stand there, from this operation on
abbrev pub Lies : List Token → (at : ℕ) → Code → Type 0
Lies ops at Done = Unit {0}
Lies ops at (Plain i rest) = (slice_get ops at ≡ Some (op.Plain i)) × Lies ops (at + 1) rest
Lies ops at (Structured kind type body rest) = Lies ops (at + 1) body × Lies ops (at + 1 + size body) rest
Lies ops at (If type first second rest) =
    Lies ops (at + 1) first × Lies ops (at + 1 + size first) second × Lies ops (at + 1 + size first + size second) rest

lies : (ops : List Token) (at : ℕ) (close : Token) (tail : List Token) (code : Code) → drop at ops ≡ operations_to close code tail → Lies ops at code
lies ops at close tail Done s = tt
lies ops at close tail (Plain i rest) s =
    let here = first_at ops at (op.Plain i) (operations_to close rest tail) s in (here.0, lies ops (at + 1) close tail rest here.1)
lies ops at close tail (Structured kind type body rest) s =
    let after_body = operations_to close rest tail in
    let here = first_at ops at (opening_bracket kind type) (operations_to op.End body after_body) s in
    (lies ops (at + 1) op.End after_body body here.1, lies ops (at + 1 + size body) close tail rest (behind_code ops op.End body (at + 1) after_body here.1))
lies ops at close tail (If type first second rest) s =
    let after_second = operations_to close rest tail in
    let after_first = operations_to op.End second after_second in
    let here = first_at ops at (op.If type) (operations_to op.Else first after_first) s in
    let begins = behind_code ops op.Else first (at + 1) after_first here.1 in
    let there = behind_code ops op.End second (at + 1 + size first) after_second begins in (
      lies ops (at + 1) op.Else after_first first here.1,
      lies ops (at + 1 + size first) op.End after_second second begins,
      lies ops (at + 1 + size first + size second) close tail rest there,
    )

-- ---- the contexts of a run

-- after a branch to the label over these contexts, the innermost of which goes on with this sequence there
abbrev pub Backs : List Token → (back : ℕ) → Code → List Context → Type 0
Backs ops back next [] = ⊥
Backs ops back next (Label arity to values code ∷ below) = Lies ops back next
Backs ops back next (Frame locals arity values code ∷ below) = next ≡ Done

-- the contexts of the innermost call, of this function, stand where their marks say, and its callers at their calls
pub data Stands (m : Contents) : Func → (function : ℕ) → List Context → List Mark → Type 0 where
  inside : {f : Func} {function arity at back : ℕ} {next code : Code} {values : List Value} {below : List Context} {marks : List Mark}
      → Lies (operations f.body) at code → Backs (operations f.body) back next below → Stands m f function below marks
      → Stands m f function (Label arity next values code ∷ below) (Inside at back ∷ marks)
  outermost : {f : Func} {function arity : ℕ} {locals values : List Value} {code : Code} → code ≡ Done
      → Stands m f function (Frame locals arity values code ∷ []) (Called function ∷ [])
  called : {f : Func} {function arity behind back : ℕ} {locals values : List Value} {code : Code} {top : Context} {below : List Context} {marks : List Mark}
      → code ≡ Done → (h : Func) (caller : ℕ) → slice_get m.functions caller ≡ Some h → (o : Token) → slice_get (operations h.body) (behind - 1) ≡ Some o
      → CallsFunction m (length m.imports + function) o → Stands m h caller (top ∷ below) (Inside behind back ∷ marks)
      → Stands m f function (Frame locals arity values code ∷ top ∷ below) (Called function ∷ Inside behind back ∷ marks)

-- the same of some defined function
abbrev pub AreStanding : Contents → List Context → List Mark → Type 0
AreStanding m contexts marks = (f : Func) × (function : ℕ) × (slice_get m.functions function ≡ Some f) × Stands m f function contexts marks

-- contexts that wait for a callee stand behind a call of it
pub data Awaits (m : Contents) (callee : ℕ) : List Context → List Mark → Type 0 where
  awaits : {top : Context} {below : List Context} {behind back : ℕ} {marks : List Mark} (h : Func) (caller : ℕ) → slice_get m.functions caller ≡ Some h
      → (o : Token) → slice_get (operations h.body) (behind - 1) ≡ Some o → CallsFunction m callee o → Stands m h caller (top ∷ below) (Inside behind back ∷ marks)
      → Awaits m callee (top ∷ below) (Inside behind back ∷ marks)

-- so they stand after a step
abbrev pub After : Contents → List Mark → Move → Type 0
After m marks (Goes charge s there) = AreStanding m there marks
After m marks (Calls callee args below) = Awaits m callee below marks
After m marks _ = Unit {0}

-- an instruction that neither branches nor calls leads to the next operation
pub behind-plain : (i : Instr) (values : List Value) (at : ℕ) (marks : List Mark) → StaysInBlock i → behind_instruction i values at marks ≡ moved (at + 1) marks
behind-plain (Br label) values at marks still = search
behind-plain _ values at marks still = search

backs_locals : (ops : List Token) (back : ℕ) (to : Code) (contexts : List Context) (locals : List Value)
    → Backs ops back to contexts → Backs ops back to (with_locals locals contexts)
backs_locals ops back to [] locals n = absurd n
backs_locals ops back to (Frame own arity values code ∷ below) locals n = n
backs_locals ops back to (Label arity next values code ∷ below) locals n = n

-- the operation before the next one
before_next : (ops : List Token) (at : ℕ) (o : Token) → slice_get ops at ≡ Some o → slice_get ops (at + 1 - 1) ≡ Some o
before_next ops at o there = subst (λ (n : ℕ). slice_get ops n ≡ Some o) (omega arith) there

module _ (m : Contents) where
  module _ {f : Func} {function : ℕ} where
    -- other locals
    stands_locals : {contexts : List Context} {marks : List Mark} (locals : List Value) → Stands m f function contexts marks
        → Stands m f function (with_locals locals contexts) marks
    stands_locals locals (inside {back} {next} {below} l n k) = inside l (backs_locals (operations f.body) back next below locals n) (stands_locals locals k)
    stands_locals locals (outermost c) = outermost c
    stands_locals locals (called c h caller known o there spelled k) = called c h caller known o there spelled k

    -- operands come
    received : {contexts : List Context} {marks : List Mark} (more : List Value) → Stands m f function contexts marks
        → Stands m f function (receiving more contexts) marks
    received more (inside l n k) = inside l n k
    received more (outermost c) = outermost c
    received more (called c h caller known o there spelled k) = called c h caller known o there spelled k

    -- the contexts below a label go on where a branch to it leads
    continued : {contexts : List Context} {marks : List Mark} (back : ℕ) (next : Code) (kept : List Value) → Backs (operations f.body) back next contexts
        → Stands m f function contexts marks → Stands m f function (continuing kept next contexts) (moved back marks)
    continued back next kept n (inside l b k) = inside n b k
    continued back next kept n (outermost c) = outermost n
    continued back next kept n (called c h caller known o there spelled k) = called n h caller known o there spelled k

    reached : {label arity : ℕ} {next : Code} {contexts below : List Context} {marks : List Mark} (kept : List Value) → Reaches label contexts arity next below
        → Stands m f function contexts marks → Stands m f function (continuing kept next below) (branched_to label marks)
    reached kept rule.here (inside {back} {next} l n k) = continued back next kept n k
    reached kept (rule.further to) (inside l n k) = reached kept to k

    -- the frame of the innermost call, with its results
    framed : {locals : List Value} {arity : ℕ} {contexts below : List Context} {marks : List Mark} (results : List Value) → InCall contexts locals arity below
        → Stands m f function contexts marks → Stands m f function (Frame locals arity results Done ∷ below) (returned_to marks)
    framed results rule.here (outermost c) = outermost refl
    framed results rule.here (called c h caller known o there spelled k) = called refl h caller known o there spelled k
    framed results (rule.further to) (inside l n k) = framed results to k

  -- what an instruction calls, its operation calls
  spelled_call : {i : Instr} {values left : List Value} {callee : ℕ} {type : FuncType} → Calling m i values callee type left → CallsFunction m callee (op.Plain i)
  spelled_call (rule.direct e) = refl
  spelled_call (rule.through e named params results) = e ∙ (λ j. Some (record { params = params j; results = results j })) ∙ sym named

  -- a block is open round what comes next
  module _ (f : Func) (function : ℕ) (is : slice_get m.functions function ≡ Some f) (arity : ℕ) (back : Code) (own : List Value) (own_code : Code) (below : List Context)
      (from to : ℕ) (marks : List Mark) (n : Backs (operations f.body) to back below) (k : Stands m f function below marks) where
    abbrev contexts : List Context
    contexts = Label arity back own own_code ∷ below

    abbrev all : List Mark
    all = Inside from to ∷ marks

    jumped : {i : Instr} {values left : List Value} {label count : ℕ} {next : Code} {under : List Context} → Jumps i values label left
        → Reaches label contexts count next under → (l : Lies (operations f.body) from own_code) → Stands m f function (continuing (take count left) next under) (behind_instruction i values from all)
    jumped {left} {count} rule.br to' l = reached (take count left) to' (inside l n k)
    jumped {left} {count} _ to' l = reached (take count left) to' (inside l n k)

    -- a block stands open
    opened : (s : Store) {code next inner rest : Code} {values left : List Value} {type : FuncType} {count : ℕ} → Opening m code values type count next inner rest left
        → Lies (operations f.body) from code
        → After m (behind_first code values from all) (Goes 1 s (Label count next (take (length type.params) left) inner ∷ Label arity back (drop (length type.params) left) rest ∷ below))
    opened s (rule.a_structured {kind = AsBlock} found) l = (f, function, is, inside l.0 l.1 (inside l.1 n k))
    opened s (rule.a_structured {kind = AsLoop} found) l = (f, function, is, inside l.0 l (inside l.1 n k))
    opened s (rule.an_if {n = zero} found) l = (f, function, is, inside l.1 l.2 (inside l.2 n k))
    opened s (rule.an_if {n = suc other} found) l = (f, function, is, inside l.0 l.2 (inside l.2 n k))

    waiting : {i : Instr} {values left : List Value} {callee : ℕ} {type : FuncType} {rest : Code} → Calling m i values callee type left
        → CallsFunction m callee (op.Plain i) → Lies (operations f.body) from (Plain i rest)
        → Awaits m callee (Label arity back (drop (length type.params) left) rest ∷ below) (behind_instruction i values from all)
    waiting {i} (rule.direct e) spelled l = awaits f function is (op.Plain i) (before_next (operations f.body) from (op.Plain i) l.0) spelled (inside l.1 n k)
    waiting {i} (rule.through e named params results) spelled l =
        awaits f function is (op.Plain i) (before_next (operations f.body) from (op.Plain i) l.0) spelled (inside l.1 n k)

    by_rule : {s : Store} {values : List Value} {code : Code} {move : Move} → StepRule m s contexts values code move → Lies (operations f.body) from own_code
        → Lies (operations f.body) from code → After m (behind_first code values from all) move
    by_rule (rule.leaves {i} {values} {ls} still t) own l =
        (f, function, is, subst (Stands m f function _) (sym (behind-plain i values from all still)) (inside l.1 (backs_locals (operations f.body) to back below ls n) (stands_locals ls k)))
    by_rule rule.passes own l = (f, function, is, inside l.1 n k)
    by_rule (rule.branches j to' few) own l = (f, function, is, jumped j to' own)
    by_rule (rule.returns {values} {arity = count} to' few) own l = (f, function, is, framed (take count values) to' (inside own n k))
    by_rule (rule.calls c typed) own l = waiting c (spelled_call c) l
    by_rule {s} (rule.enters o few) own l = opened s o l
    by_rule (rule.closes {values}) own l = (f, function, is, received values k)
    by_rule _ own l = tt

  -- a call that has nothing more to do is left
  leaves : {f : Func} {function arity : ℕ} {locals values : List Value} {code : Code} {below : List Context} {marks : List Mark} (s : Store)
      → Stands m f function (Frame locals arity values code ∷ below) marks
      → After m (marks_after (Frame locals arity values code ∷ below) marks) (at_code m s values code (Frame locals arity values code ∷ below))
  leaves {arity} {values} s (outermost c) = rw c (ended (length values == arity)) where
    ended : (b : Bool) → After m [] (if b then left_with s values [] else Stuck)
    ended true = tt
    ended false = tt
  leaves {arity} {values} s (called {behind} {back} {top} {below} {marks} c h caller known o there spelled k) = rw c (ended (length values == arity)) where
    ended : (b : Bool) → After m (Inside behind back ∷ marks) (if b then left_with s values (top ∷ below) else Stuck)
    ended true = (h, caller, known, received values k)
    ended false = tt

  -- whatever step comes next
  steps : (s : Store) (contexts : List Context) (marks : List Mark) → AreStanding m contexts marks → After m (marks_after contexts marks) (next m s contexts)
  steps s contexts marks (f, function, is, inside {arity} {at} {back} {next} {code} {values} {below} {marks = others} l n k) =
      by_rule f function is arity next values code below at back others n k (next_rule m s contexts) l l
  steps s contexts marks (f, function, is, outermost c) = leaves {f = f} {function = function} s (outermost c)
  steps s contexts marks (f, function, is, called c h caller known o there spelled k) = leaves {f = f} {function = function} s (called c h caller known o there spelled k)

  -- a call of a defined function begins
  begins : (type : FuncType) (f : Func) (args : List Value) (index : ℕ) (below : List Context) (marks : List Mark) → slice_get m.functions index ≡ Some f
      → ((locals : List Value) (arity : ℕ) → Stands m f index (Frame locals arity [] Done ∷ below) (Called index ∷ marks))
      → AreStanding m (entered type f args below) (marks_entered f index marks)
  begins type f args index below marks is k =
      (f, index, is, inside (lies (operations f.body) 0 op.End [] f.body refl) refl (k (args ++ map (λ t. value_of t 0) f.locals) (length type.results)))

  enters : (function : ℕ) (type : FuncType) (f : Func) (args : List Value) (below : List Context) (marks : List Mark) (defined : IsDefined m function type f)
      → Awaits m function below marks → AreStanding m (entered type f args below) (marks_entered f defined.0 marks)
  enters function type f args below marks (index, same, is, known) (awaits h caller known_so o there spelled k) =
      begins type f args index below marks is (λ locals arity. called refl h caller known_so o there (rw same at spelled) k)

  -- the host's answer comes
  answered : (callee : ℕ) (below : List Context) (marks : List Mark) (values : List Value) → Awaits m callee below marks → AreStanding m (receiving values below) marks
  answered callee below marks values (awaits h caller known o there spelled k) = (h, caller, known, received values k)

  -- ---- the sites of the open calls

  -- the sites that the marks tell begin with this one, and its callers are at their calls
  record Sites (function at : ℕ) (told : List Site) : Type 0 where
    pub others : List Site
    pub are : told ≡ record { function = function; operation = at } ∷ others
    pub in_calls : AreInCalls m (record { function = function; operation = at } ∷ others)

  sites_stand : {f : Func} {function : ℕ} {contexts : List Context} {marks : List Mark} (at : ℕ) → Stands m f function contexts marks → Sites function at (sites at marks)
  sites_stand at (inside l n k) = sites_stand at k
  sites_stand at (outermost c) = record { others = []; are = refl; in_calls = tt }
  sites_stand {function} at (called {behind} c h caller known o there spelled k) =
      let rest = sites_stand (behind - 1) k in
      record {
        others = record { function = caller; operation = behind - 1 } ∷ rest.others;
        are = ap (λ (ss : List Site). record { function = function; operation = at } ∷ ss) rest.are;
        in_calls = (record { f = h; operation = o; defined = known; there = there; calls = spelled }, rest.in_calls);
      }

  stopped_stand : (contexts : List Context) (marks : List Mark) → AreStanding m contexts marks → AreInCalls m (stopped_at marks)
  stopped_stand contexts marks (f, function, is, inside {at} l n k) = let told = sites_stand at k in subst (AreInCalls m) (sym told.are) told.in_calls
  stopped_stand contexts marks (f, function, is, outermost c) = tt
  stopped_stand contexts marks (f, function, is, called c h caller known o there spelled k) = tt

  -- ---- runs

  abbrev pub EndsInCalls : Moment → Type 0
  EndsInCalls last = AreInCalls m (stopped_at last.marks)

  ended : (contexts : List Context) (marks : List Mark) (last : Moment) → AreStanding m contexts marks → record { contexts = contexts; marks = marks } ≡ last → EndsInCalls last
  ended contexts marks last k at = subst EndsInCalls at (stopped_stand contexts marks k)

  stepped : (s : Store) (contexts : List Context) (marks : List Mark) (move : Move) → AreStanding m contexts marks → next m s contexts ≡ move → After m (marks_after contexts marks) move
  stepped s contexts marks move k e = subst (After m (marks_after contexts marks)) e (steps s contexts marks k)

  runs : {depth : ℕ} {last : Moment} {s t : Store} {contexts : List Context} {marks : List Mark} {trace : List HostCall} {outcome : RunEnd} {used : ℕ}
      → RunsTo m depth last s contexts marks trace outcome used t → AreStanding m contexts marks → EndsInCalls last
  runs {last = last} {contexts = contexts} {marks = marks} (ends results at e) k = ended contexts marks last k at
  runs {last = last} {contexts = contexts} {marks = marks} (traps trap at e) k = ended contexts marks last k at
  runs {last = last} {contexts = contexts} {marks = marks} (spent at c) k = ended contexts marks last k at
  runs {last = last} {contexts = contexts} {marks = marks} (too_deep function args below type f at e d h) k = ended contexts marks last k at
  runs {s = s} {contexts = contexts} {marks = marks} (goes charge e run) k = runs run (stepped s contexts marks _ k e)
  runs {s = s} {contexts = contexts} {marks = marks} (calls function args below type f e d h run) k =
      runs run (enters function type f args below (marks_after contexts marks) d (stepped s contexts marks (Calls function args below) k e))
  runs {s = s} {contexts = contexts} {marks = marks} (asks call below e i b run) k =
      runs run (answered call.function below (marks_after contexts marks) (as_operands call.answer) (stepped s contexts marks (Calls call.function call.args below) k e))

pub stops_in_calls : (m : Contents) (depth : ℕ) (s : Store) (function : ℕ) (args : List Value) (trace : List HostCall) (outcome : RunEnd) (used : ℕ) (t : Store) (stop : Halt)
    → Stopped m depth s function args trace outcome used t (Some stop) → AreInCalls m stop.sites
stops_in_calls m depth s function args trace outcome used t stop w =
    let whole : stop ≡ halt_at outcome w.last = let told = w.told in cc in
    let same : stop.sites ≡ stopped_at w.last.marks = ap (λ (h : Halt). h.sites) whole in
    let first = begins m w.type w.f args w.defined.0 [] [] w.defined.2 (λ locals arity. outermost refl) in
    subst (AreInCalls m) (sym same) (runs m w.runs first)
