-- What changes of contexts keep: labels, heights, calls, frames and locals.
use Rattle.reduction.proofs.Words.{ap, arith, beneath_call, call_of, Code, code_left, Context, continuing, Done, Frame, frames, going_on, height_of, Label}
use Rattle.reduction.proofs.Words.{labels_of, length, List, locals_of, operands_of, receiving, refl, suc, Value, with_locals, ℕ, [], ◌++◌, ◌+◌, ◌∷◌, ◌≡◌}
use Rattle.reduction.proofs.Rules.{Reaches, InCall}
use Rattle.reduction.proofs.Rules as rule

-- ---- other locals

pub with_locals-labels : (locals : List Value) (contexts : List Context) → labels_of (with_locals locals contexts) ≡ labels_of contexts
with_locals-labels locals [] = refl
with_locals-labels locals (Label arity next values code ∷ below) = ap (λ (ls : List ℕ). arity ∷ ls) (with_locals-labels locals below)
with_locals-labels locals (Frame own arity values code ∷ below) = refl

pub with_locals-height : (locals : List Value) (contexts : List Context) → height_of (with_locals locals contexts) ≡ height_of contexts
with_locals-height locals [] = refl
with_locals-height locals (Label arity next values code ∷ below) = ap (λ (n : ℕ). length values + n) (with_locals-height locals below)
with_locals-height locals (Frame own arity values code ∷ below) = refl

pub with_locals-base : (locals : List Value) (contexts : List Context) → beneath_call (with_locals locals contexts) ≡ beneath_call contexts
with_locals-base locals [] = refl
with_locals-base locals (Label arity next values code ∷ below) = with_locals-height locals below
with_locals-base locals (Frame own arity values code ∷ below) = refl

pub with_locals-operands : (locals : List Value) (contexts : List Context) → operands_of (with_locals locals contexts) ≡ operands_of contexts
with_locals-operands locals (Label arity next values code ∷ below) = refl
with_locals-operands locals _ = refl

pub with_locals-code : (locals : List Value) (contexts : List Context) → code_left (with_locals locals contexts) ≡ code_left contexts
with_locals-code locals (Label arity next values code ∷ below) = refl
with_locals-code locals _ = refl

pub frames-locals : (locals : List Value) (contexts : List Context) → frames (with_locals locals contexts) ≡ frames contexts
frames-locals locals [] = refl
frames-locals locals (Label arity next own rest ∷ below) = frames-locals locals below
frames-locals locals (Frame own arity values rest ∷ below) = refl

pub call-locals : (locals : List Value) (contexts : List Context) → call_of (with_locals locals contexts) ≡ call_of contexts
call-locals locals [] = refl
call-locals locals (Label arity next own rest ∷ below) = call-locals locals below
call-locals locals (Frame own arity values rest ∷ below) = refl

-- ---- other operands and another sequence

pub frames-going : (values : List Value) (code : Code) (contexts : List Context) → frames (going_on values code contexts) ≡ frames contexts
frames-going values code (Label arity next own rest ∷ below) = refl
frames-going values code _ = refl

pub call-going : (values : List Value) (code : Code) (contexts : List Context) → call_of (going_on values code contexts) ≡ call_of contexts
call-going values code (Label arity next own rest ∷ below) = refl
call-going values code _ = refl

-- ---- more operands

pub receiving-is : (more : List Value) (contexts : List Context) → receiving more contexts ≡ going_on (more ++ operands_of contexts) (code_left contexts) contexts
receiving-is more (Label arity next values code ∷ below) = refl
receiving-is more _ = refl

pub continuing-is : (more : List Value) (next : Code) (contexts : List Context) → continuing more next contexts ≡ going_on (more ++ operands_of contexts) next contexts
continuing-is more next (Label arity back values code ∷ below) = refl
continuing-is more next _ = refl

-- the innermost call's operands are those of its innermost context and those beneath
pub height-parts : (contexts : List Context) → height_of contexts ≡ length (operands_of contexts) + beneath_call contexts
height-parts [] = refl
height-parts (Label arity next values code ∷ below) = refl
height-parts (Frame locals arity values code ∷ below) = omega arith

pub frames-receiving : (values : List Value) (contexts : List Context) → frames (receiving values contexts) ≡ frames contexts
frames-receiving values (Label arity next own rest ∷ below) = refl
frames-receiving values _ = refl

pub frames-continuing : (values : List Value) (code : Code) (contexts : List Context) → frames (continuing values code contexts) ≡ frames contexts
frames-continuing values code (Label arity next own rest ∷ below) = refl
frames-continuing values code _ = refl

pub call-receiving : (values : List Value) (contexts : List Context) → call_of (receiving values contexts) ≡ call_of contexts
call-receiving values (Label arity next own rest ∷ below) = refl
call-receiving values _ = refl

pub call-continuing : (values : List Value) (code : Code) (contexts : List Context) → call_of (continuing values code contexts) ≡ call_of contexts
call-continuing values code (Label arity next own rest ∷ below) = refl
call-continuing values code _ = refl

pub locals-receiving : (values : List Value) (contexts : List Context) → locals_of (receiving values contexts) ≡ locals_of contexts
locals-receiving values (Label arity next own rest ∷ below) = refl
locals-receiving values _ = refl

pub locals-continuing : (values : List Value) (code : Code) (contexts : List Context) → locals_of (continuing values code contexts) ≡ locals_of contexts
locals-continuing values code (Label arity next own rest ∷ below) = refl
locals-continuing values code _ = refl

-- ---- where branches and returns lead

pub frames-reached : {label arity : ℕ} {next : Code} {contexts below : List Context} → Reaches label contexts arity next below → frames contexts ≡ frames below
frames-reached rule.here = refl
frames-reached (rule.further at) = frames-reached at

pub call-reached : {label arity : ℕ} {next : Code} {contexts below : List Context} → Reaches label contexts arity next below → call_of contexts ≡ call_of below
call-reached rule.here = refl
call-reached (rule.further at) = call-reached at

-- a branch keeps the locals
pub locals-reached : {label arity : ℕ} {next : Code} {contexts below : List Context} → Reaches label contexts arity next below → locals_of contexts ≡ locals_of below
locals-reached rule.here = refl
locals-reached (rule.further at) = locals-reached at

pub frames-in_call : {locals : List Value} {arity : ℕ} {contexts below : List Context} → InCall contexts locals arity below → frames contexts ≡ suc (frames below)
frames-in_call rule.here = refl
frames-in_call (rule.further at) = frames-in_call at

pub call-in : {locals : List Value} {arity : ℕ} {contexts below : List Context} → InCall contexts locals arity below → call_of contexts ≡ Frame [] arity [] Done ∷ below
call-in rule.here = refl
call-in (rule.further at) = call-in at
