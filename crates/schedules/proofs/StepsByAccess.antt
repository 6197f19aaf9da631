-- A step of a loop over its desk, as a step by its accesses.
use Rattle.schedules.proofs.Words.{Access, AccessMoves, Cancels, Chain, Desk, desk_calls, GuestCall, List, listed_calls, Loop, None, Opens, Option, over, Reach}
use Rattle.schedules.proofs.Words.{refl, Sends, Setting, Some, State, Stays, step_retraced, StepDid, StepsBy, StepsWith, Store, Takes, TakesOwn, ToCancel}
use Rattle.schedules.proofs.Words.{ToOpen, ToSend, Touch, ℕ, [], ◌∷◌, ◌≡◌}
use Rattle.phases.proofs.StepGoes.{Takes as TakesAll}
use Rattle.phases.proofs.Mirroring.{IsMirrored, Anyhow, step_mirrors}

-- a list of accesses that lead to a desk, and the desks between
module _ (e : Desk) where
  abbrev Leads : List Access → Desk → Type 0
  Leads accesses d = Reach d accesses e

  front : (all rest : List Access) (a : Access) (d : Desk) → Leads all d → all ≡ a ∷ rest → (mid : Desk) × AccessMoves d a mid × Leads rest mid
  front all rest a d leads is = rw is at leads

  leading : IsMirrored listed_calls desk_calls Anyhow Leads
  leading = record {
    opens = λ all rest d slot request leads is. front all rest (Opens slot request) d leads is;
    cancels = λ all rest d slot request won leads is. front all rest (Cancels slot request won) d leads is;
    sends = λ all rest d async_no ok leads is. front all rest (Sends async_no ok) d leads is;
    takes = λ all rest d async_no count there leads is. front all rest (Takes async_no count) d leads is;
  }

-- a step by accesses that lead from the desk to another is a step over the desk
pub step_whole : (g : Setting) (old : Loop Desk) (accesses : List Access) (did : StepDid) (made : List GuestCall) (state : State) (store : Store) (e d : Desk)
    → StepsBy g old accesses did made state store → Reach d accesses e
    → StepsWith desk_calls g (over d old) did made (record { state = state; store = store; shared = e })
step_whole g old accesses did made state store e d steps leads =
    let it =
    step_mirrors listed_calls desk_calls g Anyhow (Leads e) (leading e) (over accesses old) did made
    (record { state = state; store = store; shared = [] }) d (λ async_no handle is. tt) leads steps in
    rw it.2 it.1

-- what a guest's calls do, as accesses
abbrev accesses_of : List Touch → List Access
accesses_of [] = []
accesses_of (Stays ∷ rest) = accesses_of rest
accesses_of (ToOpen slot request ∷ rest) = Opens slot request ∷ accesses_of rest
accesses_of (ToCancel slot request won ∷ rest) = Cancels slot request won ∷ accesses_of rest
accesses_of (ToSend async_no ok ∷ rest) = Sends async_no ok ∷ accesses_of rest

-- behind what is taken first
abbrev taken_first : Option (ℕ × ℕ) → List Access → List Access
taken_first None rest = rest
taken_first (Some taken) rest = Takes taken.0 taken.1 ∷ rest

-- just these stand in the list
listed : (touches : List Touch) → Chain listed_calls touches (accesses_of touches) []
listed [] = refl
listed (Stays ∷ rest) = (accesses_of rest, refl, listed rest)
listed (_ ∷ rest) = (accesses_of rest, refl, listed rest)

listed_first : (taken : Option (ℕ × ℕ)) (rest : List Access) → TakesAll listed_calls taken (taken_first taken rest) rest
listed_first None rest = refl
listed_first (Some taken) rest = refl

-- and they lead from desk to desk
reached : (touches : List Touch) (d e : Desk) → Chain desk_calls touches d e → Reach d (accesses_of touches) e
reached [] d e h = h
reached (Stays ∷ rest) d e h = rw (← h.1) (reached rest h.0 e h.2)
reached (_ ∷ rest) d e h = (h.0, h.1, reached rest h.0 e h.2)

reached_first : (old : Loop Desk) (taken : Option (ℕ × ℕ)) (mid e : Desk) (rest : List Access) → TakesOwn desk_calls old taken mid → Reach mid rest e → Reach old.shared (taken_first taken rest) e
reached_first old None mid e rest same h = rw (← same) h
reached_first old (Some taken) mid e rest took h = (mid, took.1, h)

-- a step over the desk is a step by some accesses, which lead from the desk to the next
pub step_split : (g : Setting) (old : Loop Desk) (did : StepDid) (made : List GuestCall) (new : Loop Desk) → StepsWith desk_calls g old did made new
    → (accesses : List Access) × StepsBy g old accesses did made new.state new.store × Reach old.shared accesses new.shared
step_split g old did made new h =
    let it = step_retraced desk_calls listed_calls g did made new old h in
    let behind : List Access = accesses_of it.touches in
    let all : List Access = taken_first it.taken behind in (
      all,
      it.again all behind [] (listed_first it.taken behind) (listed it.touches),
      reached_first old it.taken it.mid new.shared behind it.takes (reached it.touches it.mid new.shared it.moved),
    )
