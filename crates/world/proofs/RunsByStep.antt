-- Runs, a step at a time.
use Rattle.world.proofs.Words.{ap, length, List, LogEntry, refl, slice_get-get_or, Step, subst, sym, take, World, WorldRun, WorldStep, ℕ, [], ◌++◌, ◌+◌, ◌<◌}
use Rattle.world.proofs.Words.{◌∙◌, ◌∷◌, ◌≡◌, ◌≤◌}
use Rattle.std.proofs.Common.{slice_index_or, rules}
use Rattle.std.proofs.lemmas.Grind.{take_at_read}
use Rattle.std.proofs.lemmas.List.{take_all, append_assoc}
use Rattle.world.specs.declared.fault.WorldFault.{WorldFault}
use Rattle.world.specs.Making.{Faults, MayFault, NamesNothing, Stops}
use Rattle.world.specs.declared.fault.WorldFault.TheVariants.{NoSuch, Memory}

-- more steps from where some ended
pub runs_join : (w mid w' : World) (steps more : List Step) (told lines : List LogEntry) → WorldRun w steps told mid → WorldRun mid more lines w' → WorldRun w (steps ++ more) (told ++ lines) w'
runs_join w mid w' [] more [] lines run behind = rw run at behind
runs_join w mid w' [] more (e ∷ told) lines run behind = absurd run
runs_join w mid w' (s ∷ steps) more [] lines run behind = absurd run
runs_join w mid w' (s ∷ steps) more (e ∷ told) lines run behind = (run.0, run.1, runs_join run.0 mid w' steps more told lines run.2 behind)

-- some steps were taken, and what they told stands behind the old entries
abbrev pub HasRun : World → List Step → (old : List LogEntry) → World → (new : List LogEntry) → Type 0
HasRun w steps old w' new = (told : List LogEntry) × (new ≡ old ++ told) × WorldRun w steps told w'

pub has_begun : (w : World) (steps : List Step) (old : List LogEntry) → HasRun w (take 0 steps) old w old
has_begun w steps old = ([], search rules, refl)

pub has_run_more : (w mid w' : World) (steps : List Step) (i : ℕ) (d : Step) (old new new' : List LogEntry) → i < length steps → HasRun w (take i steps) old mid new
    → ((entry : LogEntry) × (new' ≡ new ++ entry ∷ []) × WorldStep mid (slice_index_or steps i d) entry w') → HasRun w (take (i + 1) steps) old w' new'
has_run_more w mid w' steps i d old new new' below (told, written, run) (entry, more, h) = (
  told ++ entry ∷ [],
  more ∙ ap (λ es. es ++ entry ∷ []) written ∙ append_assoc old told (entry ∷ []),
  rw (take_at_read steps i d below).1 (runs_join w mid w' (take i steps) (slice_index_or steps i d ∷ []) told (entry ∷ []) run (w', h, refl)),
)

pub has_run_all : (w w' : World) (steps : List Step) (i : ℕ) (old new : List LogEntry) → length steps ≤ i → HasRun w (take i steps) old w' new → HasRun w steps old w' new
has_run_all w w' steps i old new past run = rw (take_all i steps past) at run

pub has_stopped : (w mid w' : World) (steps : List Step) (i : ℕ) (d : Step) (old new new' : List LogEntry) (fault : WorldFault) → i < length steps → HasRun w (take i steps) old mid new
    → Faults mid (slice_index_or steps i d) fault → w' ≡ mid → new' ≡ new → (told : List LogEntry) × (new' ≡ old ++ told) × Stops w steps fault told w'
has_stopped w mid w' steps i d old new new' fault below (told, written, run) why same kept = (
  told,
  kept ∙ written,
  record {
    done = i;
    next = slice_index_or steps i d;
    at = slice_get-get_or steps i d below;
    ran = subst (WorldRun w (take i steps) told) (sym same) run;
    why = rw same why;
  },
)

-- a step that names nothing that is not there faults for memory alone
pub faults : (w : World) (s : Step) (fault : WorldFault) → (NamesNothing w s → ⊥) → MayFault w s fault → Faults w s fault
faults w s NoSuch there may = may
faults w s Memory there may = there
