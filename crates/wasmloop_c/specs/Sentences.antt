-- What is said in words: where something stopped, and what a module lacks. No clause says which words.
use Rattle.std.specs.Prelude.{◌≡◌, ◌≢◌, ◌⊎◌, ℕ, Bool, true, false, List, length, Some, None, is_some, MatchOption}
use Rattle.wasmloop_c.specs.Calls.{copied, module_of}
use Rattle.wasmloop_c.specs.Sites.{FoundStop, StopsAs}
use Rattle.wasmloop_c.specs.declared.status.TheConstants.{OK, NONE, KIND, MEMORY, REFUSED}
use Rattle.wasmloop_c.specs.declared.thing.Thing.{Thing}

-- some words are copied as far as there is room, and the count is how many bytes they have
abbrev pub CopiesWords : (old new : List ℕ) → (count : ℕ) → Type 0
CopiesWords old new count = (words : List ℕ) × (new ≡ copied words old) × (count ≡ length words)

-- nothing is said
abbrev pub Untold : (old new : List ℕ) → (before count : ℕ) → Type 0
Untold old new before count = (new ≡ old) × (count ≡ before)

-- NONE says that nothing stopped, and is answered nowhere else. A place in a module of its own bytes is said where these are they; REFUSED
-- says that they are others.
abbrev pub TellsPlaceIn : (has_stopped : Bool) → (own bytes old new : List ℕ) → (before count status : ℕ) → Type 0
TellsPlaceIn has_stopped own bytes old new before count status =
    ((has_stopped ≡ false) × (status ≡ NONE) × Untold old new before count)
    ⊎ ((has_stopped ≡ true) × (status ≡ OK) × (bytes ≡ own) × CopiesWords old new count)
    ⊎ ((has_stopped ≡ true) × (status ≡ REFUSED) × (bytes ≢ own) × Untold old new before count)
    ⊎ ((has_stopped ≡ true) × (status ≡ MEMORY) × Untold old new before count)

-- the bytes are those of the module of a loop, of a job or of an instance
abbrev pub TellsPlaceOf : FoundStop → (bytes old new : List ℕ) → (before count status : ℕ) → Type 0
TellsPlaceOf None bytes old new before count status = (status ≡ KIND) × Untold old new before count
TellsPlaceOf (Some found) bytes old new before count status = TellsPlaceIn (is_some found.0) found.1 bytes old new before count status

-- the same by the bytes that the module keeps
abbrev pub TellsOwnPlaceIn : (has_stopped : Bool) → (old new : List ℕ) → (before count status : ℕ) → Type 0
TellsOwnPlaceIn has_stopped old new before count status =
    ((has_stopped ≡ false) × (status ≡ NONE) × Untold old new before count)
    ⊎ ((has_stopped ≡ true) × (status ≡ OK) × CopiesWords old new count)
    ⊎ ((has_stopped ≡ true) × (status ≡ MEMORY) × Untold old new before count)

abbrev pub TellsOwnPlaceOf : FoundStop → (old new : List ℕ) → (before count status : ℕ) → Type 0
TellsOwnPlaceOf None old new before count status = (status ≡ KIND) × Untold old new before count
TellsOwnPlaceOf (Some found) old new before count status = TellsOwnPlaceIn (is_some found.0) old new before count status

abbrev pub TellsOwnPlace : Thing → (old new : List ℕ) → (before count status : ℕ) → Type 0
TellsOwnPlace t old new before count status = (found : FoundStop) × StopsAs t found × TellsOwnPlaceOf found old new before count status

abbrev pub TellsPlace : Thing → (bytes old new : List ℕ) → (before count status : ℕ) → Type 0
TellsPlace t bytes old new before count status = (found : FoundStop) × StopsAs t found × TellsPlaceOf found bytes old new before count status

-- a sentence, or there is none of its number, or no memory for it
abbrev pub TellsWarningOf : (old new : List ℕ) → (before count status : ℕ) → Type 0
TellsWarningOf old new before count status =
    ((status ≡ OK) × CopiesWords old new count) ⊎ (((status ≡ NONE) ⊎ (status ≡ MEMORY)) × Untold old new before count)

abbrev pub TellsWarning : Thing → (old new : List ℕ) → (before count status : ℕ) → Type 0
TellsWarning t old new before count status =
    MatchOption (module_of t) ((status ≡ KIND) × Untold old new before count) (λ m. TellsWarningOf old new before count status)
