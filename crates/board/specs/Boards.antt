-- What contracts see of a board and of a pass.
use Rattle.std.specs.Prelude.{◌≡◌, ℕ, ◌+◌, ◌<◌, length, List, map, All, Some, slice_get, slice_set}
use Rattle.order.specs.declared.reply.Reply.{Reply}
use Rattle.board.specs.declared.event.Event.{Event}
use Rattle.board.specs.declared.event.Event.TheVariants.{Posted, Taken, Put, Collected}
use Rattle.board.specs.Views.{LineView, HandView, MakerView, IsIdle, Gave, Took, HasAll, IsWhole, maker_at, makers_at, with_hand}

-- its line of jobs, and its line of replies for each loop
pub record BoardView : Type 0 where
  pub jobs : LineView
  pub replies : List LineView

-- what was done with a pass on each of its board's lines
pub record PassView (J : Type 0) : Type 0 where
  pub jobs : HandView J
  pub replies : List (HandView Reply)

-- what was done with the passes that were taken in, on each of the board's lines
pub record GatheringView (J : Type 0) : Type 0 where
  pub jobs : MakerView J
  pub replies : List (MakerView Reply)

-- the line of a loop's replies has the loop's number as its key
abbrev pub AreOfTheirLoops : List (HandView Reply) → Type 0
AreOfTheirLoops hands = (loop_no : ℕ) (h : HandView Reply) → slice_get hands loop_no ≡ Some h → h.key ≡ loop_no

-- a hand of each line is taken in
abbrev pub GathersReplies : List (MakerView Reply) → List (HandView Reply) → List (MakerView Reply) → Type 0
GathersReplies old hands new = (k : ℕ) (m : MakerView Reply) (h : HandView Reply) → slice_get old k ≡ Some m → slice_get hands k ≡ Some h
    → slice_get new k ≡ Some (with_hand m h)

abbrev pub EachMaker : (MakerView Reply → Type 0) → List (MakerView Reply) → Type 0
EachMaker P makers = (k : ℕ) (m : MakerView Reply) → slice_get makers k ≡ Some m → P m

-- what was done with the hands that were taken in is whole, of each line
abbrev pub AreWhole : List (MakerView Reply) → Type 0
AreWhole makers = EachMaker (λ m. IsWhole m.hands) makers

module _ {J : Type 0} where
  -- the pass was made with the board
  pub record IsPassOf (board : BoardView) (pass : PassView J) : Type 0 where
    pub jobs : pass.jobs.line ≡ board.jobs.id
    pub replies : map (λ h. h.line) pass.replies ≡ map (λ l. l.id) board.replies

  -- and has done nothing
  pub record IsNewPass (board : BoardView) (pass : PassView J) : Type 0 where
    pub own : IsPassOf board pass
    pub jobs : IsIdle pass.jobs
    pub replies : All IsIdle pass.replies

  -- its names on each line have this number
  pub record HasNumber (n : ℕ) (pass : PassView J) : Type 0 where
    pub jobs : pass.jobs.number ≡ n
    pub replies : All (λ h. h.number ≡ n) pass.replies

  -- passes are numbered from 1, in order
  abbrev pub AreNumbered : List (PassView J) → Type 0
  AreNumbered passes = (k : ℕ) (p : PassView J) → slice_get passes k ≡ Some p → HasNumber (k + 1) p

  -- something is done on the line of jobs, and nothing else
  pub record OnJobs (step : HandView J → HandView J → Type 0) (old new : PassView J) : Type 0 where
    pub jobs : step old.jobs new.jobs
    pub replies : new.replies ≡ old.replies

  -- something is done on the line of a loop's replies, and nothing else
  pub record OnReplies (step : HandView Reply → HandView Reply → Type 0) (old new : PassView J) (loop_no : ℕ) : Type 0 where
    pub before : HandView Reply
    pub after : HandView Reply
    pub was : slice_get old.replies loop_no ≡ Some before
    pub did : step before after
    pub replies : new.replies ≡ slice_set old.replies loop_no after
    pub jobs : new.jobs ≡ old.jobs

  -- one more job is posted
  abbrev pub Posts : PassView J → PassView J → J → Type 0
  Posts old new job = OnJobs (λ a b. Gave a b job) old new

  -- one more job is taken, with its name
  abbrev pub TakesJob : PassView J → PassView J → J → Type 0
  TakesJob old new job = OnJobs (λ a b. Took a b job) old new

  -- one more reply is put, for its order's loop
  abbrev pub Puts : PassView J → PassView J → Reply → Type 0
  Puts old new reply = OnReplies (λ a b. Gave a b reply) old new reply.order.loop_no

  -- one more reply of the loop is collected, with its name
  abbrev pub Collects : PassView J → PassView J → ℕ → Reply → Type 0
  Collects old new loop_no reply = OnReplies (λ a b. Took a b reply) old new loop_no

  -- no pass was taken in, of so many
  abbrev pub IsNewGathering : BoardView → ℕ → GatheringView J → Type 0
  IsNewGathering board n g = (g.jobs ≡ maker_at (n + 1) 0 board.jobs) × (g.replies ≡ makers_at (n + 1) 0 board.replies)

  -- all passes were taken in
  pub record AreAllIn (g : GatheringView J) : Type 0 where
    pub jobs : HasAll g.jobs
    pub replies : EachMaker HasAll g.replies

  -- the hands of some passes on the line of a loop's replies
  abbrev pub AreHandsOf : (passes : List (PassView J)) → (loop_no : ℕ) → List (HandView Reply) → Type 0
  AreHandsOf passes loop_no hands = map (λ p. slice_get p.replies loop_no) passes ≡ map (λ h. Some h) hands

  -- these are whole for each loop
  abbrev pub AreRepliesWhole : (loops : ℕ) → List (PassView J) → Type 0
  AreRepliesWhole loops passes = (loop_no : ℕ) → loop_no < loops → (hands : List (HandView Reply)) × AreHandsOf passes loop_no hands × IsWhole hands

  -- it was made with the board
  pub record IsGatheringOf (board : BoardView) (g : GatheringView J) : Type 0 where
    pub jobs : g.jobs.line ≡ board.jobs.id
    pub replies : map (λ m. m.line) g.replies ≡ map (λ l. l.id) board.replies

  -- a pass is taken in: its hand of each line
  pub record JoinsPass (old : GatheringView J) (pass : PassView J) (new : GatheringView J) : Type 0 where
    pub jobs : new.jobs ≡ with_hand old.jobs pass.jobs
    pub replies : GathersReplies old.replies pass.replies new.replies

-- what is waited for is on a line of the board
abbrev pub IsEventOf : BoardView → Event → Type 0
IsEventOf board Posted = Unit {0}
IsEventOf board Taken = Unit {0}
IsEventOf board (Put loop_no) = loop_no < length board.replies
IsEventOf board (Collected loop_no) = loop_no < length board.replies
