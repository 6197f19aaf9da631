-- What each event of a loop keeps, its histories keep.
use Rattle.phases.proofs.Words.{arith, Bool, Calls, cond, count_by, Event, EventStep, false, History, List, Loop, refl, Setting, steps_keep, sum_by_push, true}
use Rattle.phases.proofs.Words.{[], ◌++◌, ◌+◌, ◌∙◌, ◌∷◌, ◌≡◌}

-- how many events of a kind there are with one more
module _ (counts : Event → Bool) (events : List Event) (e : Event) where
  pub counted : count_by counts (events ++ e ∷ []) ≡ count_by counts events + cond (counts e) 1 0
  counted = sum_by_push (λ x. cond (counts x) 1 0) events e

  pub uncounted : counts e ≡ false → count_by counts (events ++ e ∷ []) ≡ count_by counts events
  uncounted none = counted ∙ rw none (omega arith)

module _ {S : Type 0} (calls : Calls S) (g : Setting) (Holds : List Event → Loop S → Type 0) where
  -- what holds of some events and the loop behind them holds with this event behind them
  abbrev pub Keeps : Event → Type 0
  Keeps e = (events : List Event) (old new : Loop S) → EventStep calls g e old new → Holds events old → Holds (events ++ e ∷ []) new

  -- events of a kind keep it, and all others
  pub kept_by : (counts : Event → Bool) → ((e : Event) → counts e ≡ true → Keeps e) → ((e : Event) → counts e ≡ false → Keeps e) → (e : Event) → Keeps e
  kept_by counts these others e = by (counts e) refl where
    by : (b : Bool) → counts e ≡ b → Keeps e
    by true is = these e is
    by false is = others e is

  -- the same of many events
  pub kept_along : ((e : Event) → Keeps e) → (events more : List Event) (old new : Loop S) → History calls g old more new → Holds events old → Holds (events ++ more) new
  kept_along = steps_keep (λ l e m. EventStep calls g e l m) Holds
