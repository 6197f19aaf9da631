-- The requests of a loop, each written as its slot and its number, in lists of those opened, cancelled and so on.
use Rattle.std.specs.Prelude.{ℕ, Bool, ◌&&◌, ◌==◌, nat_lt, List, [], ◌∷◌, count_by, if◌then◌else◌}

abbrev pub is_request : ℕ × ℕ → ℕ × ℕ → Bool
is_request c d = (c.0 == d.0) && (c.1 == d.1)

-- how often the request is in the list
abbrev pub times : ℕ × ℕ → List (ℕ × ℕ) → ℕ
times c xs = count_by (is_request c) xs

abbrev pub last_from : ℕ → ℕ → List (ℕ × ℕ) → ℕ
last_from slot request [] = request
last_from slot request (c ∷ cs) = last_from slot (if c.0 == slot then c.1 else request) cs

-- the number of the last request opened in the slot, or 0
abbrev pub last_in : ℕ → List (ℕ × ℕ) → ℕ
last_in slot opened = last_from slot 0 opened

-- the request is the last one that was opened in its slot, and was not cancelled
abbrev pub is_pending : (opened cancelled : List (ℕ × ℕ)) → ℕ × ℕ → Bool
is_pending opened cancelled c = nat_lt 0 c.1 && ((last_in c.0 opened == c.1) && (times c cancelled == 0))
