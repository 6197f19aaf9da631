-- A call that is under way on a machine.
use Rattle.interp.proofs.Words.{Caller, Contents, HostCall, length, List, Paused, RunIsPaused, SideTable, Store, take, take-append_seam, Value, ℕ, ◌++◌, ◌≡◌}

-- the same of an equal module, equal tables and equal callers
module _ {H : Type 0} (moves : H → HostCall → H → Type 0) (m m' : Contents) (ts ts' : List SideTable) (fs fs' : List Caller) (em : m ≡ m') (et : ts ≡ ts') (ef : fs ≡ fs') where
  pub paused_in : (s t : Store) (before after : H) (args : List Value) (fuel : ℕ) (paused : Paused) (slots : List ℕ)
      → RunIsPaused m ts moves s before args fuel paused slots fs t after → RunIsPaused m' ts' moves s before args fuel paused slots fs' t after
  paused_in s t before after args fuel paused slots k =
      rw (ef, et, em) at k

-- the front of a list of two parts
pub take_seam : {A : Type 0} (n : ℕ) (xs ys : List A) → length xs ≡ n → take n (xs ++ ys) ≡ xs
take_seam n xs ys e = rw e at (take-append_seam xs ys)
