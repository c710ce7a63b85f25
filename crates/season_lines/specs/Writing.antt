-- What the functions behind the line writer promise. Assumes nothing.
use Rattle.std.specs.Prelude.{◌≡◌, List, ◌++◌, ℕ, ◌+◌, length, take, drop}

-- the text stands from `at` on and ends before `next`; all else is as it was
pub record TextAt (text : List ℕ) (at : ℕ) (old : List ℕ) (next : ℕ) (new : List ℕ) : Type 0 where
  pub ends : next ≡ at + length text
  pub bytes : new ≡ take at old ++ text ++ drop (at + length text) old
