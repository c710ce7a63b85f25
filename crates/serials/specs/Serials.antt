-- Serials (document 02, 2026-03): "Each trap gets a 32-bit serial .. in a slice of n numbers". Node suc j's serial is number j of the list. A set of nodes is a
-- test on node numbers. Assumes nothing.
use Rattle.std.specs.Prelude.{◌≡◌, Bool, true, false, ◌&&◌, cond, List, ℕ, zero, suc, ◌^◌, ◌<◌, max, ltb, length, get_or}
use Rattle.params.specs.Nodes.{has}

-- what the type of a slice of serials says: each is a number of 32 bits
abbrev pub Words32 : List ℕ → Type 0
Words32 serials = (j : ℕ) → get_or serials j 0 < 2 ^ 32

-- "A trap of W in that choice adds the difference and takes the serial together, only if the serial is above its own": the nodes of W that are reached and whose
-- own serial is below the given one.
abbrev pub takes : (to reached : ℕ) → List ℕ → (serial : ℕ) → ℕ → Bool
takes to reached serials serial zero = false
takes to reached serials serial (suc j) = (has to (suc j) && has reached (suc j)) && ltb (get_or serials j 0) serial

-- "the highest serial in R": the highest of the nodes of 1..n that pass the test; 0 where none does.
unfoldable pub highest : (ℕ → Bool) → List ℕ → ℕ → ℕ
highest f serials zero = 0
highest f serials (suc j) = max (highest f serials j) (cond (f (suc j)) (get_or serials j 0) 0)

-- Of n nodes those that pass the test take the serial, the others keep theirs.
pub record Stamped (n : ℕ) (f : ℕ → Bool) (serial : ℕ) (old new : List ℕ) : Type 0 where
  pub length_is : length new ≡ n
  pub taken : (j : ℕ) → j < n → f (suc j) ≡ true → get_or new j 0 ≡ serial
  pub kept : (j : ℕ) → j < n → f (suc j) ≡ false → get_or new j 0 ≡ get_or old j 0
