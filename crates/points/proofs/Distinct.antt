-- What the loop over a list of points has told so far. Assumes nothing.
use mathlib.Core.Path.{◌≡◌}
use mathlib.Core.List.{List}
use Prim.Native.Nat.{ℕ, ◌<◌}
use lib.ListN.{get_or}
use Rattle.points.specs.Lists.{Among}

-- none of the first n points is 00, and none of them is listed before
pub record Apart (n : ℕ) (points : List ℕ) : Type 0 where
  pub nonzero : Among n points 0 → ⊥
  pub before : (i j : ℕ) → i < j → j < n → get_or points i 0 ≡ get_or points j 0 → ⊥
