-- What is asked of a list of points. Assumes nothing.
use Rattle.std.specs.Prelude.{◌≡◌, List, ℕ, ◌≤◌, ◌<◌, length, get_or}

-- x is one of the first n points of the list
abbrev pub Among : ℕ → List ℕ → ℕ → Type 0
Among n points x = (i : ℕ) × (i < n) × (get_or points i 0 ≡ x)

-- each of the first n points of the list is at most this
abbrev pub AtMost : ℕ → ℕ → List ℕ → Type 0
AtMost most n points = (i : ℕ) → i < n → get_or points i 0 ≤ most

-- x is not 00 and none of the points
pub record New (points : List ℕ) (x : ℕ) : Type 0 where
  pub nonzero : x ≡ 0 → ⊥
  pub other : Among (length points) points x → ⊥
