-- The points of a set's nodes, in rising order of the nodes: what the mathematics below the code is told of a set. Assumes nothing.
use Rattle.std.specs.Prelude.{◌≡◌, List, ◌++◌, ℕ, length, get_or, drop}
use Rattle.base.specs.Seq.{tabulate}
use Rattle.params.specs.Nodes.{size, listed}
use Rattle.code.specs.Code.{point}

-- The point of the set's node i, counted from 0 in rising order.
abbrev pub point_at : ℕ → ℕ → ℕ
point_at s i = point (get_or (listed s) i 0)

-- The points of all its nodes.
unfoldable pub points_of : ℕ → List ℕ
points_of s = tabulate (size s) (point_at s)

-- The points of the set's nodes stand at the front of new, and behind them what old had; the answer is their number. Where old has not 32 places, new is old,
-- and the answer is 0.
pub record Pointing (s : ℕ) (old : List ℕ) (answer : ℕ) (new : List ℕ) : Type 0 where
  pub written : length old ≡ 32 → new ≡ points_of s ++ drop (size s) old
  pub counted : length old ≡ 32 → answer ≡ size s
  pub kept : (length old ≡ 32 → ⊥) → (new ≡ old) × (answer ≡ 0)
