-- The rows of a set-up, over nodes. Assumes nothing.
use Rattle.std.specs.Prelude.{◌≡◌, List, ℕ, suc, ◌*◌, ◌≤◌, length}
use Rattle.base.specs.Seq.{tabulate}
use Rattle.code.specs.Code.{point}
use Rattle.coefficients.specs.Coefficients.{power_rows}

-- a row for each of the nodes 1, .., n: the powers 1, .., m of its point; row j is that of node suc j
unfoldable pub point_powers : ℕ → ℕ → List ℕ
point_powers n m = power_rows m (tabulate n (λ j. point (suc j)))

-- new is these rows; where n exceeds 32, or old has not just their length, nothing is written
pub record EncodesPost (n m : ℕ) (old new : List ℕ) : Type 0 where
  pub written : n ≤ 32 → length old ≡ n * m → new ≡ point_powers n m
  pub kept : ((n ≤ 32) × (length old ≡ n * m) → ⊥) → new ≡ old
