-- The product of two square matrices and the identity, by their entries. Assumes nothing.
use Rattle.std.specs.Prelude.{List, cond, ℕ, eqb}
use Rattle.base.specs.Seq.{blocks}
use Rattle.field.specs.Field.{mul}
use Rattle.field.specs.FiniteSum.{sum}
use Rattle.matrix.specs.Matrix.{entry}

-- 1 where the two numbers are the same, else 0
unfoldable pub unit : ℕ → ℕ → ℕ
unit i j = cond (eqb i j) 1 0

unfoldable pub identity : ℕ → List ℕ
identity s = blocks s s unit

-- Row i of m against column j of n.
unfoldable pub product : ℕ → List ℕ → List ℕ → List ℕ
product s m n = blocks s s (λ i j. sum s (λ k. mul (entry s m i k) (entry s n k j)))
