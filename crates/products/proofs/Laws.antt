-- A block within a slice, and a product that does not fit. Assumes nothing.
use mathlib.Core.Path.{refl}
use mathlib.Core.List.{List}
use Prim.Native.Nat.{ℕ, suc, ◌*◌, ◌≤◌, ◌<◌}
use native.Mathlib.Nat.{mul-le-mul_right}
use native.Mathlib.Omega.{arith}
use lib.ListN.{length}
use Rattle.products.specs.Blocks.{Fits, Added}

-- place p of n blocks of b bytes names one of them
pub block_inside : (b n p src : ℕ) → p < n → n * b ≤ src → suc p * b ≤ src
block_inside b n p src h k = omega (arith, mul-le-mul_right b h)

-- where a product does not fit, it is added by writing nothing
pub nothing-added : (b stride : ℕ) (src targets places coeffs old : List ℕ) → (Fits b stride targets places (length src) (length coeffs) (length old) → ⊥)
    → Added b stride src targets places coeffs old old
nothing-added b stride src targets places coeffs old ne = record { same = refl; written = λ f. absurd (ne f); kept = λ other. refl }
