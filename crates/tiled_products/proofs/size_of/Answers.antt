-- One group less than there are is what n - 1 holds of fives. Assumes nothing.
use mathlib.Core.Path.{ap₂}
use Prim.Native.Nat.{ℕ, ◌/◌}
use native.Mathlib.Omega.{arith}
use Rattle.tiled_products.proofs.size_of.Goals as goal

pub returns : goal.returns
returns c = ap₂ (λ (x y : ℕ). x / y) (omega (arith, c.requires.1)) c.requires.1
