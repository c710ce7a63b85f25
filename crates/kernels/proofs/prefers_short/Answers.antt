-- Few rows of few bytes: their product does not overflow. Assumes nothing.
use Prim.Native.Nat.{ℕ, ◌*◌, ◌^◌, ◌≤◌, ◌<◌}
use native.Mathlib.Nat.{mul-le-mul_right}
use native.Mathlib.Omega.{arith}
use Rattle.kernels.proofs.prefers_short.Goals as goal

small : (rows b : ℕ) → rows ≤ 8 → b ≤ 512 → rows * b < 2 ^ 64
small rows b hr hb = omega (arith, mul-le-mul_right b hr)

pub overflow_mul-result : goal.overflow_mul-result
overflow_mul-result c = record { fits = small _ _ (omega arith) (omega arith) }
