-- An early yes says nothing of rows and columns; at each no they were found to be at most 32. Assumes nothing.
use mathlib.Core.Bool.{true≢false}
use Prim.Native.Nat.{ℕ, ◌+◌, ◌*◌, ◌≤◌}
use native.Mathlib.Nat.{mul-le-mul}
use native.Mathlib.Omega.{arith}
use Rattle.tiled_products.proofs.prefers_rows.Goals as goal

-- a product of numbers that are not large
small : (m n x y : ℕ) → m ≤ x → n ≤ y → m * n ≤ x * y
small m n x y hm hn = mul-le-mul hm hn

pub returns-then-width-gt32 : goal.returns-then-width-gt32
returns-then-width-gt32 c = λ e. absurd (true≢false e)

pub returns-then-rows-gt32 : goal.returns-then-rows-gt32
returns-then-rows-gt32 c = λ e. absurd (true≢false e)

pub returns-then-rows-lt2 : goal.returns-then-rows-lt2
returns-then-rows-lt2 c = λ e. absurd (true≢false e)

pub returns-then-b-gt128 : goal.returns-then-b-gt128
returns-then-b-gt128 c = λ e. (omega arith, omega arith)

pub overflow_mul-result : goal.overflow_mul-result
overflow_mul-result c = omega (arith, small c.args.rows c.args.width 32 32 (omega arith) (omega arith))

pub overflow_add-result : goal.overflow_add-result
overflow_add-result c = omega arith

pub overflow_mul-result-2 : goal.overflow_mul-result-2
overflow_mul-result-2 c =
    let s = c.args in
    omega (arith, small (s.rows * s.width) (s.b + 48) 1024 176 (small s.rows s.width 32 32 (omega arith) (omega arith)) (omega arith))

pub returns : goal.returns
returns c = λ e. (omega arith, omega arith)
