-- Numbers capped at the largest usize, against what is left of an input, which is less. Assumes nothing.
use mathlib.Core.Path.{◌≡◌}
use Prim.Native.Nat.{ℕ, ◌-◌, ◌^◌, ◌≤◌, ◌<◌}
use native.Mathlib.Omega.{arith}
use Rattle.season_file.specs.Lengths.{capped}

pub capped-over : (n rest : ℕ) → rest < capped n → rest < n
unfolding capped
capped-over n rest h = omega arith

pub capped-within : (n rest : ℕ) → rest < 2 ^ 64 - 1 → capped n ≤ rest → capped n ≡ n
unfolding capped
capped-within n rest small h = omega arith
