-- Lengths that the code counts in a usize. Assumes nothing.
use Rattle.std.specs.Prelude.{ℕ, ◌-◌, ◌^◌, min}

-- a number, or the largest usize where it is larger
unfoldable pub capped : ℕ → ℕ
capped n = min n (2 ^ 64 - 1)
