-- What the call `invert` answers. Assumes nothing.
use Rattle.std.specs.Prelude.{ℕ}

pub data Inversion : Type 0 where
  Inverted : Inversion
  -- The matrix has no inverse. This column, counted from 1, is the first that is a sum of multiples of those before it; a column of 00 counts.
  Singular : ℕ → Inversion
  -- The first question whose answer is no: 16 or 6.
  Refused : ℕ → Inversion
