-- What the code's refusals say. Assumes nothing.
use Rattle.std.specs.Prelude.{ℕ, Result, Ok, Err}
use Rattle.matrix.specs.Inversion.{Inversion}
use Rattle.matrix.specs.Inversion as answer
use Rattle.matrix.specs.declared.Uninvertible.{Uninvertible}
use Rattle.matrix.specs.declared.Uninvertible.TheVariants.{Side, Lengths, Singular}

-- A refusal's number in document 01 ..
abbrev pub refusal_number : Uninvertible → ℕ
refusal_number Side = 16
refusal_number Lengths = 6
refusal_number (Singular c) = 15

-- .. and what `invert` answers by its result.
abbrev pub inversion : Result (Unit {0}) Uninvertible → Inversion
inversion (Ok u) = answer.Inverted
inversion (Err Side) = answer.Refused 16
inversion (Err Lengths) = answer.Refused 6
inversion (Err (Singular c)) = answer.Singular c
