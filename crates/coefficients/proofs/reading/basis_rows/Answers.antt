-- The product of all factors, as far as it is wanted, and a column for each point. Assumes nothing.
use native.Mathlib.Omega.{arith}
use Rattle.base.proofs.Buffers.{zeros-front}
use Rattle.coefficients.proofs.reading.basis_rows.Goals as goal

pub multiply_out-requires-clause-by_index : goal.multiply_out-requires-clause-by_index
multiply_out-requires-clause-by_index c = zeros-front _ 32 (omega (arith, c.requires.few, c.requires.most))
