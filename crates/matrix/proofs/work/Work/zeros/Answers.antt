use mathlib.Core.Path.{refl}
use Rattle.std.proofs.Common.{arith}
use Rattle.matrix.proofs.Loading.{zero-grid}
use Rattle.matrix.proofs.work.Work.zeros.Goals as goal

pub invariant_of-result : goal.invariant_of-result
invariant_of-result c = record { some = c.requires.0; fits = c.requires.1; bytes = λ i k. omega (arith, zero-grid 32 64 i k) }

pub returns : goal.returns
returns c = (refl, zero-grid 32 64)
