-- The sum, held at the largest usize. Assumes nothing.
use native.Mathlib.Omega.{arith}
use Rattle.params.specs.Params.{working}
use Rattle.params.proofs.Params.working.Goals as goal

pub returns : goal.returns
unfolding working
returns c = omega arith
