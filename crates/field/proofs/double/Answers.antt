-- The code is `twice`, which is 02·x. Assumes nothing.
use native.Mathlib.Omega.{arith}
use Rattle.field.proofs.Doubling.{twice, twice-is}
use Rattle.field.proofs.double.Goals as goal

pub returns : goal.returns
unfolding twice
returns c = twice-is c.args.x (omega arith)
