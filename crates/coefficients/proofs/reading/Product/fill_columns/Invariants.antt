-- After i turns the first i columns are there. Assumes nothing.
use lib.ListN.{length}
use Rattle.coefficients.specs.Working.{BasisRows}
use Rattle.coefficients.proofs.reading.Product.fill_columns.Given as goal

abbrev pub invariant-loop-i : goal.invariant-loop-i
invariant-loop-i l = BasisRows (length l.self.lowest.now) l.self.points.now l.i l.rows
