-- After t turns the first t rows have their share. Assumes nothing.
use Rattle.base.specs.Parts.{Blocked}
use Rattle.coefficients.proofs.Shares.{entry}
use Rattle.coefficients.proofs.completing.Gains.add_row_shares.Given as goal

abbrev pub invariant-loop-t : goal.invariant-loop-t
invariant-loop-t l = Blocked l.e l.self.rows (entry l.e l.at l.self.gains.now l.initial.leading) l.t l.initial.leading l.leading
