-- After j turns the first j entries are written. Assumes nothing.
use lib.ListN.{get_or}
use Rattle.base.specs.Parts.{Filled}
use Rattle.coefficients.specs.Working.{same}
use Rattle.coefficients.proofs.completing.fill_unit.Given as goal

abbrev pub invariant-loop-j : goal.invariant-loop-j
invariant-loop-j l = Filled (λ o. same (get_or l.at o 0) l.target) l.j l.initial.gains l.gains
