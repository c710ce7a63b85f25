-- After j turns the first j gains are found, each by the exponents of what it is made of. Assumes nothing.
use lib.ListN.{get_or}
use Rattle.base.specs.Parts.{Filled}
use Rattle.interpolation.specs.Lagrange.{basis_value}
use Rattle.coefficients.proofs.completing.Weights.fill_apart.Given as goal

abbrev pub invariant-loop-j : goal.invariant-loop-j
invariant-loop-j l = Filled (λ o. basis_value l.self.anchors.e l.at (get_or l.at o 0) l.target) l.j l.initial.gains l.gains
