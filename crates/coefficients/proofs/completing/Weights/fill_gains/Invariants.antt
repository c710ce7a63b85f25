-- After t turns the first t rows are found. Assumes nothing.
use lib.ListN.{length, get_or}
use Rattle.base.specs.Parts.{Blocked}
use Rattle.interpolation.specs.Lagrange.{basis_value}
use Rattle.coefficients.proofs.completing.Weights.fill_gains.Given as goal

abbrev pub invariant-loop-t : goal.invariant-loop-t
invariant-loop-t l = Blocked (length l.self.anchors.at.now) (length l.targets) (λ i o. basis_value l.self.anchors.e l.self.anchors.at.now (get_or l.self.anchors.at.now o 0) (get_or l.targets i 0)) l.t l.initial.gains l.gains
