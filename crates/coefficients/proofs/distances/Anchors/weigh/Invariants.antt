-- After i turns the first i weights are found. Assumes nothing.
use Rattle.coefficients.specs.Working.{Weighed}
use Rattle.coefficients.proofs.distances.Anchors.weigh.Given as goal

abbrev pub invariant-loop-i : goal.invariant-loop-i
invariant-loop-i l = Weighed l.self.e l.self.at.now l.i l.weights
