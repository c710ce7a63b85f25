-- After each point the product of the factors so far is there, as far as it goes. Assumes nothing.
use Rattle.coefficients.specs.Working.{Lowest}
use Rattle.coefficients.proofs.reading.multiply_out.Given as goal

abbrev pub invariant-loop-x : goal.invariant-loop-x
invariant-loop-x l = Lowest l.points l.x-index l.product
