-- The first four questions are another gate's, with 10 more. Assumes nothing.
use Rattle.gates.proofs.Answers.{ten-more}
use Rattle.gates.proofs.new_shape_gate.Goals as goal

pub returns : goal.returns
returns c = ten-more _ _ _ _ _ _ c.shape_gate.ensures c.map_err.ensures.cases
