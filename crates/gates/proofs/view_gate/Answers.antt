-- The questions of check, then the node's. Assumes nothing.
use Rattle.gates.specs.Gates.{check_gate, view_gate}
use Rattle.gates.proofs.Valid.{check_asked}
use Rattle.gates.proofs.Answers.{refused, passed}
use Rattle.gates.proofs.view_gate.Goals as goal

pub returns-in_err-check_gate : goal.returns-in_err-check_gate
unfolding check_gate view_gate
returns-in_err-check_gate c = let s = c.args in refused (check_asked s.a s.codeword) _ _ _ c.from_residual.ensures.1 c.in_err-check_gate.ensures

pub returns : goal.returns
unfolding check_gate view_gate
returns c = let s = c.args in passed (check_asked s.a s.codeword) _ tt c.in_ok-check_gate.ensures c.node_gate.ensures
