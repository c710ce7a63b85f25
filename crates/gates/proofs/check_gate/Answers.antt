-- The questions on the parameters are another gate's; then the length. Assumes nothing.
use Rattle.gates.specs.Gates.{params_asked, check_gate}
use Rattle.gates.proofs.Valid.{valid-of, n-fits}
use Rattle.gates.proofs.Answers.{refused, passed}
use Rattle.gates.proofs.check_gate.Goals as goal

pub returns-in_err-params_gate : goal.returns-in_err-params_gate
unfolding check_gate
returns-in_err-params_gate c = refused (params_asked c.args.a) _ _ _ c.from_residual.ensures.1 c.in_err-params_gate.ensures

pub overflow_mul-a : goal.overflow_mul-a
overflow_mul-a c = n-fits (valid-of c.args.a c.in_ok-params_gate.ensures)

pub returns : goal.returns
unfolding check_gate
returns c = passed (params_asked c.args.a) _ tt c.in_ok-params_gate.ensures c.put.ensures
