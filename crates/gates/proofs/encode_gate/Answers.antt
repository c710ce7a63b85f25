-- The questions on the parameters are another gate's; then the lengths. Assumes nothing.
use Rattle.gates.specs.Gates.{params_asked, encode_gate}
use Rattle.gates.proofs.Valid.{valid-of, k-fits, n-fits, slack-fits}
use Rattle.gates.proofs.Answers.{refused, passed}
use Rattle.gates.proofs.encode_gate.Goals as goal

pub returns-in_err-params_gate : goal.returns-in_err-params_gate
unfolding encode_gate
returns-in_err-params_gate c = refused (params_asked c.args.a) _ _ _ c.from_residual.ensures.1 c.in_err-params_gate.ensures

pub overflow_mul-a : goal.overflow_mul-a
overflow_mul-a c = k-fits (valid-of c.args.a c.in_ok-params_gate.ensures)

pub overflow_mul-slack_parts : goal.overflow_mul-slack_parts
overflow_mul-slack_parts c = rw c.slack_parts.ensures (slack-fits (valid-of c.args.a c.in_ok-params_gate.ensures))

pub overflow_mul-a-2 : goal.overflow_mul-a-2
overflow_mul-a-2 c = n-fits (valid-of c.args.a c.in_ok-params_gate.ensures)

pub returns : goal.returns
unfolding encode_gate
returns c = rw (← c.slack_parts.ensures) (passed (params_asked c.args.a) _ tt c.in_ok-params_gate.ensures c.put.ensures)
