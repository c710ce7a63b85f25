-- The questions on the parameters are another gate's, and so are those on the set; between them the lengths. Assumes nothing.
use mathlib.Core.List.{[], ◌∷◌}
use Rattle.gates.specs.Gates.{params_asked, delta_gate}
use Rattle.gates.proofs.Valid.{valid-of, k-fits, blocks-fit}
use Rattle.gates.proofs.Answers.{refused, passed}
use Rattle.gates.proofs.delta_gate.Goals as goal

pub returns-in_err-params_gate : goal.returns-in_err-params_gate
unfolding delta_gate
returns-in_err-params_gate c = refused (params_asked c.args.a) _ _ _ c.from_residual.ensures.1 c.in_err-params_gate.ensures

pub overflow_mul-a : goal.overflow_mul-a
overflow_mul-a c = k-fits (valid-of c.args.a c.in_ok-params_gate.ensures)

pub overflow_mul-a-2 : goal.overflow_mul-a-2
overflow_mul-a-2 c = blocks-fit (valid-of c.args.a c.in_ok-params_gate.ensures) c.args.a.w (valid-of c.args.a c.in_ok-params_gate.ensures).shape.w_le_n

pub returns-in_err-put : goal.returns-in_err-put
unfolding delta_gate
returns-in_err-put c =
    passed (params_asked c.args.a) _ tt c.in_ok-params_gate.ensures (refused (_ ∷ []) _ _ _ c.from_residual-in_err-put.ensures.1 c.in_err-put.ensures)

pub returns : goal.returns
unfolding delta_gate
returns c = passed (params_asked c.args.a) _ tt c.in_ok-params_gate.ensures (passed (_ ∷ []) _ tt c.in_ok-put.ensures c.set_gate.ensures)
