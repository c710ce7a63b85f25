-- The questions on the parameters are another gate's, and so are those on the set; between them the lengths, and at the end the serial. Assumes nothing.
use mathlib.Core.List.{[], ◌∷◌}
use Rattle.gates.specs.Gates.{params_asked, update_gate}
use Rattle.gates.proofs.Valid.{valid-of, n-fits, k-fits}
use Rattle.gates.proofs.Answers.{refused, passed}
use Rattle.gates.proofs.update_gate.Goals as goal

pub returns-in_err-params_gate : goal.returns-in_err-params_gate
unfolding update_gate
returns-in_err-params_gate c = refused (params_asked c.args.a) _ _ _ c.from_residual.ensures.1 c.in_err-params_gate.ensures

pub overflow_mul-a : goal.overflow_mul-a
overflow_mul-a c = n-fits (valid-of c.args.a c.in_ok-params_gate.ensures)

pub overflow_mul-a-2 : goal.overflow_mul-a-2
overflow_mul-a-2 c = k-fits (valid-of c.args.a c.in_ok-params_gate.ensures)

pub returns-in_err-put : goal.returns-in_err-put
unfolding update_gate
returns-in_err-put c =
    passed (params_asked c.args.a) _ tt c.in_ok-params_gate.ensures (refused (_ ∷ []) _ _ _ c.from_residual-in_err-put.ensures.1 c.in_err-put.ensures)

pub returns-in_err-set_gate : goal.returns-in_err-set_gate
unfolding update_gate
returns-in_err-set_gate c =
    passed (params_asked c.args.a) _ tt c.in_ok-params_gate.ensures
    (passed (_ ∷ []) _ tt c.in_ok-put.ensures (refused (_ ∷ _ ∷ []) _ _ _ c.from_residual-in_err-set_gate.ensures.1 c.in_err-set_gate.ensures))

pub returns : goal.returns
unfolding update_gate
returns c =
    passed (params_asked c.args.a) _ tt c.in_ok-params_gate.ensures
    (passed (_ ∷ []) _ tt c.in_ok-put.ensures (passed (_ ∷ _ ∷ []) _ tt c.in_ok-set_gate.ensures c.put-2.ensures))
