-- The questions on the parameters are another gate's; then the lengths and the sets. Assumes nothing.
use mathlib.Core.List.{[], ◌∷◌}
use Rattle.gates.specs.Gates.{params_asked, repair_gate}
use Rattle.gates.proofs.Valid.{valid-of, n-fits}
use Rattle.gates.proofs.Answers.{refused, passed}
use Rattle.gates.proofs.repair_gate.Goals as goal

pub returns-in_err-params_gate : goal.returns-in_err-params_gate
unfolding repair_gate
returns-in_err-params_gate c = refused (params_asked c.args.a) _ _ _ c.from_residual.ensures.1 c.in_err-params_gate.ensures

pub overflow_mul-a : goal.overflow_mul-a
overflow_mul-a c = n-fits (valid-of c.args.a c.in_ok-params_gate.ensures)

pub returns-in_err-put : goal.returns-in_err-put
unfolding repair_gate
returns-in_err-put c =
    passed (params_asked c.args.a) _ tt c.in_ok-params_gate.ensures (refused (_ ∷ []) _ _ _ c.from_residual-in_err-put.ensures.1 c.in_err-put.ensures)

pub returns-in_err-put-2 : goal.returns-in_err-put-2
unfolding repair_gate
returns-in_err-put-2 c =
    rw (← c.within.ensures, ← c.within-2.ensures)
    (passed (params_asked c.args.a) _ tt c.in_ok-params_gate.ensures
    (passed (_ ∷ []) _ tt c.in_ok-put.ensures (refused (_ ∷ []) _ _ _ c.from_residual-in_err-put-2.ensures.1 c.in_err-put-2.ensures)))

pub returns-in_err-put-3 : goal.returns-in_err-put-3
unfolding repair_gate
returns-in_err-put-3 c =
    rw (← c.within.ensures, ← c.within-2.ensures, ← c.size.ensures)
    (passed (params_asked c.args.a) _ tt c.in_ok-params_gate.ensures
    (passed (_ ∷ []) _ tt c.in_ok-put.ensures
    (passed (_ ∷ []) _ tt c.in_ok-put-2.ensures (refused (_ ∷ []) _ _ _ c.from_residual-in_err-put-3.ensures.1 c.in_err-put-3.ensures))))

pub returns : goal.returns
unfolding repair_gate
returns c =
    rw (← c.within.ensures, ← c.within-2.ensures, ← c.size.ensures, ← c.disjoint.ensures)
    (passed (params_asked c.args.a) _ tt c.in_ok-params_gate.ensures
    (passed (_ ∷ []) _ tt c.in_ok-put.ensures (passed (_ ∷ []) _ tt c.in_ok-put-2.ensures (passed (_ ∷ []) _ tt c.in_ok-put-3.ensures c.put-4.ensures))))
