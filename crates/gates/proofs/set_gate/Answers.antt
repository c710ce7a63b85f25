-- Two questions, one after the other. Assumes nothing.
use mathlib.Core.List.{[], ◌∷◌}
use Rattle.gates.proofs.Answers.{refused, passed}
use Rattle.gates.proofs.set_gate.Goals as goal

pub returns-in_err-put : goal.returns-in_err-put
returns-in_err-put c = rw (← c.within.ensures) (refused (_ ∷ []) _ _ _ c.from_residual.ensures.1 c.in_err-put.ensures)

pub returns : goal.returns
returns c = rw (← c.within.ensures, ← c.size.ensures) (passed (_ ∷ []) _ tt c.in_ok-put.ensures c.put-2.ensures)
