-- The first four questions are another gate's. Assumes nothing.
use mathlib.Core.List.{[], ◌∷◌}
use Rattle.params.specs.Params.{shape_of}
use Rattle.gates.specs.Gates.{shape_asked, block_asked}
use Rattle.gates.proofs.Answers.{refused, passed}
use Rattle.gates.proofs.params_gate.Goals as goal

pub returns-in_err-shape_gate : goal.returns-in_err-shape_gate
returns-in_err-shape_gate c =
    let a = c.args.a in refused (shape_asked 0 (shape_of a)) (block_asked a ∷ []) _ _ c.from_residual.ensures.1 (rw c.shape.ensures at c.in_err-shape_gate.ensures)

pub returns : goal.returns
returns c =
    let a = c.args.a in passed (shape_asked 0 (shape_of a)) (block_asked a ∷ []) tt (rw c.shape.ensures at c.in_ok-shape_gate.ensures) c.put.ensures
