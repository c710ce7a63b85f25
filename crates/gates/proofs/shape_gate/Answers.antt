-- Four questions, one after the other; the sums of the fourth are small after the first three. Assumes nothing.
use mathlib.Core.Bool.{◌&&◌}
use mathlib.Core.List.{[], ◌∷◌}
use native.Mathlib.Omega.{arith}
use lib.Dec.{leb}
use Rattle.base.proofs.Questions.{both-known, both-le}
use Rattle.gates.proofs.Answers.{refused, passed, yes}
use Rattle.gates.proofs.shape_gate.Goals as goal

pub returns-in_err-put : goal.returns-in_err-put
returns-in_err-put c = refused (_ ∷ []) _ _ _ c.from_residual.ensures.1 c.in_err-put.ensures

pub returns-in_err-put-2 : goal.returns-in_err-put-2
returns-in_err-put-2 c = passed (_ ∷ []) _ tt c.in_ok-put.ensures (refused (_ ∷ []) _ _ _ c.from_residual-in_err-put-2.ensures.1 c.in_err-put-2.ensures)

pub returns-in_err-put-3 : goal.returns-in_err-put-3
returns-in_err-put-3 c =
    passed (_ ∷ []) _ tt c.in_ok-put.ensures
    (passed (_ ∷ []) _ tt c.in_ok-put-2.ensures (refused (_ ∷ []) _ _ _ c.from_residual-in_err-put-3.ensures.1 c.in_err-put-3.ensures))

pub overflow_add-t : goal.overflow_add-t
overflow_add-t c =
    let t = c.args.t in
    let n = both-le 1 t.n t.n 32 (yes _ tt c.in_ok-put.ensures) in
    let rw = both-le t.r t.n t.w t.n (yes _ tt c.in_ok-put-2.ensures) in
    let k = both-le 1 t.k t.k t.r (both-known (leb 1 t.k && leb t.k t.r) (leb t.k t.w) (yes _ tt c.in_ok-put-3.ensures)).0 in
    omega (arith, n.1, rw.0, k.1)

pub overflow_add-t-2 : goal.overflow_add-t-2
overflow_add-t-2 c =
    let t = c.args.t in
    let n = both-le 1 t.n t.n 32 (yes _ tt c.in_ok-put.ensures) in
    let rw = both-le t.r t.n t.w t.n (yes _ tt c.in_ok-put-2.ensures) in
    omega (arith, n.1, rw)

pub returns : goal.returns
returns c =
    passed (_ ∷ []) _ tt c.in_ok-put.ensures
    (passed (_ ∷ []) _ tt c.in_ok-put-2.ensures (passed (_ ∷ []) _ tt c.in_ok-put-3.ensures c.put-4.ensures))
