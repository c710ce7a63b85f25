-- A served view's block begins behind the blocks of the nodes before it. Assumes nothing.
use mathlib.Core.Path.{sym}
use native.Mathlib.Omega.{arith}
use Rattle.gates.proofs.Valid.{view-accepted}
use Rattle.jirvents.proofs.Gave.{start_fits}
use Rattle.jirvents.proofs.jirvents_view.Goals as goal

pub overflow_sub-start : goal.overflow_sub-start
overflow_sub-start c = rw c.from.ensures ((view-accepted _ _ _).0 (sym c.in-Ok.ensures)).node_low

pub overflow_mul-start : goal.overflow_mul-start
overflow_mul-start c =
    rw c.from.ensures (record { fits = omega (arith, start_fits _ _ _ ((view-accepted _ _ _).0 (sym c.in-Ok.ensures))) })
