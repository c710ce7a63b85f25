use mathlib.Core.Path.{sym}
use native.Mathlib.Omega.{arith}
use lib.Seq.{length-take-le}
use Rattle.params.proofs.Placing.{list-fits}
use Rattle.code.proofs.Points.{points-told}
use Rattle.code.proofs.points_of.Goals as goal

pub slice_bounds-place-items-end : goal.slice_bounds-place-items-end
slice_bounds-place-items-end c = list-fits _ (omega arith) _ _ _ c.list-count.ensures c.list-count.auto.out

pub slice_bounds-place-items-end-2 : goal.slice_bounds-place-items-end-2
slice_bounds-place-items-end-2 c = sym (length-take-le _ _ (list-fits _ (omega arith) _ _ _ c.list-count.ensures c.list-count.auto.out))

pub returns : goal.returns
returns c = points-told _ (omega arith) _ _ _ c.list-count.ensures _ _ c.list-count.auto.out c.loop-place-test.false c.loop-place.invariant
