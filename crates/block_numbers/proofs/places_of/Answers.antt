use mathlib.Core.Path.{sym}
use native.Mathlib.Omega.{arith}
use lib.Seq.{length-take-le}
use Rattle.params.proofs.Placing.{list-fits, node-positive, places-told}
use Rattle.block_numbers.proofs.places_of.Goals as goal

pub slice_bounds-place-items-end : goal.slice_bounds-place-items-end
slice_bounds-place-items-end c = list-fits _ (omega arith) _ _ _ c.list-count.ensures c.list-count.auto.out

pub slice_bounds-place-items-end-2 : goal.slice_bounds-place-items-end-2
slice_bounds-place-items-end-2 c = sym (length-take-le _ _ (list-fits _ (omega arith) _ _ _ c.list-count.ensures c.list-count.auto.out))

pub overflow_sub-place : goal.overflow_sub-place
overflow_sub-place c =
    let l = c.loop-place in
    let n = c.list-count in
    let full = length-take-le n.result n.new.out (list-fits _ (omega arith) _ _ _ n.ensures n.auto.out) in
    omega (arith, l.invariant.rest l.place-index (omega arith), node-positive _ (omega arith) _ _ _ n.ensures l.place-index (omega (arith, full)))

pub returns : goal.returns
returns c = places-told _ (omega arith) _ _ _ c.list-count.ensures _ _ c.list-count.auto.out c.loop-place-test.false c.loop-place.invariant
