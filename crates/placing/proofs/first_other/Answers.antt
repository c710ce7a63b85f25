use mathlib.Core.Path.{ap}
use mathlib.Core.Bool.{not}
use Prim.Native.Nat.{◌+◌}
use native.Mathlib.Omega.{arith}
use Rattle.params.proofs.Sets.{has-le}
use Rattle.placing.proofs.Turns.{no_room, placeable, at, ends}
use Rattle.placing.proofs.Walk.{going, some_bytes, turned, go_on, ended}
use Rattle.placing.proofs.Comparing.{passed_none, passed-more, passed-all, found}
use Rattle.placing.proofs.first_other.Goals as goal

pub returns-then-not-is_product : goal.returns-then-not-is_product
returns-then-not-is_product c ok = absurd (no_room _ _ _ _ _ _ c.size-count.ensures c.is_product.ensures (ap not c.if-not-is_product.true) ok)

pub returns-then-not-has_blocks : goal.returns-then-not-has_blocks
returns-then-not-has_blocks c ok = absurd (c.has_blocks.ensures.fails c.if-not-has_blocks.true ok.inside)

pub loop-place-init : goal.loop-place-init
loop-place-init c =
    let k = placeable _ c.args.set.0 _ _ _ _ c.size-count.ensures c.is_product.ensures (ap not c.if-not-is_product.false) _ c.has_blocks.ensures
    (ap not c.if-not-has_blocks.false) (omega arith) _ c.places_of.ensures in
    let g =
    going k c.into_iter-place-iterator.ensures.into_iter_gives c.zip-place-items.ensures.first c.zip-place-items.ensures.second c.iter.ensures.rest
    c.chunks_exact.ensures.rest c.chunks_exact.ensures.size in
    ((tt, some_bytes g), tt, (0, g, passed_none _ _ _ _))

-- the node's block ends within the codeword
pub overflow_mul-at : goal.overflow_mul-at
overflow_mul-at c =
    omega (arith, ends (turned c.loop-place.invariant.2.1 (c.in-Some.place, c.in-Some.block) c.next.new.self c.in-Some.ensures.steps c.from.ensures))

pub overflow_add-at : goal.overflow_add-at
overflow_add-at c =
    omega (arith, ends (turned c.loop-place.invariant.2.1 (c.in-Some.place, c.in-Some.block) c.next.new.self c.in-Some.ensures.steps c.from.ensures))

pub slice_bounds-differs-end : goal.slice_bounds-differs-end
slice_bounds-differs-end c =
    ends (turned c.loop-place.invariant.2.1 (c.in-Some.place, c.in-Some.block) c.next.new.self c.in-Some.ensures.steps c.from.ensures)

pub overflow_add-result : goal.overflow_add-result
overflow_add-result c =
    let t = turned c.loop-place.invariant.2.1 (c.in-Some.place, c.in-Some.block) c.next.new.self c.in-Some.ensures.steps c.from.ensures in
    omega (arith, has-le 32 _ _ t.fit.listed.word (at t).0, c.from.ensures)

pub returns-then-differs : goal.returns-then-differs
returns-then-differs c =
    let l = c.loop-place.invariant.2 in
    let t = turned l.1 (c.in-Some.place, c.in-Some.block) c.next.new.self c.in-Some.ensures.steps c.from.ensures in
    found t l.2 _ (omega (arith, c.from.ensures)) (c.differs.ensures.other c.if-differs.true)

pub loop-place-preserved : goal.loop-place-preserved
loop-place-preserved c =
    let l = c.loop-place.invariant.2 in
    let t = turned l.1 (c.in-Some.place, c.in-Some.block) c.next.new.self c.in-Some.ensures.steps c.from.ensures in
    let g = go_on l.1 (c.in-Some.place, c.in-Some.block) c.next.new.self c.in-Some.ensures.steps in
    ((tt, some_bytes g), tt, (l.0 + 1, g, passed-more t l.2 (c.differs.ensures.same c.if-differs.false)))

pub returns : goal.returns
returns c = let l = c.loop-place.invariant.2 in passed-all l.1.fit (ended l.1 c.next.new.self c.in-None.ensures.steps) l.2
