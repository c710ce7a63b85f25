use mathlib.Core.Path.{refl, sym}
use native.Mathlib.Omega.{arith}
use lib.Seq.{length-take-le}
use Rattle.placing.proofs.Turns.{listed, places-most, one_each, cleared_ends, written_none, clear-turn, clear-done, clear-idle}
use Rattle.placing.proofs.clear_blocks.Goals as goal

pub returns-then-not-has_blocks : goal.returns-then-not-has_blocks
returns-then-not-has_blocks c = clear-idle _ _ _ (λ ok. c.has_blocks.ensures.fails c.if-not-has_blocks.true ok)

-- the set has no more nodes than there are places
pub slice_bounds-places-end : goal.slice_bounds-places-end
slice_bounds-places-end c = places-most (listed (omega arith) c.size-count.ensures c.places_of.ensures)

pub slice_bounds-place-items-end : goal.slice_bounds-place-items-end
slice_bounds-place-items-end c = sym (length-take-le _ _ (places-most (listed (omega arith) c.size-count.ensures c.places_of.ensures)))

pub loop-place-init : goal.loop-place-init
loop-place-init c = (
  record {
    places = c.places_of.new.out;
    listed = listed (omega arith) c.size-count.ensures c.places_of.ensures;
    items_are = refl;
    inside = c.has_blocks.ensures.holds c.if-not-has_blocks.false;
  },
  written_none _ _ _ _,
)

-- the node's block ends within the codeword
pub overflow_mul-at : goal.overflow_mul-at
overflow_mul-at c = let g = c.loop-place.invariant.0 in omega (arith, cleared_ends g (omega (arith, one_each g)) c.from.ensures)

pub overflow_add-at : goal.overflow_add-at
overflow_add-at c = let g = c.loop-place.invariant.0 in omega (arith, cleared_ends g (omega (arith, one_each g)) c.from.ensures)

pub slice_bounds-clear-end : goal.slice_bounds-clear-end
slice_bounds-clear-end c =
    let g = c.loop-place.invariant.0 in omega (arith, cleared_ends g (omega (arith, one_each g)) c.from.ensures, c.loop-place.invariant.1.same)

pub loop-place-preserved : goal.loop-place-preserved
loop-place-preserved c =
    let g = c.loop-place.invariant.0 in (g, clear-turn g (omega (arith, one_each g)) c.from.ensures c.loop-place.invariant.1 c.clear.ensures)

pub returns : goal.returns
returns c = let g = c.loop-place.invariant.0 in clear-done g (omega (arith, one_each g)) c.loop-place.invariant.1
