use Prim.Native.Nat.{◌+◌, ◌*◌, ◌≤◌}
use native.Mathlib.Omega.{arith}
use lib.ListN.{length}
use Rattle.products.specs.Blocks.{Fits}
use Rattle.products.proofs.Laws.{nothing-added}
use Rattle.products.proofs.RowByRow.{part-inside, row-added, rows-added}
use Rattle.products.proofs.Spanning.{spanned-none}
use Rattle.products.proofs.Stretches.{stretch-ends, length-stretch}
use Rattle.products.proofs.add_rows.Goals.{After-from}
use Rattle.products.proofs.add_rows.Goals as goal

pub returns-then-not-fits : goal.returns-then-not-fits
returns-then-not-fits c = nothing-added _ _ _ _ _ _ _ (c.fits.ensures.fails c.if-not-fits.true)

pub loop-i-init : goal.loop-i-init
loop-i-init c = spanned-none _ _ _ _ _ _

-- the lent parts end within out and coeffs
module _ (c : After-from) where
  fitting : let s = c.args in Fits s.b s.stride s.targets.now s.places.now (length s.src.now) (length s.coeffs.now) (length s.out.now)
  fitting = c.fits.ensures.holds c.if-not-fits.false

  out-end : let s = c.args in c.from.result * s.b + s.b ≤ length c.loop-i.out
  out-end =
      let b = c.args.b in
      omega (arith, stretch-ends b 0 b c.args.targets.now c.from.ensures c.loop-i.invariant.same (omega arith) (omega arith) fitting.target)

  row-end : let s = c.args in c.loop-i.i * s.stride + length s.places.now ≤ length s.coeffs.now
  row-end = fitting.row c.loop-i.i (omega arith)

pub overflow_mul-at : goal.overflow_mul-at
overflow_mul-at c = omega (arith, out-end c)

pub overflow_add-end : goal.overflow_add-end
overflow_add-end c = omega (arith, out-end c)

pub overflow_mul-row : goal.overflow_mul-row
overflow_mul-row c = omega (arith, row-end c)

pub overflow_add-stop : goal.overflow_add-stop
overflow_add-stop c = omega (arith, row-end c)

pub slice_bounds-accumulate-end : goal.slice_bounds-accumulate-end
slice_bounds-accumulate-end c = omega (arith, out-end c)

pub slice_bounds-accumulate-end-in-loop-i : goal.slice_bounds-accumulate-end-in-loop-i
slice_bounds-accumulate-end-in-loop-i c = omega (arith, row-end (goal.at.slice_bounds-accumulate-end-in-loop-i c).After-from)

pub accumulate-requires : goal.accumulate-requires
accumulate-requires c =
    let a = (goal.at.accumulate-requires c).After-from in
    let l = c.loop-i in
    record {
      places_in_bounds = omega (arith, length-stretch (l.i * c.args.stride) (length c.args.places.now) c.args.coeffs.now (row-end a));
      inside = part-inside c.args.b c.from.result _ c.args.places.now l.out (out-end a) (fitting a).block;
    }

pub loop-i-preserved : goal.loop-i-preserved
loop-i-preserved c =
    let w = (goal.at.loop-i-preserved c).After-from in
    let l = c.loop-i in
    let a = c.accumulate in
    row-added _ _ _ _ _ _ _ l.i c.from.result l.out a.new.dst c.from.ensures (out-end w) a.ensures l.invariant

pub returns : goal.returns
returns c = rows-added _ _ _ _ _ _ _ c.loop-i.i _ (c.fits.ensures.holds c.if-not-fits.false) (omega arith) c.loop-i.invariant
