use Prim.Native.Nat.{◌+◌, ◌*◌, ◌≤◌}
use native.Mathlib.Omega.{arith}
use lib.ListN.{length}
use Rattle.products.proofs.Spanning.{spanned-none}
use Rattle.products.proofs.Stretches.{stretch-ends}
use Rattle.tiles.proofs.Spans.{row-spanned}
use Rattle.tiled_products.proofs.rows.add_tile_rows.Goals as goal

pub loop-i-init : goal.loop-i-init
loop-i-init g c = spanned-none _ _ _ _ _ _

-- the span ends within out
pub loop-i-preserved : goal.loop-i-preserved
loop-i-preserved g c =
    let a = c.args in
    let l = c.loop-i in
    let fit = c.requires.w_bound in
    let inside : c.from.result * a.b + a.at + a.w ≤ length l.out =
    stretch-ends a.b a.at a.w a.targets.now c.from.ensures l.invariant.same fit.0 (omega arith) c.requires.inside in
    row-spanned _ _ _ _ _ _ fit.0 g.row.TILE fit.1 l.i c.from.result l.out _ c.from.ensures inside c.add_row.ensures l.invariant
