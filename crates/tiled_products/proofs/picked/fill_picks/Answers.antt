use native.Mathlib.Omega.{arith}
use Rattle.tiles.proofs.PickRows.{picked_more}
use Rattle.tiled_products.proofs.picked.fill_picks.Goals as goal

pub loop-i-preserved : goal.loop-i-preserved
loop-i-preserved c =
    let l = c.loop-i in
    picked_more l.i _ _ _ _ _ _ l.picks _ (omega arith) (c.requires.rows l.i (omega arith)) c.fill_row.ensures l.invariant
