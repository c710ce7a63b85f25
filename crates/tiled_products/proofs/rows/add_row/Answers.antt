use Rattle.tiles.proofs.Spans.{bits_none, bits-more}
use Rattle.tiled_products.proofs.rows.add_row.Goals as goal

pub loop-s-init : goal.loop-s-init
loop-s-init g c = bits_none g.row.TILE _ _ _ _

pub loop-s-preserved : goal.loop-s-preserved
loop-s-preserved g c =
    let l = c.loop-s in
    bits-more g.row.TILE _ _ _ _ l.s _ _ _ l.invariant c.double_tile.ensures c.add_picked.ensures
