-- After g turns the first g groups have the picks of this row. Assumes nothing.
use Rattle.tiles.specs.Tiling.{RowPicked}
use Rattle.tiled_products.proofs.picked.fill_row.Given as goal

abbrev pub invariant-loop-g : goal.invariant-loop-g
invariant-loop-g l = RowPicked l.i l.size l.coeffs l.g l.initial.picks l.picks
