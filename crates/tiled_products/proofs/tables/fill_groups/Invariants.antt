-- After g turns the first g groups have their tables. Assumes nothing.
use Rattle.tiles.specs.Tiling.{Tabled}
use Rattle.tiled_products.proofs.tables.fill_groups.Given as goal

abbrev pub invariant-loop-g : goal.invariant-loop-g
invariant-loop-g g l = Tabled g.row.TILE l.b l.at l.w l.size l.src l.places l.g l.initial.table l.table
