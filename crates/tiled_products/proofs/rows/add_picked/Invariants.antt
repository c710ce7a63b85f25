-- After g turns the entries of the first g groups are summed, or those of all. Assumes nothing.
use Prim.Native.Nat.{min}
use Rattle.tiles.specs.Tiling.{Gathered}
use Rattle.tiled_products.proofs.rows.add_picked.Given as goal

abbrev pub invariant-loop-g : goal.invariant-loop-g
invariant-loop-g g l = Gathered g.row.TILE (min l.g l.groups) l.table l.picks l.q l.initial.sum l.sum
