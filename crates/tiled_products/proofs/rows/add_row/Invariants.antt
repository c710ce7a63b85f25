-- After s turns the tile holds what the first s bits give. Assumes nothing.
use mathlib.Core.Path.{◌≡◌}
use Rattle.base.specs.Seq.{tabulate}
use Rattle.tiles.specs.Tiling.{by_bits}
use Rattle.tiled_products.proofs.rows.add_row.Given as goal

abbrev pub invariant-loop-s : goal.invariant-loop-s
invariant-loop-s g l = l.sum ≡ tabulate g.row.TILE (by_bits g.row.TILE l.groups l.table l.picks l.i l.s)
