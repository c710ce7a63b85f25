-- After i turns the first i rows have their span added to their targets. Assumes nothing.
use Rattle.products.specs.Blocks.{Spanned}
use Rattle.tiles.specs.Tiling.{by_bits}
use Rattle.tiled_products.proofs.rows.add_tile_rows.Given as goal

abbrev pub invariant-loop-i : goal.invariant-loop-i
invariant-loop-i g l = Spanned l.b l.at l.w l.targets (λ k. by_bits g.row.TILE l.groups l.table l.picks k 8) l.i l.initial.out l.out
