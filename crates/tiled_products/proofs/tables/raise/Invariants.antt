-- After m turns the entries below half + m are there. Assumes nothing.
use Rattle.tiles.specs.Tiling.{Raised}
use Rattle.tiled_products.proofs.tables.raise.Given as goal

abbrev pub invariant-loop-m : goal.invariant-loop-m
invariant-loop-m g l = Raised g.row.TILE l.half l.m l.tile l.initial.table l.table
