-- After i turns the first i rows have their picks. Assumes nothing.
use Rattle.tiles.specs.Tiling.{Picked}
use Rattle.tiled_products.proofs.picked.fill_picks.Given as goal

abbrev pub invariant-loop-i : goal.invariant-loop-i
invariant-loop-i l = Picked l.i l.stride l.coeffs l.width l.groups l.size l.initial.picks l.picks
