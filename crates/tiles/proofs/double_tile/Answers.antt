use native.Mathlib.Omega.{arith}
use Rattle.base.proofs.Filled.{filled-all}
use Rattle.tiles.specs.Tiling.{multiple}
use Rattle.tiles.proofs.double_tile.Goals as goal

pub returns : goal.returns
unfolding multiple
returns c = filled-all _ _ _ _ (omega arith) c.loop-byte.invariant
