-- The count of one bits is the size, and at most 32. Assumes nothing.
use mathlib.Core.Path.{refl}
use Rattle.params.specs.Nodes.{size}
use Rattle.params.proofs.NodeSet.size.Goals as goal

pub returns : goal.returns
unfolding size
returns c = refl
