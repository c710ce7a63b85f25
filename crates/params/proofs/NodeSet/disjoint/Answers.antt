-- By definition. Assumes nothing.
use mathlib.Core.Path.{refl}
use Rattle.params.specs.Nodes.{disjoint}
use Rattle.params.proofs.NodeSet.disjoint.Goals as goal

pub returns : goal.returns
unfolding disjoint
returns c = refl
