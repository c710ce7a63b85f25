-- Up to the node last passed, the nodes are listed. Assumes nothing.
use Rattle.params.proofs.Words.{Walked}
use Rattle.params.proofs.NodeSet.list.Given as goal

abbrev pub invariant-loop-place : goal.invariant-loop-place
invariant-loop-place l = Walked l.fn.self.0 l.initial.place-items l.place-items l.place-index l.walk.passed l.walk.rest
