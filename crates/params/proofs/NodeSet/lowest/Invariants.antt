-- Up to the bit last passed, so many nodes are in the set. Assumes nothing.
use Rattle.params.proofs.Words.{Passed}
use Rattle.params.proofs.NodeSet.lowest.Given as goal

abbrev pub invariant-loop : goal.invariant-loop
invariant-loop l = Passed l.self.0 l.counter l.walk.passed l.walk.rest
