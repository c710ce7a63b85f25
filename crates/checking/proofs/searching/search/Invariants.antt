-- At each turn so many sets come before the set as were tried, and none of them serves. Assumes nothing.
use lib.ListN.{length}
use Rattle.checking.proofs.Search.{Searching}
use Rattle.checking.proofs.searching.search.Given as goal

abbrev pub invariant-loop-tried : goal.invariant-loop-tried
invariant-loop-tried l = Searching l.a l.codeword l.budget (length l.fresh) l.probes l.set.0 l.tried
