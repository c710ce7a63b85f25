-- After `at` turns so many nodes have their own serials, or 0 behind the last. Assumes nothing.
use lib.ListN.{get_or}
use Rattle.base.specs.Parts.{Filled}
use Rattle.serials.proofs.hand_on.Given as goal

abbrev pub invariant-loop-at : goal.invariant-loop-at
invariant-loop-at l = Filled (λ j. get_or l.serials j 0) l.at l.initial.out l.out
