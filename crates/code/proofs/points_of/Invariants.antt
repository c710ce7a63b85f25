-- After so many turns so many entries are the points of the list's nodes. Assumes nothing.
use lib.ListN.{get_or}
use Rattle.base.specs.Parts.{Filled}
use Rattle.code.specs.Code.{point}
use Rattle.code.proofs.points_of.Given as goal

abbrev pub invariant-loop-place : goal.invariant-loop-place
invariant-loop-place l = Filled (λ i. point (get_or l.initial.place-items i 0)) l.place-index l.initial.place-items l.place-items
