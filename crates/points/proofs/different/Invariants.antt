-- After i turns none of the first i points is 00, none of them is listed before, and none exceeds `most`. Assumes nothing.
use Rattle.points.specs.Lists.{AtMost}
use Rattle.points.proofs.Distinct.{Apart}
use Rattle.points.proofs.different.Given as goal

abbrev pub invariant-loop-i : goal.invariant-loop-i
invariant-loop-i l = Apart l.i l.points × AtMost l.most l.i l.points
