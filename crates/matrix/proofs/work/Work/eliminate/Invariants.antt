-- After j turns the first j columns are the identity's, and the kernel is that of the start. Assumes nothing.
use Rattle.std.proofs.Common.{◌≡◌}
use Rattle.matrix.specs.Working.{Reduced}
use Rattle.matrix.proofs.work.Work.eliminate.Given as goal

abbrev pub invariant-loop-j : goal.invariant-loop-j
invariant-loop-j l = (l.self.side ≡ l.initial.self.side) × Reduced l.initial.self.side l.j l.initial.self.rows l.self.rows
