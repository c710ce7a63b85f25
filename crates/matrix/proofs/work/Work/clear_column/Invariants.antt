-- After i turns column j is clear in the first i rows, and row j is as it was copied. Assumes nothing.
use Rattle.std.proofs.Common.{◌≡◌}
use Rattle.matrix.proofs.RowOperations.{ClearedBelow}
use Rattle.matrix.proofs.work.Work.clear_column.Given as goal

abbrev pub invariant-loop-i : goal.invariant-loop-i
invariant-loop-i l = (l.self.side ≡ l.initial.self.side) × ClearedBelow l.initial.self.side l.j l.i l.initial.self.rows l.self.rows
