-- After i turns the first i rows are written. Assumes nothing.
use Rattle.matrix.proofs.Loading.{StoredBelow}
use Rattle.matrix.proofs.work.Work.store.Given as goal

abbrev pub invariant-loop-i : goal.invariant-loop-i
invariant-loop-i l = StoredBelow l.side l.self.rows l.i l.out
