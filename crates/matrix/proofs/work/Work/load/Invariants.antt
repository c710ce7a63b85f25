-- After so many turns the first rows are those of [m | 1], and the rest is still zero. Assumes nothing.
use Rattle.std.proofs.Common.{◌≡◌, length}
use Rattle.matrix.proofs.Loading.{LoadedBelow, Going}
use Rattle.matrix.proofs.work.Work.load.Given as goal

abbrev pub invariant-loop-i : goal.invariant-loop-i
invariant-loop-i l =
    Going l.initial.self.side l.m (length l.yielded) l.i-iterator × (l.self.side ≡ l.initial.self.side)
    × LoadedBelow l.initial.self.side l.m (length l.yielded) l.self.rows
