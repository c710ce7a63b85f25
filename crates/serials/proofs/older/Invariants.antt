-- The word has a bit for each node from `at` + 1 on. Assumes nothing.
use Rattle.serials.proofs.Laws.{Older}
use Rattle.serials.proofs.older.Given as goal

abbrev pub invariant-loop-at : goal.invariant-loop-at
invariant-loop-at l = Older l.serials l.serial l.at l.word
