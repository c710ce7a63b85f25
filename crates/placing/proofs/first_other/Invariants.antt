-- After so many turns the first nodes' blocks are fresh's. Assumes nothing.
use Prim.Native.Nat.{ℕ}
use lib.ListN.{length}
use Rattle.placing.proofs.Walk.{Going}
use Rattle.placing.proofs.Comparing.{Passed}
use Rattle.placing.proofs.first_other.Given as goal

abbrev pub invariant-loop-place : goal.invariant-loop-place
invariant-loop-place l =
    (goal.iterator-loop-place).can_next l.place-iterator × (goal.iterator-loop-place).is_finite l.place-iterator
    × ((i : ℕ) × Going l.b l.fn.set.0 l.count (length l.codeword) l.fresh i l.place-iterator × Passed l.b l.fn.set.0 l.codeword l.fresh i)
