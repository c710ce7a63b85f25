-- After so many turns the first nodes have fresh's blocks, and the blocks outside the set are as they were. Assumes nothing.
use Prim.Native.Nat.{ℕ}
use lib.ListN.{length}
use Rattle.base.specs.Seq.{cell}
use Rattle.placing.proofs.Turns.{Written}
use Rattle.placing.proofs.Walk.{Going}
use Rattle.placing.proofs.put_blocks.Given as goal

abbrev pub invariant-loop-place : goal.invariant-loop-place
invariant-loop-place l =
    (goal.iterator-loop-place).can_next l.place-iterator × (goal.iterator-loop-place).is_finite l.place-iterator
    × ((i : ℕ) × Going l.b l.fn.set.0 l.count (length l.initial.codeword) l.fresh i l.place-iterator
    × Written l.b l.fn.set.0 (cell l.b l.fresh) i l.initial.codeword l.codeword)
