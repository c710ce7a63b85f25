-- After i turns the first i nodes' blocks are 00, and the blocks outside the set are as they were. Assumes nothing.
use lib.ListN.{length}
use Rattle.placing.proofs.Turns.{Clearing, Written}
use Rattle.placing.proofs.clear_blocks.Given as goal

abbrev pub invariant-loop-place : goal.invariant-loop-place
invariant-loop-place l =
    Clearing l.b l.fn.set.0 l.count (length l.initial.codeword) l.place-items × Written l.b l.fn.set.0 (λ r p. 0) l.place-index l.initial.codeword l.codeword
