-- After p turns the first p bytes are those of src; where src ends first, the bytes behind its end stay. Assumes nothing.
use lib.ListN.{get_or}
use Rattle.base.specs.Parts.{Filled}
use Rattle.blocks.proofs.copy_block.Given as goal

abbrev pub invariant-loop-p : goal.invariant-loop-p
invariant-loop-p l = Filled (λ q. get_or l.src q (get_or l.initial.byte-items q 0)) l.p l.initial.byte-items l.byte-items
