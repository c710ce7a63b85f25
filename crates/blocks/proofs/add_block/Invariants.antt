-- After p turns the first p bytes are the sums, the others as they were; where src ends first, the bytes behind its end stay. Assumes nothing.
use lib.ListN.{get_or}
use Rattle.base.specs.Parts.{Filled}
use Rattle.field.specs.Field.{add}
use Rattle.blocks.proofs.add_block.Given as goal

abbrev pub invariant-loop-p : goal.invariant-loop-p
invariant-loop-p l = Filled (λ q. add (get_or l.initial.byte-items q 0) (get_or l.src q 0)) l.p l.initial.byte-items l.byte-items
