-- After some turns the bytes before this turn's are doubled, the others as they were. Assumes nothing.
use lib.ListN.{get_or}
use Rattle.base.specs.Parts.{Filled}
use Rattle.field.specs.Field.{mul}
use Rattle.tiles.proofs.double_tile.Given as goal

abbrev pub invariant-loop-byte : goal.invariant-loop-byte
invariant-loop-byte l = Filled (λ q. mul 2 (get_or l.initial.x q 0)) l.byte-index l.initial.x l.x
