-- After some turns the bytes before this turn's are the sums, the others as they were. Assumes nothing.
use lib.ListN.{get_or}
use Rattle.base.specs.Parts.{Filled}
use Rattle.field.specs.Field.{add, mul}
use Rattle.products.proofs.add_multiple.Given as goal

abbrev pub invariant-loop-p : goal.invariant-loop-p
invariant-loop-p l = Filled (λ q. add (get_or l.initial.dst q 0) (mul l.c (get_or l.src q 0))) l.p l.initial.dst l.dst
