-- After each turn the blocks so far are added. Assumes nothing.
use lib.ListN.{length}
use Rattle.products.proofs.Summing.{Summed}
use Rattle.products.proofs.add_columns.Given as goal

abbrev pub invariant-loop-place : goal.invariant-loop-place
invariant-loop-place l = Summed l.b l.at l.src l.places l.coeffs (length l.yielded) l.initial.sum l.sum
