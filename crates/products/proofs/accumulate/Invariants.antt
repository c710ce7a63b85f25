-- After some turns the bytes before `at` have their sums, the others are as they were. Assumes nothing.
use Prim.Native.Nat.{◌-◌, min}
use lib.ListN.{length}
use Rattle.base.specs.Parts.{Filled}
use Rattle.products.proofs.Summing.{total}
use Rattle.products.proofs.accumulate.Given as goal

abbrev pub invariant-loop-at : goal.invariant-loop-at
invariant-loop-at l = Filled (total l.src l.places l.coeffs l.initial.dst) (min l.at (length l.initial.dst)) l.initial.dst l.dst

abbrev pub decreases-loop-at : goal.decreases-loop-at
decreases-loop-at l = length l.initial.dst - l.at
