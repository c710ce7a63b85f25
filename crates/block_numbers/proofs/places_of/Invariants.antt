-- After so many turns so many entries are one less than the list's. Assumes nothing.
use Prim.Native.Nat.{◌-◌}
use lib.ListN.{get_or}
use Rattle.base.specs.Parts.{Filled}
use Rattle.block_numbers.proofs.places_of.Given as goal

abbrev pub invariant-loop-place : goal.invariant-loop-place
invariant-loop-place l = Filled (λ i. get_or l.initial.place-items i 0 - 1) l.place-index l.initial.place-items l.place-items
