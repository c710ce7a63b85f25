-- Byte `at` is that of node at / count and place at % count. Assumes nothing.
use Rattle.base.specs.Parts.{Filled}
use Rattle.probes.specs.Probes.{picked_byte}
use Rattle.probes.proofs.at_places.pick.Given as goal

abbrev pub invariant-loop-at : goal.invariant-loop-at
invariant-loop-at l = Filled (picked_byte l.a l.codeword l.places) l.at l.initial.picked l.picked
