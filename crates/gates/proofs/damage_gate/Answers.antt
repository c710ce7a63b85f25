-- One question. Assumes nothing.
use Rattle.gates.specs.Gates.{damage_gate}
use Rattle.gates.proofs.damage_gate.Goals as goal

pub returns : goal.returns
unfolding damage_gate
returns c = rw (← c.within.ensures) c.put.ensures
