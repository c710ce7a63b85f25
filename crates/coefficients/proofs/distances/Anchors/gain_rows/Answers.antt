-- The rows of Lagrange's formula take values to values. Assumes nothing.
use Rattle.coefficients.proofs.Gains.{carries}
use Rattle.coefficients.proofs.distances.Anchors.gain_rows.Goals as goal

pub returns : goal.returns
returns c =
    let s = c.args in
    carries s.self.now.e s.self.now.at.now s.targets.now _ s.self.now.weighable.tell c.fill_gains.ensures
