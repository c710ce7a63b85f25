-- The unit row for one of the points; for any other target, quotients. Assumes nothing.
use mathlib.Core.Path.{◌∙◌}
use Rattle.coefficients.proofs.Gains.{unit-gains}
use Rattle.coefficients.proofs.completing.Weights.fill_gain.Goals as goal

pub returns-then-lists : goal.returns-then-lists
returns-then-lists c =
    let s = c.args in
    let f = c.lists.ensures.holds c.if-lists.true in
    c.fill_unit.ensures ∙ unit-gains s.self.now.anchors.e s.self.now.anchors.at.now s.target f.0 s.self.now.anchors.weighable f.1 f.2
