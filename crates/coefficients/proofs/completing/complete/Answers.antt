-- The leading powers, and the gains with their share. Assumes nothing.
use Rattle.coefficients.proofs.Completion.{completed}
use Rattle.coefficients.proofs.completing.complete.Goals as goal

pub returns : goal.returns
returns c =
    let s = c.args in
    completed s.e s.at.now s.targets.now _ _ _ c.fill_rows.ensures c.gain_rows.ensures c.add_share.ensures
