use native.Mathlib.Omega.{arith}
use lib.ListN.{get_or}
use Rattle.base.proofs.Parts.{blocked-more}
use Rattle.coefficients.specs.Working.{basis_value_rows}
use Rattle.coefficients.proofs.Rows.{blocked-whole}
use Rattle.coefficients.proofs.Gains.{row-gains}
use Rattle.coefficients.proofs.completing.Weights.fill_gains.Goals as goal

pub loop-t-preserved : goal.loop-t-preserved
loop-t-preserved c =
    let s = c.args in
    let l = c.loop-t in
    let r = row-gains s.self.now.anchors.e s.self.now.anchors.at.now (get_or s.targets.now l.t 0) c.fill_gain.new.gains c.fill_gain.ensures in
    blocked-more _ _ _ l.t _ l.gains c.fill_gain.new.gains (omega arith) c.requires.room r.0 r.1 l.invariant

pub returns : goal.returns
unfolding basis_value_rows
returns c = blocked-whole _ _ _ _ _ _ c.requires.room (omega arith) c.loop-t.invariant
