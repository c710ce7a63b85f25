use Prim.Native.Nat.{◌+◌, ◌*◌, ◌≤◌}
use native.Mathlib.Omega.{arith}
use lib.ListN.{length}
use Rattle.base.proofs.Parts.{blocked-more, row_ends, length-part_of}
use Rattle.coefficients.proofs.Shares.{row-share}
use Rattle.coefficients.proofs.completing.Gains.add_row_shares.Goals as goal

pub loop-t-preserved : goal.loop-t-preserved
loop-t-preserved c =
    let s = c.args in
    let self = s.self.now in
    let l = c.loop-t in
    let e = self.anchors.e in
    let new = c.add_row_share.new.leading in
    let fits : l.t * e + e ≤ length s.leading.now =
    row_ends self.rows l.t e (length s.leading.now) (omega arith) (omega (arith, c.requires)) in
    let r = row-share self.rows e l.t self.anchors.at.now self.gains.now s.leading.now l.leading new l.invariant
    (length-part_of e l.t l.leading (omega (arith, fits, l.invariant.same))) c.add_row_share.ensures in
    blocked-more _ _ _ l.t _ l.leading new (omega arith) c.requires r.0 r.1 l.invariant
