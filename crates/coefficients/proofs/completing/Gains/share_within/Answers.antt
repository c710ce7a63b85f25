-- The gains times the powers of the points, added. Assumes nothing.
use Rattle.coefficients.proofs.Completion.{shared}
use Rattle.coefficients.proofs.completing.Gains.share_within.Goals as goal

pub returns : goal.returns
returns c =
    let s = c in
    let self = s.args.self.now in
    let powers = c.fill_rows in
    let order = c.in_order-order in
    let columns = c.in_order-columns in
    shared self.rows self.anchors.e self.anchors.at.now self.gains.now powers.new.out _ order.result columns.result _ _
    self.anchors.weighable self.few self.room s.requires.room powers.ensures order.ensures columns.ensures c.add_product.ensures
