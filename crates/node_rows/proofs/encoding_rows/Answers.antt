-- The list that is lent is that of the points of the nodes 1, .., n. Assumes nothing.
use mathlib.Core.Path.{ap, ◌∙◌}
use native.Mathlib.Numerals.{add-one}
use native.Mathlib.Omega.{arith}
use Rattle.base.proofs.Filled.{filled_more}
use Rattle.code.specs.Code.{point}
use Rattle.node_rows.proofs.Laws.{first-points, encodes-made}
use Rattle.node_rows.proofs.encoding_rows.Goals as goal

pub loop-j-preserved : goal.loop-j-preserved
loop-j-preserved c =
    let l = c.loop-j in
    filled_more _ l.j _ l.place-items _ (omega (arith, l.invariant.same)) (c.point.ensures ∙ ap point (add-one l.j)) l.invariant

pub returns : goal.returns
returns c =
    encodes-made _ _ (omega arith) _ _ _ (first-points _ c.loop-j.j _ c.loop-j.place-items (omega arith) c.loop-j-test.false c.loop-j.invariant) c.power_rows.ensures
