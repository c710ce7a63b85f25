use mathlib.Core.Path.{◌∙◌}
use Rattle.matrix.proofs.RowOperations.{reduced-more}
use Rattle.matrix.proofs.work.Work.eliminate.Goals as goal

pub loop-j-preserved : goal.loop-j-preserved
loop-j-preserved c =
    let l = c.loop-j in
    let r = c.reduce.ensures in
    (r.0 ∙ l.invariant.0, reduced-more _ _ _ _ _ _ _ l.invariant.0 l.invariant.1 r.1)
