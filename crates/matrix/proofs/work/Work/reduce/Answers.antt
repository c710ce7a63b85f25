-- Row j gets a pivot, the pivot becomes 1, the column is cleared: each step keeps the kernel and the columns before. Assumes nothing.
use mathlib.Core.Path.{◌∙◌}
use Rattle.std.proofs.Common.{arith}
use Rattle.matrix.proofs.RowOperations.{scaled-ready, reduced-more}
use Rattle.matrix.proofs.work.Work.reduce.Goals as goal

pub clear_column-requires : goal.clear_column-requires
clear_column-requires c =
    let a = c.raise.ensures in
    let b = c.scale_row.ensures in
    (scaled-ready _ _ _ _ _ _ _ _ a.0 b.0 (omega arith) a.1 c.inverse.ensures b.1).1

pub returns : goal.returns
returns c =
    let a = c.raise.ensures in
    let b = c.scale_row.ensures in
    let d = c.clear_column.ensures in
    (d.0 ∙ b.0 ∙ a.0, reduced-more _ _ _ _ _ _ _ (b.0 ∙ a.0) (scaled-ready _ _ _ _ _ _ _ _ a.0 b.0 (omega arith) a.1 c.inverse.ensures b.1).0 d.1)
