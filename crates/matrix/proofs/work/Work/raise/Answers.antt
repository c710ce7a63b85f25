-- Row j's own entry is not zero, or it is zero and row p is added to it. Assumes nothing.
use Rattle.matrix.proofs.RowOperations.{raised-added}
use Rattle.matrix.proofs.work.Work.raise.Goals as goal

pub returns-then-p-j : goal.returns-then-p-j
returns-then-p-j c =
    (c.add_multiple.ensures.0, raised-added _ _ _ _ _ (c.args.self.now.bytes c.args.p c.args.j) c.requires.0 c.requires.1 c.if-p-j.true c.add_multiple.ensures.1)
