use Rattle.base.proofs.Questions.{nay, yea, over, first}
use Rattle.gates.proofs.put.Goals as goal

pub returns-then-yes : goal.returns-then-yes
returns-then-yes c = first _ (yea c.if-yes.true over)

pub returns-else-yes : goal.returns-else-yes
returns-else-yes c = first _ (nay c.if-yes.false)
