use mathlib.Core.Path.{◌∙◌}
use native.Mathlib.Omega.{arith}
use Rattle.serials.proofs.Laws.{older-none, older-more, test_bit}
use Rattle.serials.proofs.older.Goals as goal

pub loop-at-init : goal.loop-at-init
loop-at-init c = older-none _ _ c.min-at.result (omega arith) (omega arith) (λ l. omega arith)

pub loop-at-preserved : goal.loop-at-preserved
loop-at-preserved c = older-more c.loop-at.invariant (omega arith) c.from.result (c.from.ensures ∙ test_bit _)
