-- After each point its share is there. Assumes nothing.
use mathlib.Core.Path.{◌≡◌}
use lib.ListN.{length}
use Rattle.coefficients.specs.Working.{with_share}
use Rattle.coefficients.proofs.completing.add_row_share.Given as goal

abbrev pub invariant-loop-g : goal.invariant-loop-g
invariant-loop-g l = l.leading ≡ with_share (length l.yielded) l.at l.gains l.initial.leading
