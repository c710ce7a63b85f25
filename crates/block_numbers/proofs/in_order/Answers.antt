-- Compared entry by entry. Assumes nothing.
use mathlib.Core.Path.{refl}
use Rattle.base.specs.Seq.{tabulate}
use Rattle.block_numbers.proofs.in_order.Goals as goal

pub returns : goal.returns
unfolding tabulate
returns c = refl
