-- The word's lowest run of ones, by the steps of proofs/Numbers.antt. Assumes nothing.
use native.Mathlib.Omega.{arith}
use Rattle.subsets.proofs.Numbers.{high-more, next-above}
use Rattle.subsets.proofs.next_number.Goals as goal

pub overflow_sub-others : goal.overflow_sub-others
overflow_sub-others c = rw c.from.ensures (omega (arith, high-more c.args.word c.requires (omega arith)))

pub overflow_sub-others-2 : goal.overflow_sub-others-2
overflow_sub-others-2 c = rw c.from.ensures (omega (arith, high-more c.args.word c.requires (omega arith)))

pub returns : goal.returns
returns c = rw c.from.ensures (next-above c.args.word c.requires (omega arith))
