-- After j turns the sum is the exponent of g times the power j, and the first j entries have theirs. Assumes nothing.
use mathlib.Core.Path.{◌≡◌}
use Prim.Native.Nat.{suc}
use lib.ListN.{get_or}
use Rattle.base.specs.Parts.{Filled}
use Rattle.field.specs.Field.{add, mul, pow}
use Rattle.coefficients.proofs.completing.add_powers.Given as goal

abbrev pub invariant-loop-coefficient : goal.invariant-loop-coefficient
invariant-loop-coefficient l =
    (pow 2 l.sum.value ≡ mul l.g (pow l.x l.coefficient-index)) × Filled (λ i. add (get_or l.initial.leading i 0) (mul l.g (pow l.x (suc i)))) l.coefficient-index l.initial.leading l.leading
