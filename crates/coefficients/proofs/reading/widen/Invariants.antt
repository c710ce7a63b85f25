-- From the top down: the entries above the one before j are those of the product, the others as they were. Assumes nothing.
use Prim.Native.Nat.{◌-◌}
use Rattle.field.specs.Field.{pow}
use Rattle.coefficients.proofs.Basis.{Widening}
use Rattle.coefficients.proofs.reading.widen.Given as goal

abbrev pub invariant-loop-j : goal.invariant-loop-j
invariant-loop-j l = Widening (pow 2 l.x.value) (l.j - 1) l.initial.p l.p
