-- The first entry by exponents, and after j turns the first j entries, each from the one before. Assumes nothing.
use mathlib.Core.Path.{◌≡◌}
use Prim.Native.Nat.{◌-◌}
use Rattle.coefficients.specs.Working.{basis}
use Rattle.coefficients.proofs.Basis.{Climbed}
use Rattle.coefficients.proofs.reading.Product.fill_column.Given as goal

abbrev pub invariant-loop-j : goal.invariant-loop-j
invariant-loop-j l = (l.lead ≡ basis l.points l.i (l.j - 1)) × Climbed l.points l.i l.j l.initial.rows l.rows
