-- The powers of 00 are 00. Else after j turns x is the exponent of entry j - 1, and the first j entries are written. Assumes nothing.
use mathlib.Core.Path.{◌≡◌}
use Prim.Native.Nat.{suc}
use Rattle.base.specs.Parts.{Filled}
use Rattle.field.specs.Field.{pow}
use Rattle.coefficients.proofs.raising.fill_row.Given as goal

abbrev pub invariant-loop-entry : goal.invariant-loop-entry
invariant-loop-entry l = (pow 2 l.x.value ≡ pow l.c l.entry-index) × Filled (λ i. pow l.c (suc i)) l.entry-index l.initial.out l.out
