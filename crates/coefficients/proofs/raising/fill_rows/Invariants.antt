-- After i turns the first i rows are the powers of their points. Assumes nothing.
use Prim.Native.Nat.{suc}
use lib.ListN.{length, get_or}
use Rattle.base.specs.Parts.{Blocked}
use Rattle.field.specs.Field.{pow}
use Rattle.coefficients.proofs.raising.fill_rows.Given as goal

abbrev pub invariant-loop-i : goal.invariant-loop-i
invariant-loop-i l = Blocked l.m (length l.points) (λ k j. pow (get_or l.points k 0) (suc j)) l.i l.initial.out l.out
