-- An example, computed: one leading part and three remaining parts, of two bytes each, at the points 1, 2 and 3. Assumes nothing.
use mathlib.Core.Path.{refl}
use mathlib.Core.Bool.{Bool}
use mathlib.Core.List.{List, [], ◌∷◌}
use Prim.Native.Nat.{ℕ, suc}
use native.Mathlib.Omega.{arith}
use lib.Dec.{T, eqb, eqb→eq}
use lib.ListN.{get_or}
use Rattle.base.specs.Seq.{cell, tabulate}
use Rattle.base.proofs.Test.{all_below, below}
use Rattle.field.specs.Field.{mul, pow}
use Rattle.field.specs.FiniteSum.{sum}
use Rattle.field.proofs.Bytes.{bytes-tabulate}
use Rattle.interpolation.specs.Polynomial.{evaluate, Points, Completes}
use Rattle.interpolation.proofs.PointLists.{points-upto}

abbrev pub leading : List ℕ
leading = 7 ∷ 200 ∷ []

abbrev pub points : List ℕ
points = 1 ∷ 2 ∷ 3 ∷ []

abbrev pub rest : List ℕ
rest = 1 ∷ 2 ∷ 3 ∷ 4 ∷ 5 ∷ 6 ∷ []

-- the two bytes of the value at point 1, those at point 2, those at point 3
abbrev pub values : List ℕ
values = 0 ∷ 200 ∷ 66 ∷ 197 ∷ 72 ∷ 21 ∷ []

pub example-points : Points points
unfolding tabulate
example-points = points-upto 3 (omega arith)

value-test : ℕ → ℕ → Bool
value-test i p = eqb (evaluate 1 3 (λ j. cell 2 leading j p) (λ j. cell 2 rest j p) (get_or points i 0)) (cell 2 values i p)

value-tests : T (all_below 3 (λ i. all_below 2 (value-test i)))
unfolding value-test evaluate sum mul pow cell
value-tests = tt

pub example-completes : Completes 2 1 leading points (cell 2 values) rest
unfolding value-test tabulate
example-completes =
    record {
      count = refl;
      bytes = bytes-tabulate 6 suc (λ i hi. omega arith);
      takes = λ i p hi hp.
          eqb→eq _ _ (below 2 (value-test i) (below 3 (λ i. all_below 2 (value-test i)) value-tests i hi) p hp);
    }
