-- Lists that may serve as points: different numbers from 1 to 255, as 1, 2, .., n. Assumes nothing.
use mathlib.Core.Path.{◌≡◌, sym, subst}
use mathlib.Core.List.{List}
use mathlib.Core.Logic.{⊎_elim}
use Prim.Native.Nat.{ℕ, suc, ◌<◌}
use native.Mathlib.Omega.{arith}
use lib.ListN.{length, get_or, get_or-eq_default}
use Rattle.base.specs.Seq.{tabulate}
use Rattle.base.proofs.Seq.{length-tabulate, get_d_tabulate}
use Rattle.base.proofs.Cases.{lt-or}
use Rattle.field.specs.Field.{IsByte}
use Rattle.interpolation.specs.Polynomial.{Points}

-- each number from 1 to 255, no two of them equal
pub points-of : (ps : List ℕ) → ((i : ℕ) → i < length ps → (0 < get_or ps i 0) × (get_or ps i 0 < 256))
    → ((i j : ℕ) → i < length ps → j < length ps → get_or ps i 0 ≡ get_or ps j 0 → i ≡ j)
    → Points ps
points-of ps range distinct =
    record {
      bytes = λ i.
          ⊎_elim (λ hi. (range i hi).1) (λ hi. subst IsByte (sym (get_or-eq_default ps 0 hi)) (omega arith))
          (lt-or i (length ps));
      nonzero = λ i hi e. omega (arith, (range i hi).0);
      distinct = distinct;
    }

-- 1, 2, .., n
pub points-upto : (n : ℕ) → n < 256 → Points (tabulate n suc)
points-upto n h =
    points-of (tabulate n suc) (λ i hi. omega (arith, entry i hi))
    (λ i j hi hj e. omega (arith, entry i hi, entry j hj))
  where
    entry : (i : ℕ) → i < length (tabulate n suc) → (get_or (tabulate n suc) i 0 ≡ suc i) × (i < n)
    entry i hi = let k : i < n = omega (arith, length-tabulate n suc) in (get_d_tabulate n suc i k, k)

pub points-1-32 : Points (tabulate 32 suc)
points-1-32 = points-upto 32 (omega arith)
