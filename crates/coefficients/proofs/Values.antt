-- The basis polynomials take the values at points back to coefficients, by Lagrange's formula. Assumes nothing.
use mathlib.Core.Path.{◌≡◌, sym, ap, ap₂, ◌∙◌}
use mathlib.Core.List.{List}
use Prim.Native.Nat.{ℕ, suc, ◌+◌, ◌<◌}
use native.Mathlib.Nat.{zero-add}
use native.Mathlib.Omega.{arith}
use lib.ListN.{length, get_or}
use Rattle.field.specs.Field.{IsByte, add, mul, pow}
use Rattle.field.specs.FiniteSum.{sum}
use Rattle.field.proofs.Addition.{add-zero-right}
use Rattle.field.proofs.Multiplication.{mul_comm, mul_assoc}
use Rattle.field.proofs.FiniteSum.{sum-zero, sum-ext}
use Rattle.interpolation.specs.Polynomial.{evaluate, Points}
use Rattle.interpolation.specs.Lagrange.{coefs, apart}
use Rattle.interpolation.proofs.Evaluate.{evaluate-join}
use Rattle.interpolation.proofs.Lagrange.{coefficients}
use Rattle.interpolation.proofs.Rows.{join, join-left, join-right, join-byte}
use Rattle.coefficients.specs.Coefficients.{Readable, Reads, ReadsPost}
use Rattle.coefficients.specs.Working.{basis, BasisRows}

-- leading and remaining coefficients in one row
evaluate-row : (k l : ℕ) (x v : ℕ → ℕ) (c : ℕ) → evaluate k l x v c ≡ sum (k + l) (λ j. mul (join k x v j) (pow c (suc j)))
unfolding evaluate
evaluate-row k l x v c =
    evaluate-join k l x v (join k x v) v c (join-left k x v) (λ j h. join-right k x v j) ∙ ap (add _) (sum-zero _) ∙ add-zero-right _

-- the coefficients P of a polynomial that has as many as there are points
module _ (points : List ℕ) (tell : Points points) (P : ℕ → ℕ) (hP : (j : ℕ) → IsByte (P j)) where
  -- its value at c
  abbrev at : ℕ → ℕ
  at c = sum (length points) (λ j. mul (P j) (pow c (suc j)))

  read_back : (j : ℕ) → j < length points → sum (length points) (λ o. mul (basis points o j) (at (get_or points o 0))) ≡ P j
  unfolding basis
  read_back j hj =
      sym
      (coefficients 0 points tell P (λ o h. hP o) j hj
      ∙ sum-ext (length points) _ _
      (λ o ho.
      let c = get_or points o 0 in
      ap (λ (y : ℕ). mul (mul y (pow (apart 0 points c c) 254)) (get_or (coefs points c (length points)) j 0))
      (sum-ext (length points) _ _ (λ t ht. ap (λ (k : ℕ). mul (P t) (pow c k)) (zero-add (suc t))))
      ∙ mul_comm _ _ ∙ ap (mul _) (mul_comm _ _) ∙ sym (mul_assoc _ _ _)))

-- the basis polynomials take the values to the coefficients
reads : (k : ℕ) (points rows : List ℕ) → Points points → BasisRows k points (length points) rows → Reads k points rows
reads k points rows tell rows_are =
    record {
      takes = λ l x v whole hx hv j hj.
          sum-ext (length points) _ _
          (λ o ho.
          ap₂ mul (rows_are o j ho hj)
          (evaluate-row k l x v (get_or points o 0) ∙ ap (λ (q : ℕ). sum q (λ j. mul (join k x v j) (pow (get_or points o 0) (suc j)))) whole))
          ∙ read_back points tell (join k x v) (join-byte k x v hx hv) j (omega arith) ∙ join-left k x v j hj;
    }

-- ---- what the call leaves

pub reads_made : (k : ℕ) (points old new : List ℕ) → Readable k points (length old) → length new ≡ length old → BasisRows k points (length points) new
    → ReadsPost k points old new
reads_made k points old new can same rows_are =
    record { same = same; written = λ r. reads k points new can.tell rows_are; kept = λ none. absurd (none can) }
