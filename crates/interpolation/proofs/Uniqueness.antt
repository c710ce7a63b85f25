-- As many coefficients as points: they are zeros if the values are, and so they are determined by the values. Assumes nothing.
use mathlib.Core.Path.{◌≡◌, sym, ◌∙◌}
use mathlib.Core.List.{List}
use Prim.Native.Nat.{ℕ, suc, ◌+◌, ◌<◌}
use lib.ListN.{length, get_or}
use Rattle.base.specs.Seq.{tabulate}
use Rattle.base.proofs.Seq.{length-tabulate, get_d_tabulate}
use Rattle.field.specs.Field.{IsByte, add, mul, pow}
use Rattle.field.specs.FiniteSum.{sum}
use Rattle.field.proofs.Addition.{add-byte, add-self, add-eq-zero, add-zero-eq}
use Rattle.field.proofs.Exponents.{pow-byte, pow-nonzero}
use Rattle.field.proofs.Bytes.{bytes-tabulate}
use Rattle.interpolation.specs.Polynomial.{evaluate, Points}
use Rattle.interpolation.proofs.Evaluate.{evaluate-add, evaluate-rest}
use Rattle.interpolation.proofs.Horner.{value-byte, sum-value, other-zero, vanishing}

-- The matrix of the powers e + 1, e + 2, .. of the points, as many as there are points, has only zeros in its kernel.
pub kernel : (e : ℕ) (ps : List ℕ) (v : ℕ → ℕ) → Points ps → ((j : ℕ) → j < length ps → IsByte (v j))
    → ((i : ℕ) → i < length ps → sum (length ps) (λ j. mul (v j) (pow (get_or ps i 0) (e + suc j))) ≡ 0)
    → (j : ℕ) → j < length ps → v j ≡ 0
kernel e ps v h hv z j hj =
    sym (get_d_tabulate n v j hj)
    ∙ vanishing ps h (tabulate n v) (length-tabulate n v) bytes
    (λ i hi.
    other-zero _ _ (pow-byte _ (suc e)) (pow-nonzero _ (suc e) (h.bytes i) (h.nonzero i hi)) (value-byte (tabulate n v) _ bytes)
    (sym (sum-value e n v (tabulate n v) _ (length-tabulate n v) (get_d_tabulate n v)) ∙ z i hi)) j
  where
    n : ℕ
    n = length ps

    bytes : (i : ℕ) → IsByte (get_or (tabulate n v) i 0)
    bytes = bytes-tabulate n v hv

-- Equal leading coefficients and equal values at the points: equal remaining coefficients.
pub rest-unique : (e : ℕ) (ps : List ℕ) (x v v' : ℕ → ℕ) → Points ps
    → ((j : ℕ) → j < length ps → IsByte (v j)) → ((j : ℕ) → j < length ps → IsByte (v' j))
    → ((i : ℕ) → i < length ps → evaluate e (length ps) x v (get_or ps i 0) ≡ evaluate e (length ps) x v' (get_or ps i 0))
    → (j : ℕ) → j < length ps → v j ≡ v' j
rest-unique e ps x v v' h hv hv' same j hj =
    add-zero-eq (v j) (v' j)
    (kernel e ps (λ j. add (v j) (v' j)) h (λ j hj. add-byte _ _ (hv j hj) (hv' j hj)) (λ i hi.
    sym (evaluate-rest e (length ps) (λ j. add (x j) (x j)) (λ j. add (v j) (v' j)) (get_or ps i 0) (λ j hj. add-self (x j)))
    ∙ evaluate-add e (length ps) x x v v' (get_or ps i 0) ∙ add-eq-zero _ _ (same i hi)) j hj)
