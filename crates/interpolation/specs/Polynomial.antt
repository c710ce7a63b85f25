-- Polynomials without a constant term, by their leading and their remaining coefficients. Assumes nothing.
use Rattle.std.specs.Prelude.{◌≡◌, List, ℕ, suc, ◌+◌, ◌*◌, ◌<◌, length, get_or}
use Rattle.base.specs.Seq.{cell}
use Rattle.field.specs.Field.{Bytes, add, mul, pow}
use Rattle.field.specs.FiniteSum.{sum}

-- "sum over j = 1..k of x_j·c^j, plus sum over j = 1..l of v_j·c^(k+j)", with e for k and m for l. The coefficients are counted from 0 here:
-- x 0 stands for x_1.
unfoldable pub evaluate : ℕ → ℕ → (ℕ → ℕ) → (ℕ → ℕ) → ℕ → ℕ
evaluate e m x v c = add (sum e (λ j. mul (x j) (pow c (suc j)))) (sum m (λ j. mul (v j) (pow c (e + suc j))))

-- Points whose values settle a polynomial that has as many coefficients: bytes, not 00, and no two of them equal.
pub record Points (ps : List ℕ) : Type 0 where
  pub bytes : Bytes ps
  pub nonzero : (i : ℕ) → i < length ps → get_or ps i 0 ≡ 0 → ⊥
  pub distinct : (i j : ℕ) → i < length ps → j < length ps → get_or ps i 0 ≡ get_or ps j 0 → i ≡ j

-- The parts v, as many as there are points and b bytes each, complete the e leading parts x: at each byte place p the polynomial takes the wanted
-- value, wanted i p, at point i.
pub record Completes (b e : ℕ) (x : List ℕ) (ps : List ℕ) (wanted : ℕ → ℕ → ℕ) (v : List ℕ) : Type 0 where
  pub count : length v ≡ length ps * b
  pub bytes : Bytes v
  pub takes : (i p : ℕ) → i < length ps → p < b
      → evaluate e (length ps) (λ j. cell b x j p) (λ j. cell b v j p) (get_or ps i 0) ≡ wanted i p
