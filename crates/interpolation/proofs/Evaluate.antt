-- Laws of a polynomial's value in its coefficients: each is a law of the two sums. Assumes nothing.
use mathlib.Core.Path.{◌≡◌, sym, ap, ap₂, ◌∙◌}
use Prim.Native.Nat.{ℕ, suc, ◌+◌, ◌<◌}
use native.Mathlib.Omega.{arith}
use Rattle.field.specs.Field.{IsByte, add, mul, pow}
use Rattle.field.specs.FiniteSum.{sum}
use Rattle.field.proofs.Addition.{add-byte, add-zero-left, add-zero-right, add-exchange}
use Rattle.field.proofs.Multiplication.{mul-byte, mul-add-left, mul-zero-left}
use Rattle.field.proofs.FiniteSum.{sum-zero, sum-byte, sum-ext, sum_zeros, sum-add, sum-split}
use Rattle.interpolation.specs.Polynomial.{evaluate}

-- ---- sums of products f i · g i in the first factor

weighted-ext : (n : ℕ) (f f' g : ℕ → ℕ) → ((i : ℕ) → i < n → f i ≡ f' i)
    → sum n (λ i. mul (f i) (g i)) ≡ sum n (λ i. mul (f' i) (g i))
weighted-ext n f f' g h = sum-ext n _ _ (λ i hi. ap (λ (k : ℕ). mul k (g i)) (h i hi))

weighted-add : (n : ℕ) (f f' g : ℕ → ℕ)
    → sum n (λ i. mul (add (f i) (f' i)) (g i)) ≡ add (sum n (λ i. mul (f i) (g i))) (sum n (λ i. mul (f' i) (g i)))
weighted-add n f f' g = sum-ext n _ _ (λ i hi. mul-add-left (f i) (f' i) (g i)) ∙ sum-add n _ _

weighted-zeros : (n : ℕ) (f g : ℕ → ℕ) → ((i : ℕ) → i < n → f i ≡ 0) → sum n (λ i. mul (f i) (g i)) ≡ 0
weighted-zeros n f g h = sum_zeros n _ (λ i hi. ap (λ (k : ℕ). mul k (g i)) (h i hi) ∙ mul-zero-left (g i))

-- ---- the value

pub evaluate-byte : (e m : ℕ) (x v : ℕ → ℕ) (c : ℕ) → IsByte (evaluate e m x v c)
unfolding evaluate
evaluate-byte e m x v c = add-byte _ _ (sum-byte e _ (λ j hj. mul-byte (x j) _)) (sum-byte m _ (λ j hj. mul-byte (v j) _))

-- only coefficients that are there count
pub evaluate-ext : (e m : ℕ) (x x' v v' : ℕ → ℕ) (c : ℕ) → ((j : ℕ) → j < e → x j ≡ x' j) → ((j : ℕ) → j < m → v j ≡ v' j)
    → evaluate e m x v c ≡ evaluate e m x' v' c
unfolding evaluate
evaluate-ext e m x x' v v' c hx hv = ap₂ add (weighted-ext e x x' _ hx) (weighted-ext m v v' _ hv)

pub evaluate-add : (e m : ℕ) (x x' v v' : ℕ → ℕ) (c : ℕ)
    → evaluate e m (λ j. add (x j) (x' j)) (λ j. add (v j) (v' j)) c ≡ add (evaluate e m x v c) (evaluate e m x' v' c)
unfolding evaluate
evaluate-add e m x x' v v' c = ap₂ add (weighted-add e x x' _) (weighted-add m v v' _) ∙ add-exchange _ _ _ _

-- the leading coefficients are zeros: the rest alone
pub evaluate-rest : (e m : ℕ) (x v : ℕ → ℕ) (c : ℕ) → ((j : ℕ) → j < e → x j ≡ 0)
    → evaluate e m x v c ≡ sum m (λ j. mul (v j) (pow c (e + suc j)))
unfolding evaluate
evaluate-rest e m x v c hx =
    ap (λ (k : ℕ). add k (sum m (λ j. mul (v j) (pow c (e + suc j))))) (weighted-zeros e x _ hx) ∙ add-zero-left _

-- leading and remaining coefficients in one row w: where it is cut does not matter (y stands for no coefficient)
pub evaluate-join : (e m : ℕ) (x v w y : ℕ → ℕ) (c : ℕ) → ((j : ℕ) → j < e → w j ≡ x j) → ((j : ℕ) → j < m → w (e + j) ≡ v j)
    → evaluate e m x v c ≡ evaluate (e + m) 0 w y c
unfolding evaluate
evaluate-join e m x v w y c hx hv =
    ap₂ add (sym (weighted-ext e w x _ hx))
    (sym (weighted-ext m (λ j. w (e + j)) v _ hv) ∙ sum-ext m _ _ (λ j hj. ap (λ (k : ℕ). mul (w (e + j)) (pow c k)) (next j)))
    ∙ sym (sum-split e m (λ j. mul (w j) (pow c (suc j)))) ∙ sym (add-zero-right _) ∙ ap (add _) (sym (sum-zero _))
  where
    next : (j : ℕ) → e + suc j ≡ suc (e + j)
    next j = omega arith
