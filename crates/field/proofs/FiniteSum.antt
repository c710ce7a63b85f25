-- Laws of finite sums, by induction on the number of terms. Assumes nothing.
use mathlib.Core.Path.{◌≡◌, refl, sym, ap, ap₂, ◌∙◌}
use Prim.Native.Nat.{ℕ, zero, suc, ◌+◌, ◌<◌}
use native.Mathlib.Nat.{not-suc-le-zero, le_of_suc-le-suc, zero-lt-suc, zero-add, suc-add}
use native.Mathlib.Omega.{arith}
use Rattle.field.specs.Field.{IsByte, add, mul}
use Rattle.field.specs.FiniteSum.{sum}
use Rattle.field.proofs.Addition.{add-byte, add_assoc, add-zero-left, add-zero-right, add-exchange}
use Rattle.field.proofs.Multiplication.{mul-add-left, mul-add-right, mul-zero-left, mul-zero-right}

pub sum-zero : (f : ℕ → ℕ) → sum 0 f ≡ 0
unfolding sum
sum-zero f = refl

-- the first term, and the rest
pub sum-suc : (n : ℕ) (f : ℕ → ℕ) → sum (suc n) f ≡ add (f 0) (sum n (λ i. f (suc i)))
unfolding sum
sum-suc n f = refl

pub sum-byte : (n : ℕ) (f : ℕ → ℕ) → ((i : ℕ) → i < n → IsByte (f i)) → IsByte (sum n f)
unfolding sum
sum-byte zero f h = omega arith
sum-byte (suc n) f h = add-byte _ _ (h 0 (zero-lt-suc n)) (sum-byte n (λ i. f (suc i)) (λ i hi. h (suc i) (omega arith)))

pub sum-ext : (n : ℕ) (f g : ℕ → ℕ) → ((i : ℕ) → i < n → f i ≡ g i) → sum n f ≡ sum n g
unfolding sum
sum-ext zero f g h = refl
sum-ext (suc n) f g h = ap₂ add (h 0 (zero-lt-suc n)) (sum-ext n _ _ (λ i hi. h (suc i) (omega arith)))

-- a sum of zeros
pub sum_zeros : (n : ℕ) (f : ℕ → ℕ) → ((i : ℕ) → i < n → f i ≡ 0) → sum n f ≡ 0
unfolding sum
sum_zeros zero f h = refl
sum_zeros (suc n) f h =
    ap₂ add (h 0 (zero-lt-suc n)) (sum_zeros n _ (λ i hi. h (suc i) (omega arith))) ∙ add-zero-left 0

pub sum-add : (n : ℕ) (f g : ℕ → ℕ) → sum n (λ i. add (f i) (g i)) ≡ add (sum n f) (sum n g)
unfolding sum
sum-add zero f g = sym (add-zero-left 0)
sum-add (suc n) f g = ap (add (add (f 0) (g 0))) (sum-add n _ _) ∙ add-exchange (f 0) (g 0) _ _

pub mul-sum : (n a : ℕ) (f : ℕ → ℕ) → mul a (sum n f) ≡ sum n (λ i. mul a (f i))
unfolding sum
mul-sum zero a f = mul-zero-right a
mul-sum (suc n) a f = mul-add-right a (f 0) _ ∙ ap (add (mul a (f 0))) (mul-sum n a _)

pub sum-mul : (n a : ℕ) (f : ℕ → ℕ) → mul (sum n f) a ≡ sum n (λ i. mul (f i) a)
unfolding sum
sum-mul zero a f = mul-zero-left a
sum-mul (suc n) a f = mul-add-left (f 0) _ a ∙ ap (add (mul (f 0) a)) (sum-mul n a _)

-- two sums change places
pub sum-exchange : (m n : ℕ) (f : ℕ → ℕ → ℕ) → sum m (λ i. sum n (f i)) ≡ sum n (λ j. sum m (λ i. f i j))
unfolding sum
sum-exchange zero n f = sym (sum_zeros n _ (λ i hi. refl))
sum-exchange (suc m) n f =
    ap (add (sum n (f 0))) (sum-exchange m n (λ i. f (suc i))) ∙ sym (sum-add n (f 0) (λ j. sum m (λ i. f (suc i) j)))

-- only term k is not zero
pub sum_one : (n k : ℕ) (f : ℕ → ℕ) → k < n → ((i : ℕ) → i < n → (i ≡ k → ⊥) → f i ≡ 0) → sum n f ≡ f k
unfolding sum
sum_one zero k f h z = absurd (not-suc-le-zero h)
sum_one (suc n) zero f h z =
    ap (add (f 0)) (sum_zeros n _ (λ i hi. z (suc i) (omega arith) (λ e. omega arith))) ∙ add-zero-right (f 0)
sum_one (suc n) (suc k) f h z =
    ap₂ add (z 0 (zero-lt-suc n) (λ e. omega arith))
    (sum_one n k (λ i. f (suc i)) (le_of_suc-le-suc h) (λ i hi ne. z (suc i) (omega arith) (λ e. ne (omega arith))))
    ∙ add-zero-left (f (suc k))

-- the first m terms, and the rest
pub sum-split : (m n : ℕ) (f : ℕ → ℕ) → sum (m + n) f ≡ add (sum m f) (sum n (λ i. f (m + i)))
unfolding sum
sum-split zero n f = ap (λ (k : ℕ). sum k f) (zero-add n) ∙ sum-ext n _ _ (λ i hi. ap f (sym (zero-add i))) ∙ sym (add-zero-left _)
sum-split (suc m) n f =
    ap (λ (k : ℕ). sum k f) (suc-add m n) ∙ ap (add (f 0)) (sum-split m n (λ i. f (suc i)))
    ∙ sym (add_assoc (f 0) _ _)
    ∙ ap (add (sum (suc m) f)) (sum-ext n _ _ (λ i hi. ap f (sym (suc-add m i))))

-- the last term apart
pub sum-last : (n : ℕ) (f : ℕ → ℕ) → sum (suc n) f ≡ add (sum n f) (f n)
unfolding sum
sum-last zero f = add-zero-right (f 0) ∙ sym (add-zero-left (f 0))
sum-last (suc n) f = ap (add (f 0)) (sum-last n (λ i. f (suc i))) ∙ sym (add_assoc (f 0) _ _)
