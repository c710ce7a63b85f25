-- The identity's entries, and sums against them: one term is left. Assumes nothing.
use mathlib.Core.Path.{◌≡◌, refl, sym, ap, ◌∙◌}
use mathlib.Core.Bool.{Bool, true, false, cond}
use mathlib.Core.Logic.{⊎_elim}
use Prim.Native.Nat.{ℕ, ◌≤◌, ◌<◌}
use native.Mathlib.Omega.{arith}
use lib.Dec.{eqb}
use borrow.Author.Tests.{eq-eqb, ne_eqb}
use Rattle.base.proofs.Cases.{lt-or}
use Rattle.field.specs.Field.{IsByte, add, mul}
use Rattle.field.specs.FiniteSum.{sum}
use Rattle.field.proofs.Multiplication.{mul-add-right, mul-zero-left, mul-zero-right, mul-one-left, mul-one-right}
use Rattle.field.proofs.FiniteSum.{sum-ext, sum-add, sum_one}
use Rattle.matrix.specs.Product.{unit}

pub unit-same : (i : ℕ) → unit i i ≡ 1
unfolding unit
unit-same i = ap (λ (b : Bool). cond b 1 0) (eq-eqb i i refl)

pub unit-other : (i j : ℕ) → (i ≡ j → ⊥) → unit i j ≡ 0
unfolding unit
unit-other i j ne = ap (λ (b : Bool). cond b 1 0) (ne_eqb i j ne)

pub unit-byte : (i j : ℕ) → IsByte (unit i j)
unfolding unit
unit-byte i j = go (eqb i j)
  where
    go : (b : Bool) → IsByte (cond b 1 0)
    go true = omega arith
    go false = omega arith

pub unit-sum : (n i : ℕ) (f : ℕ → ℕ) → i < n → IsByte (f i) → sum n (λ k. mul (unit i k) (f k)) ≡ f i
unit-sum n i f hi hf =
    sum_one n i (λ k. mul (unit i k) (f k)) hi
    (λ k hk ne. ap (λ (x : ℕ). mul x (f k)) (unit-other i k (λ e. ne (sym e))) ∙ mul-zero-left (f k))
    ∙ ap (λ (x : ℕ). mul x (f i)) (unit-same i) ∙ mul-one-left (f i) hf

pub sum-unit : (n j : ℕ) (f : ℕ → ℕ) → j < n → IsByte (f j) → sum n (λ k. mul (f k) (unit k j)) ≡ f j
sum-unit n j f hj hf =
    sum_one n j (λ k. mul (f k) (unit k j)) hj (λ k hk ne. ap (mul (f k)) (unit-other k j ne) ∙ mul-zero-right (f k))
    ∙ ap (mul (f j)) (unit-same j) ∙ mul-one-right (f j) hf

-- against z with 1 added at place j
pub sum-plus-unit : (n j : ℕ) (f z : ℕ → ℕ) → j < n → IsByte (f j) → sum n (λ k. mul (f k) (add (z k) (unit k j))) ≡ add (sum n (λ k. mul (f k) (z k))) (f j)
sum-plus-unit n j f z hj hf =
    sum-ext n (λ k. mul (f k) (add (z k) (unit k j))) (λ k. add (mul (f k) (z k)) (mul (f k) (unit k j))) (λ k hk. mul-add-right (f k) (z k) (unit k j))
    ∙ sum-add n (λ k. mul (f k) (z k)) (λ k. mul (f k) (unit k j))
    ∙ ap (add (sum n (λ k. mul (f k) (z k)))) (sum-unit n j f hj hf)

-- a row whose entries before place t are the identity's, against a vector that is 00 from there on
pub unit-sum-before : (n t i : ℕ) (row z : ℕ → ℕ) → ((k : ℕ) → k < t → row k ≡ unit i k) → ((k : ℕ) → t ≤ k → z k ≡ 0) → i < n → IsByte (z i)
    → sum n (λ k. mul (row k) (z k)) ≡ z i
unit-sum-before n t i row z units zeros hi byte =
    sum-ext n (λ k. mul (row k) (z k)) (λ k. mul (unit i k) (z k))
    (λ k hk.
    ⊎_elim (λ low. ap (λ (x : ℕ). mul x (z k)) (units k low))
    (λ high. nothing (row k) (z k) (zeros k high) ∙ sym (nothing (unit i k) (z k) (zeros k high)))
    (lt-or k t))
    ∙ unit-sum n i z hi byte
  where
    nothing : (a b : ℕ) → b ≡ 0 → mul a b ≡ 0
    nothing a b e = ap (mul a) e ∙ mul-zero-right a
