-- Numbers by their binary digits, and a product with a factor taken bit by bit from the top. Assumes nothing.
use mathlib.Core.Path.{◌≡◌, refl, sym, ap, ap₂, ◌∙◌}
use Prim.Native.Nat.{ℕ, zero, suc, ◌+◌, ◌*◌, ◌/◌, ◌%◌, ◌^◌, ◌≤◌, ◌<◌}
use native.Mathlib.Nat.{mul_assoc, pow-suc}
use native.Mathlib.Omega.{arith}
use lib.Dec.{eqb, eqb→eq}
use lib.Pow.{pow_mono}
use Rattle.base.proofs.Test.{below}
use Rattle.field.specs.Field.{IsByte, add, mul}
use Rattle.field.proofs.Addition.{top}
use Rattle.field.proofs.Doubling.{double-small}
use Rattle.field.proofs.Multiplication.{mul-add-left, mul_assoc as times-assoc}
use Rattle.picks.specs.Picks.{bit, number}

pub bit-lt : (s c : ℕ) → bit s c < 2
unfolding bit
bit-lt s c = omega arith

pub number-ext : (m : ℕ) (d e : ℕ → ℕ) → ((k : ℕ) → k < m → d k ≡ e k) → number m d ≡ number m e
unfolding number
number-ext zero d e h = refl
number-ext (suc m) d e h = ap₂ (λ (x y : ℕ). x * 2 + y) (number-ext m d e (λ k hk. h k (omega arith))) (h m (omega arith))

number_lt : (m : ℕ) (d : ℕ → ℕ) → ((k : ℕ) → d k < 2) → number m d < 2 ^ m
unfolding number
number_lt zero d h = omega arith
number_lt (suc m) d h = omega (arith, number_lt m d h, h m, pow-suc 2 m)

pub number-below : (m n : ℕ) (d : ℕ → ℕ) → ((k : ℕ) → d k < 2) → m ≤ n → number m d < 2 ^ n
number-below m n d h le = omega (arith, number_lt m d h, pow_mono le)

-- the first digit apart
pub number-front : (m : ℕ) (d : ℕ → ℕ) → number (suc m) d ≡ d 0 * 2 ^ m + number m (λ k. d (suc k))
unfolding number
number-front zero d = omega arith
number-front (suc m) d =
    let e : d 0 * 2 ^ suc m ≡ d 0 * 2 ^ m * 2 = ap (λ (z : ℕ). d 0 * z) (pow-suc 2 m) ∙ sym (mul_assoc (d 0) (2 ^ m) 2) in
    omega (arith, number-front m d)

-- a byte is the number with its bits as digits
pub number-bits : (c : ℕ) → IsByte c → number 8 (λ s. bit s c) ≡ c
unfolding number bit
number-bits c h = eqb→eq _ _ (below 256 (λ c. eqb (number 8 (λ s. bit s c)) c) tt c h)

-- ---- products

-- a factor with one more digit
pub digit-times : (q r x : ℕ) → q < 128 → r < 2 → mul (q * 2 + r) x ≡ add (mul 2 (mul q x)) (mul r x)
digit-times q r x hq hr =
    ap (λ (k : ℕ). mul k x) (sym (top 1 (q * 2 + r)) ∙ ap₂ add upper lower) ∙ mul-add-left (q * 2) r x
    ∙ ap (λ (y : ℕ). add y (mul r x)) (ap (λ (k : ℕ). mul k x) (sym (double-small q hq)) ∙ times-assoc 2 q x)
  where
    upper : (q * 2 + r) / 2 ^ 1 * 2 ^ 1 ≡ q * 2
    upper = omega arith

    lower : (q * 2 + r) % 2 ^ 1 ≡ r
    lower = omega arith
