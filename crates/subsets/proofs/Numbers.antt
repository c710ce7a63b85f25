-- The next number with as many one bits. A number that is not 0 is, from the top: h, a zero, suc m ones, a zeros. The next carries the run of ones into the zero
-- above it, and has the run's other m ones at the bottom; a number between has more ones below the carry, and fewer from there on. Assumes nothing.
use mathlib.Core.Path.{◌≡◌, sym, ap, ap₂, ◌∙◌, subst}
use mathlib.Core.Logic.{⊎_elim}
use Prim.Native.Nat.{ℕ, zero, suc, ◌+◌, ◌-◌, ◌*◌, ◌/◌, ◌%◌, ◌^◌, ◌≤◌, ◌<◌}
use native.Mathlib.Nat.{le_refl, add-zero, mul-le-mul_right, not-suc-le-zero, lt_of_lt_of_le, one-mul, mul_comm, mul_assoc, pow-suc}
use native.Mathlib.Omega.{arith}
use lib.Bits.{shifted_half, shifted_even}
use lib.Count.{ones, ones_step, ones_cat, ones-ones, count_trailing_zeros, under}
use lib.Pow.{pow_pos, pow_mono, pow-add, shl_exact}
use Rattle.base.proofs.Cases.{lt-or, eq-or}
use Rattle.params.specs.Nodes.{size}
use Rattle.subsets.specs.Numbers.{Above}

-- ---- ones

-- a number below k ones has fewer than k
pub ones-short : (k u : ℕ) → u < 2 ^ k - 1 → ones u < k
ones-short zero u h = absurd (not-suc-le-zero h)
ones-short (suc k) u h =
    ⊎_elim (λ (l : u / 2 < 2 ^ k - 1). omega (arith, ones_step u, ones-short k (u / 2) l))
    (λ (g : 2 ^ k - 1 ≤ u / 2).
    let e : u / 2 ≡ 2 ^ k - 1 = omega (arith, pow-suc 2 k) in
    let z : u % 2 ≡ 0 = omega (arith, pow-suc 2 k, pow_pos k) in
    omega (arith, ones_step u, ap ones e, ones-ones k))
    (lt-or (u / 2) (2 ^ k - 1))

pub ones_pos : (k u : ℕ) → u < 2 ^ k → 0 < u → 0 < ones u
ones_pos zero u h g = absurd (omega arith)
ones_pos (suc k) u h g =
    ⊎_elim (λ (e : u / 2 ≡ 0). omega (arith, ones_step u))
    (λ ne. omega (arith, ones_step u, ones_pos k (u / 2) (omega (arith, pow-suc 2 k)) (omega (arith, ne)))) (eq-or (u / 2) 0)

ones_odd : (h : ℕ) → ones (h * 2 + 1) ≡ ones h + 1
ones_odd h = ones_cat 1 h 1 (omega arith) ∙ ap (λ (x : ℕ). ones h + x) (ones-ones 1)

-- ---- the number of given parts

-- h, a zero and suc m ones
abbrev pub top : ℕ → ℕ → ℕ
top h m = h * 2 ^ suc (suc m) + (2 ^ suc m - 1)

module _ (h m : ℕ) where
  top-more : top h m + 1 ≡ (h * 2 + 1) * 2 ^ suc m
  top-more =
      let twice : h * 2 ^ suc (suc m) ≡ h * 2 * 2 ^ suc m = ap (λ (x : ℕ). h * x) (pow-suc 2 (suc m)) ∙ omega arith in
      omega (arith, twice, pow_pos (suc m))

  top-odd : top h m ≡ top h m / 2 * 2 + 1
  top-odd = omega (arith, top-more, ap (λ (x : ℕ). (h * 2 + 1) * x) (pow-suc 2 m), mul_assoc (h * 2 + 1) (2 ^ m) 2)

  ones-top : ones (top h m) ≡ ones h + suc m
  ones-top =
      ones_cat (suc (suc m)) h (2 ^ suc m - 1) (omega (arith, pow-suc 2 (suc m), pow_pos (suc m))) ∙ ap (λ (x : ℕ). ones h + x) (ones-ones (suc m))

module _ (h a m : ℕ) where
  carry : top h m * 2 ^ a + 2 ^ a ≡ (h * 2 + 1) * 2 ^ (a + suc m)
  carry =
      let both : 2 ^ (a + suc m) ≡ 2 ^ suc m * 2 ^ a = pow-add 2 a (suc m) ∙ mul_comm (2 ^ a) (2 ^ suc m) in
      omega (arith, ap (λ (x : ℕ). x * 2 ^ a) (top-more h m), mul_assoc (h * 2 + 1) (2 ^ suc m) (2 ^ a), ap (λ (x : ℕ). (h * 2 + 1) * x) both)

  -- u in place of the zeros
  ones_low : (u : ℕ) → u < 2 ^ a → ones (top h m * 2 ^ a + u) ≡ ones h + suc m + ones u
  ones_low u l = ones_cat a (top h m) u l ∙ ap (λ (x : ℕ). x + ones u) (ones-top h m)

  -- u below the carried one
  ones-carried : (u : ℕ) → u < 2 ^ m → ones (top h m * 2 ^ a + 2 ^ a + u) ≡ suc (ones h) + ones u
  ones-carried u l =
      ap (λ (x : ℕ). ones (x + u)) carry
      ∙ ones_cat (a + suc m) (h * 2 + 1) u (lt_of_lt_of_le l (pow_mono {i = m} {j = a + suc m} (omega arith)))
      ∙ omega (arith, ones_odd h)

  size-here : size (top h m * 2 ^ a) ≡ ones h + suc m
  unfolding size
  size-here = omega (arith, ap ones (add-zero (top h m * 2 ^ a)), ones_low 0 (pow_pos a), ones-ones 0)

  above : Above (top h m * 2 ^ a) (top h m * 2 ^ a + 2 ^ a + (2 ^ m - 1))
  unfolding size
  above =
      record {
        more = omega (arith, pow_pos a);
        same_size = omega (arith, ones-carried (2 ^ m - 1) (omega (arith, pow_pos m)), ones-ones m, size-here);
        none_between = λ u low high e.
            ⊎_elim
            (λ (l : u < top h m * 2 ^ a + 2 ^ a).
            let d = u - top h m * 2 ^ a in
            let is : top h m * 2 ^ a + d ≡ u = omega arith in
            omega (arith, ap ones is, ones_low d (omega arith), ones_pos a d (omega arith) (omega arith), size-here))
            (λ (g : top h m * 2 ^ a + 2 ^ a ≤ u).
            let d = u - (top h m * 2 ^ a + 2 ^ a) in
            let is : top h m * 2 ^ a + 2 ^ a + d ≡ u = omega arith in
            omega (arith, ap ones is, ones-carried d (omega arith), ones-short m d (omega arith), size-here))
            (lt-or u (top h m * 2 ^ a + 2 ^ a));
      }

-- ---- the parts of a number that is not 0

-- by k halvings at most
odd_part : (k n : ℕ) → n ≤ k → 0 < n → (b : ℕ) × (q : ℕ) × (n ≡ (q * 2 + 1) * 2 ^ b)
odd_part zero n l p = absurd (omega arith)
odd_part (suc k) n l p =
    ⊎_elim (λ (e : n % 2 ≡ 1). (0, n / 2, omega arith))
    (λ (ne : n % 2 ≡ 1 → ⊥).
    let z : n % 2 ≡ 0 = omega arith in
    let r = odd_part k (n / 2) (omega arith) (omega arith) in
    let x = r.1 * 2 + 1 in
    (suc r.0, r.1, omega (arith, r.2, ap (λ (y : ℕ). x * y) (pow-suc 2 r.0), mul_assoc x (2 ^ r.0) 2)))
    (eq-or (n % 2) 1)

-- The parts of s.
pub record Parts (s : ℕ) : Type 0 where
  pub h : ℕ
  pub a : ℕ
  pub m : ℕ
  pub is : s ≡ top h m * 2 ^ a

pub parts : (s : ℕ) → 0 < s → Parts s
parts s p =
    let r = odd_part s s (le_refl s) p in
    let q = odd_part (r.1 + 1) (r.1 + 1) (le_refl _) (omega arith) in
    let x = q.1 * 2 + 1 in
    let odd : r.1 * 2 + 1 ≡ top q.1 q.0 =
    omega (arith, q.2, top-more q.1 q.0, ap (λ (y : ℕ). x * y) (pow-suc 2 q.0), mul_assoc x (2 ^ q.0) 2) in
    record { h = q.1; a = r.0; m = q.0; is = r.2 ∙ ap (λ (y : ℕ). y * 2 ^ r.0) odd }

pub above-parts : {s : ℕ} (w : Parts s) → Above s (s + 2 ^ w.a + (2 ^ w.m - 1))
above-parts w = subst (λ (x : ℕ). Above x (x + 2 ^ w.a + (2 ^ w.m - 1))) (sym w.is) (above w.h w.a w.m)

-- b zeros stand below the lowest one
trailing-of : (k b q : ℕ) → b < k → count_trailing_zeros k ((q * 2 + 1) * 2 ^ b) ≡ b
unfolding count_trailing_zeros
trailing-of zero b q l = absurd (not-suc-le-zero l)
trailing-of (suc k) zero q l =
    let e : (q * 2 + 1) * 1 % 2 ≡ 1 = omega arith in
    ap (λ (x : ℕ). under x (count_trailing_zeros k ((q * 2 + 1) * 1 / 2))) e
trailing-of (suc k) (suc b) q l =
    ap₂ under (shifted_even (q * 2 + 1) b) (ap (count_trailing_zeros k) (shifted_half (q * 2 + 1) b) ∙ trailing-of k b q (omega arith))

-- an exponent from its power
exponent_lt : (i j : ℕ) → 2 ^ i < 2 ^ j → i < j
exponent_lt i j h = ⊎_elim (λ l. l) (λ (g : j ≤ i). absurd (omega (arith, pow_mono g))) (lt-or i j)

-- ---- the code's steps

-- 1 shifted by less than the width
pub wide-shifted : (n : ℕ) → n < 64 → 1 * 2 ^ n % 2 ^ 64 ≡ 2 ^ n
wide-shifted n h = shl_exact 1 n 64 (le_refl 2) (omega arith) ∙ one-mul (2 ^ n)

-- the code's values: where the run begins, the number with the run carried, where its lowest one is, and how many ones of the run are left
abbrev pub low : ℕ → ℕ
low s = count_trailing_zeros 32 s

abbrev pub carried : ℕ → ℕ
carried s = s + 1 * 2 ^ low s % 2 ^ 64

abbrev pub high : ℕ → ℕ
high s = count_trailing_zeros 64 (carried s)

abbrev pub others : ℕ → ℕ
others s = high s - low s - 1

module _ (s : ℕ) (some : 0 < s) (word : s < 2 ^ 32) where
  abbrev w : Parts s
  w = parts s some

  power_le : 2 ^ w.a ≤ s
  power_le =
      let odd : 1 ≤ top w.h w.m = omega (arith, top-odd w.h w.m) in
      omega (arith, w.is, mul-le-mul_right (2 ^ w.a) odd)

  a_lt : w.a < 32
  a_lt = exponent_lt w.a 32 (omega (arith, power_le))

  low-is : low s ≡ w.a
  low-is =
      ap (count_trailing_zeros 32) (w.is ∙ ap (λ (x : ℕ). x * 2 ^ w.a) (top-odd w.h w.m)) ∙ trailing-of 32 w.a (top w.h w.m / 2) a_lt

  pub low-lt : low s < 32
  low-lt = omega (arith, low-is, a_lt)

  carried-is : carried s ≡ s + 2 ^ w.a
  carried-is = omega (arith, wide-shifted (low s) (omega (arith, low-lt)), ap (λ (x : ℕ). 2 ^ x) low-is)

  pub carried-lt : carried s < 2 ^ 33
  carried-lt = omega (arith, carried-is, power_le)

  carried-odd : carried s ≡ (w.h * 2 + 1) * 2 ^ (w.a + suc w.m)
  carried-odd = carried-is ∙ ap (λ (x : ℕ). x + 2 ^ w.a) w.is ∙ carry w.h w.a w.m

  ends-lt : w.a + suc w.m < 33
  ends-lt =
      exponent_lt (w.a + suc w.m) 33
      (omega (arith, carried-lt, carried-odd, mul-le-mul_right {m = 1} {n = w.h * 2 + 1} (2 ^ (w.a + suc w.m)) (omega arith)))

  high_is : high s ≡ w.a + suc w.m
  high_is = ap (count_trailing_zeros 64) carried-odd ∙ trailing-of 64 (w.a + suc w.m) w.h (omega (arith, ends-lt))

  pub high-more : low s < high s
  high-more = omega (arith, low-is, high_is)

  others-is : others s ≡ w.m
  others-is = omega (arith, low-is, high_is)

  pub others-lt : others s < 32
  others-lt = omega (arith, others-is, ends-lt)

  pub others-shifted : 1 * 2 ^ others s % 2 ^ 64 ≡ 2 ^ others s
  others-shifted = wide-shifted (others s) (omega (arith, others-lt))

  pub next-above : Above s (carried s + (1 * 2 ^ others s % 2 ^ 64 - 1))
  next-above =
      let is : carried s + (1 * 2 ^ others s % 2 ^ 64 - 1) ≡ s + 2 ^ w.a + (2 ^ w.m - 1) =
      omega (arith, carried-is, others-shifted, ap (λ (x : ℕ). 2 ^ x) others-is) in
      subst (Above s) (sym is) (above-parts w)
