-- Picks by the bits of coefficients. Assumes nothing.
use Rattle.std.specs.Prelude.{◌≡◌, List, ℕ, zero, suc, ◌+◌, ◌*◌, ◌/◌, ◌%◌, ◌^◌, ◌≤◌, length, get_or}
use Rattle.base.specs.Seq.{tabulate}

-- ---- digits

-- bit 7 - s of a byte
unfoldable pub bit : ℕ → ℕ → ℕ
bit s c = c * 2 ^ s / 128 % 2

-- the number with the binary digits d 0 to d (m - 1), the first the highest
unfoldable pub number : ℕ → (ℕ → ℕ) → ℕ
number zero d = 0
number (suc m) d = number m d * 2 + d m

-- ---- picks

-- the eight picks of some coefficients: that of bit 7 - s has their bits as digits
unfoldable pub pick_of : List ℕ → ℕ → ℕ
pick_of coeffs s = number (length coeffs) (λ k. bit s (get_or coeffs k 0))

-- eight bytes become the picks of at most eight coefficients; with other lengths nothing is written
pub record Picks (coeffs old new : List ℕ) : Type 0 where
  pub written : length old ≡ 8 → length coeffs ≤ 8 → new ≡ tabulate 8 (pick_of coeffs)
  pub kept : (length old ≡ 8 → length coeffs ≤ 8 → ⊥) → new ≡ old
