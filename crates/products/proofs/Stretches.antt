-- A part of a list as the code lends it: its length, its entries and its end. Assumes nothing.
use mathlib.Core.Path.{◌≡◌, ap, ◌∙◌}
use mathlib.Core.List.{List}
use Prim.Native.Nat.{ℕ, ◌+◌, ◌-◌, ◌*◌, ◌≤◌, ◌<◌}
use native.Mathlib.Nat.{suc-mul}
use native.Mathlib.Omega.{arith}
use lib.ListN.{length, get_or, take, drop}
use Rattle.base.specs.Seq.{cell}
use Rattle.base.proofs.Parts.{length-lent, lent_at}
use Rattle.products.specs.Blocks.{Inside}

-- the n bytes of xs from a on, as the code lends them
abbrev pub stretch : ℕ → ℕ → List ℕ → List ℕ
stretch a n xs = take (a + n - a) (drop a xs)

-- row i of coefficients
abbrev pub row_of : ℕ → ℕ → ℕ → List ℕ → List ℕ
row_of stride width i coeffs = stretch (i * stride) width coeffs

pub length-stretch : (a n : ℕ) (xs : List ℕ) → a + n ≤ length xs → length (stretch a n xs) ≡ n
length-stretch a n xs h = length-lent a (a + n - a) xs (omega arith) ∙ omega arith

pub stretch-at : (a n : ℕ) (xs : List ℕ) (p : ℕ) → p < n → get_or (stretch a n xs) p 0 ≡ get_or xs (a + p) 0
stretch-at a n xs p h = lent_at a (a + n - a) xs p (omega arith)

-- w bytes from `at` on of block k
pub stretch-cell : (b at w k : ℕ) (xs : List ℕ) (p : ℕ) → p < w → get_or (stretch (k * b + at) w xs) p 0 ≡ cell b xs k (at + p)
unfolding cell
stretch-cell b at w k xs p h =
    let e : k * b + at + p ≡ k * b + (at + p) = omega arith in
    stretch-at (k * b + at) w xs p h ∙ ap (λ (q : ℕ). get_or xs q 0) e

-- w bytes from `at` on of the block that a place names, k as it was read, end within a slice as long as src
pub stretch-ends : (b at w : ℕ) {j k src long : ℕ} (places : List ℕ) → k ≡ get_or places j 0 → long ≡ src → at + w ≤ b → j < length places → Inside b places src
    → k * b + at + w ≤ long
stretch-ends b at w {j} places e l h hj f = omega (arith, ap (λ (x : ℕ). x * b) e, f j hj, suc-mul (get_or places j 0) b)
