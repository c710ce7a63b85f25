-- What the loops over the bytes of blocks compute, for slices of any lengths. Assumes nothing.
use Rattle.std.specs.Prelude.{◌≡◌, Bool, true, false, List, ℕ, suc, ◌+◌, ◌*◌, ◌≤◌, ◌<◌, eqb, length, get_or}
use Rattle.base.specs.Seq.{tabulate, cell}
use Rattle.field.specs.Field.{add, mul}
use Rattle.field.specs.FiniteSum.{sum}

-- ---- a matrix of coefficients times blocks

-- Byte p of row i: the sum of the blocks of src at the given places, each times its coefficient. Row i of the coefficients begins at i·stride.
unfoldable pub product : ℕ → List ℕ → List ℕ → List ℕ → ℕ → ℕ → ℕ → ℕ
product b src places coeffs stride i p = sum (length places) (λ j. mul (cell stride coeffs i j) (cell b src (get_or places j 0) p))

-- x where the test holds, else 0
abbrev pub when : Bool → ℕ → ℕ
when true x = x
when false x = 0

-- what block j gets of the first n terms of f, where term i goes to the block that targets names at place i: the sum of those that go there
unfoldable pub arriving : ℕ → List ℕ → (ℕ → ℕ) → ℕ → ℕ
arriving n targets f j = sum n (λ i. when (eqb (get_or targets i 0) j) (f i))

-- What a product asks of the lengths of src, coeffs and out: blocks are not empty, each target names a block that out has, there is a row of coefficients for it, and
-- each place names a block that src has.
pub record Fits (b stride : ℕ) (targets places : List ℕ) (src coeffs out : ℕ) : Type 0 where
  pub some : 0 < b
  pub target : (i : ℕ) → i < length targets → suc (get_or targets i 0) * b ≤ out
  pub row : (i : ℕ) → i < length targets → i * stride + length places ≤ coeffs
  pub block : (j : ℕ) → j < length places → suc (get_or places j 0) * b ≤ src

-- each block of new is that of old plus the rows that go to it; where the product does not fit, nothing is written
pub record Added (b stride : ℕ) (src targets places coeffs old new : List ℕ) : Type 0 where
  pub same : length new ≡ length old
  pub written : Fits b stride targets places (length src) (length coeffs) (length old) → (j p : ℕ) → p < b
      → cell b new j p ≡ add (cell b old j p) (arriving (length targets) targets (λ i. product b src places coeffs stride i p) j)
  pub kept : (Fits b stride targets places (length src) (length coeffs) (length old) → ⊥) → new ≡ old

-- ---- of the functions behind a product; no statement about a call rests on these names

-- each of the rows of coefficients ends within them
abbrev pub Rows : ℕ → ℕ → ℕ → ℕ → Type 0
Rows rows width stride coeffs = (i : ℕ) → i < rows → i * stride + width ≤ coeffs

-- each place names a block of b bytes that src has
abbrev pub Inside : ℕ → List ℕ → ℕ → Type 0
Inside b places src = (j : ℕ) → j < length places → suc (get_or places j 0) * b ≤ src

-- xs + c·ys, byte by byte
unfoldable pub plus_multiple : List ℕ → ℕ → List ℕ → List ℕ
plus_multiple xs c ys = tabulate (length xs) (λ p. add (get_or xs p 0) (mul c (get_or ys p 0)))

-- byte p of the sum of the blocks of src at the given places, each times its coefficient
unfoldable pub combined : ℕ → List ℕ → List ℕ → List ℕ → ℕ → ℕ
combined b src places coeffs p = sum (length places) (λ j. mul (get_or coeffs j 0) (cell b src (get_or places j 0) p))

-- new is old plus such a sum's bytes from `at` on
pub record Accumulated (b at : ℕ) (src places coeffs old new : List ℕ) : Type 0 where
  pub same : length new ≡ length old
  pub sums : (p : ℕ) → p < length old → get_or new p 0 ≡ add (get_or old p 0) (combined b src places coeffs (at + p))

-- to the w bytes from `at` on of each block the first k rows of f are added that go to it; all else is as it was
pub record Spanned (b at w : ℕ) (targets : List ℕ) (f : ℕ → ℕ → ℕ) (k : ℕ) (old new : List ℕ) : Type 0 where
  pub same : length new ≡ length old
  pub done : (j p : ℕ) → p < w → cell b new j (at + p) ≡ add (cell b old j (at + p)) (arriving k targets (λ i. f i p) j)
  pub front : (j p : ℕ) → p < at → cell b new j p ≡ cell b old j p
  pub back : (j p : ℕ) → at + w ≤ p → p < b → cell b new j p ≡ cell b old j p
