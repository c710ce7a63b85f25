-- Small matrices of coefficients, said by what they take to what. Points come as a list of bytes. Assumes nothing.
use Rattle.std.specs.Prelude.{◌≡◌, List, ℕ, suc, ◌+◌, ◌*◌, ◌≤◌, ◌<◌, length, get_or}
use Rattle.base.specs.Seq.{cell, blocks}
use Rattle.field.specs.Field.{IsByte, add, mul, pow}
use Rattle.field.specs.FiniteSum.{sum}
use Rattle.interpolation.specs.Polynomial.{evaluate, Points}

-- ---- powers of points

-- a row for each point: its powers 1, .., m
unfoldable pub power_rows : ℕ → List ℕ → List ℕ
power_rows m points = blocks m (length points) (λ i j. pow (get_or points i 0) (suc j))

-- new is these rows; where old has another length, nothing is written
pub record PowersPost (points : List ℕ) (m : ℕ) (old new : List ℕ) : Type 0 where
  pub written : length old ≡ length points * m → new ≡ power_rows m points
  pub kept : (length old ≡ length points * m → ⊥) → new ≡ old

-- ---- from values to coefficients

-- The rows take the values of a polynomial at the points, as many as it has coefficients, to its k leading coefficients.
pub record Reads (k : ℕ) (points rows : List ℕ) : Type 0 where
  pub takes : (l : ℕ) (x v : ℕ → ℕ) → k + l ≡ length points → ((j : ℕ) → IsByte (x j)) → ((j : ℕ) → IsByte (v j)) → (j : ℕ) → j < k
      → sum (length points) (λ o. mul (cell (length points) rows j o) (evaluate k l x v (get_or points o 0))) ≡ x j

-- what such rows ask: no more leading coefficients than there are values, at most 32 points, different and none of them 00, and as many bytes as the rows have
pub record Readable (k : ℕ) (points : List ℕ) (rows : ℕ) : Type 0 where
  pub few : k ≤ length points
  pub most : length points ≤ 32
  pub tell : Points points
  pub room : rows ≡ k * length points

pub record ReadsPost (k : ℕ) (points old new : List ℕ) : Type 0 where
  pub same : length new ≡ length old
  pub written : Readable k points (length old) → Reads k points new
  pub kept : (Readable k points (length old) → ⊥) → new ≡ old

-- ---- from leading coefficients and values to other values

-- A polynomial with e leading coefficients x, and as many others as `at` has points, is settled by x and by its values at these points. The rows take them to
-- its values at the targets: the leading ones by `leading`, the values by `gains` (which are Lagrange basis values).
pub record Extends (e : ℕ) (at targets leading gains : List ℕ) : Type 0 where
  pub takes : (x v : ℕ → ℕ) → ((j : ℕ) → IsByte (x j)) → ((j : ℕ) → IsByte (v j)) → (t : ℕ) → t < length targets
      → evaluate e (length at) x v (get_or targets t 0)
      ≡ add (sum e (λ j. mul (cell e leading t j) (x j)))
      (sum (length at) (λ o. mul (cell (length at) gains t o) (evaluate e (length at) x v (get_or at o 0))))

-- what such rows ask: at most 32 leading coefficients, points and targets; points that are different and none of them 00; no target 00; and as many bytes as
-- the rows have
pub record Roomy (e : ℕ) (at targets : List ℕ) (leading gains : ℕ) : Type 0 where
  pub e_most : e ≤ 32
  pub most : length at ≤ 32
  pub few : length targets ≤ 32
  pub tell : Points at
  pub nonzero : (t : ℕ) → t < length targets → get_or targets t 0 ≡ 0 → ⊥
  pub leading_room : leading ≡ length targets * e
  pub gains_room : gains ≡ length targets * length at

pub record ExtendsPost (e : ℕ) (at targets oldLeading oldGains leading gains : List ℕ) : Type 0 where
  pub same_leading : length leading ≡ length oldLeading
  pub same_gains : length gains ≡ length oldGains
  pub written : Roomy e at targets (length oldLeading) (length oldGains) → Extends e at targets leading gains
  pub kept : (Roomy e at targets (length oldLeading) (length oldGains) → ⊥) → (leading ≡ oldLeading) × (gains ≡ oldGains)
