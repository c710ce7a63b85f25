-- Vectors and square matrices over the field, of any side (document 01, "The matrix inverse"; document 02, 2026-05). Assumes nothing.
use Rattle.std.specs.Prelude.{◌≡◌, List, ◌↔◌, ℕ, suc, ◌+◌, ◌*◌, ◌≤◌, ◌<◌, length, get_or, replicate}
use Rattle.base.specs.Seq.{tabulate}
use Rattle.field.specs.Field.{Bytes, mul}
use Rattle.field.specs.FiniteSum.{sum}

-- A vector of s bytes.
pub record Vector (s : ℕ) (v : List ℕ) : Type 0 where
  pub count : length v ≡ s
  pub bytes : Bytes v

-- "A square matrix of field values has side s, stored by rows, s·s bytes": the entry of row i and column j, both counted from 0.
unfoldable pub entry : ℕ → List ℕ → ℕ → ℕ → ℕ
entry s m i j = get_or m (i * s + j) 0

-- Matrix times vector: what the matrix takes the vector v to.
unfoldable pub apply : ℕ → List ℕ → List ℕ → List ℕ
apply s m v = tabulate s (λ i. sum s (λ j. mul (entry s m i j) (get_or v j 0)))

-- Column j, counted from 0.
unfoldable pub column : ℕ → List ℕ → ℕ → List ℕ
column s m j = tabulate s (λ i. entry s m i j)

-- n is the inverse of m: m takes x to y exactly when n takes y back to x. Both products of the two are then the identity, and n is determined
-- (proofs/Laws.antt).
pub record IsInverse (s : ℕ) (m n : List ℕ) : Type 0 where
  pub count : length n ≡ s * s
  pub bytes : Bytes n
  pub solves : (x y : List ℕ) → Vector s x → Vector s y → apply s m x ≡ y ↔ x ≡ apply s n y

-- "The matrix has no inverse exactly when some vector of s bytes, not all 00, is taken to all 00 by it."
pub record Singular (s : ℕ) (m : List ℕ) : Type 0 where
  pub vector : List ℕ
  pub sized : Vector s vector
  pub nonzero : vector ≡ replicate s 0 → ⊥
  pub taken : apply s m vector ≡ replicate s 0

-- Column j, counted from 0, "is a sum of multiples of the columns before it (a column of 00 counts)" (document 02, 2026-05): the multiples make a vector that is
-- 00 from place j on. Where all of them are 00, or no column is before it, the column is 00.
pub record Dependent (s : ℕ) (m : List ℕ) (j : ℕ) : Type 0 where
  pub multiples : List ℕ
  pub sized : Vector s multiples
  pub before : (k : ℕ) → j ≤ k → get_or multiples k 0 ≡ 0
  pub combined : apply s m multiples ≡ column s m j

-- "Then the answer also carries a column number, from 1 to s", which "is now the first that is a sum of multiples of the columns before it": such a column,
-- and none before it is one.
pub record FirstDependent (s : ℕ) (m : List ℕ) (number : ℕ) : Type 0 where
  pub place : ℕ
  pub counted : number ≡ suc place
  pub within : place < s
  pub here : Dependent s m place
  pub none_before : (j : ℕ) → j < place → Dependent s m j → ⊥
