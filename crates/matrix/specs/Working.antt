-- The working matrix of the elimination, and what each of its steps does: the contracts of the private functions. A matrix is known by the
-- vectors that it takes to zero, which no step changes. Assumes nothing.
use Rattle.std.specs.Prelude.{◌≡◌, List, [], ◌↔◌, ℕ, suc, ◌+◌, ◌≤◌, ◌<◌, length, get_or, Option, Some, None, Result, Ok, Err}
use Rattle.field.specs.Field.{Bytes, add, mul}
use Rattle.field.specs.FiniteSum.{sum}
use Rattle.matrix.specs.Matrix.{entry}
use Rattle.matrix.specs.Product.{unit}
use Rattle.matrix.specs.declared.Uninvertible.{Uninvertible}
use Rattle.matrix.specs.declared.Uninvertible.TheVariants.{Side, Lengths, Singular}

-- The entry of row i and column k.
abbrev pub grid : List (List ℕ) → ℕ → ℕ → ℕ
grid w i k = get_or (get_or w i []) k 0

-- Row i with c times another row added to it.
abbrev pub row_plus : List (List ℕ) → ℕ → ℕ → (ℕ → ℕ) → ℕ → ℕ
row_plus w i c other k = add (grid w i k) (mul c (other k))

-- c times row j.
abbrev pub row_times : List (List ℕ) → ℕ → ℕ → ℕ → ℕ
row_times w c j k = mul c (grid w j k)

-- The 2s entries of row i are those of `row`; all other rows are as they were.
pub record Rewritten (s i : ℕ) (old new : List (List ℕ)) (row : ℕ → ℕ) : Type 0 where
  pub done : (k : ℕ) → k < s + s → grid new i k ≡ row k
  pub others : (h k : ℕ) → (h ≡ i → ⊥) → grid new h k ≡ grid old h k

-- Row i of [m | 1], from row i of m.
pub record LoadedRow (i : ℕ) (entries row : List ℕ) : Type 0 where
  pub left : (k : ℕ) → k < length entries → get_or row k 0 ≡ get_or entries k 0
  pub right : (k : ℕ) → k < length entries → get_or row (length entries + k) 0 ≡ unit i k
  pub bytes : Bytes row

-- [m | 1]
pub record Loaded (s : ℕ) (m : List ℕ) (w : List (List ℕ)) : Type 0 where
  pub left : (i k : ℕ) → i < s → k < s → grid w i k ≡ entry s m i k
  pub right : (i k : ℕ) → i < s → k < s → grid w i (s + k) ≡ unit i k

-- The working matrix, s rows of 2s entries, takes z to zero.
abbrev pub Kills : ℕ → List (List ℕ) → (ℕ → ℕ) → Type 0
Kills s w z = (i : ℕ) → i < s → sum (s + s) (λ k. mul (grid w i k) (z k)) ≡ 0

-- The first j columns are those of the identity.
abbrev pub Units : ℕ → ℕ → List (List ℕ) → Type 0
Units s j w = (i k : ℕ) → i < s → k < j → grid w i k ≡ unit i k

-- The old matrix with its first j columns brought to the identity's.
pub record Reduced (s j : ℕ) (old new : List (List ℕ)) : Type 0 where
  pub same : (z : ℕ → ℕ) → Kills s old z ↔ Kills s new z
  pub units : Units s j new

-- Row p is the first from j on whose entry in column j is not zero.
pub record FoundAt (s j : ℕ) (w : List (List ℕ)) (p : ℕ) : Type 0 where
  pub low : j ≤ p
  pub within : p < s
  pub nonzero : grid w p j ≡ 0 → ⊥
  pub first : (i : ℕ) → i < p → j ≤ i → grid w i j ≡ 0

-- From row j on column j is zero.
abbrev pub Missing : ℕ → ℕ → List (List ℕ) → Type 0
Missing s j w = (i : ℕ) → i < s → j ≤ i → grid w i j ≡ 0

abbrev pub Found : ℕ → ℕ → List (List ℕ) → Option ℕ → Type 0
Found s j w (Some p) = FoundAt s j w p
Found s j w None = Missing s j w

-- Row j has a pivot in column j.
pub record Raised (s j : ℕ) (old new : List (List ℕ)) : Type 0 where
  pub reduced : Reduced s j old new
  pub nonzero : grid new j j ≡ 0 → ⊥

-- The columns before j are the identity's, and row j has its 1: it can clear column j.
pub record Ready (s j : ℕ) (w : List (List ℕ)) : Type 0 where
  pub within : j < s
  pub units : Units s j w
  pub pivot : grid w j j ≡ 1

-- The elimination ends before column j, which has no pivot.
pub record StuckAt (s j : ℕ) (old new : List (List ℕ)) : Type 0 where
  pub within : j < s
  pub reduced : Reduced s j old new
  pub missing : Missing s j new

-- The column that is named is counted from 1; no other refusal comes of an elimination.
abbrev pub Ended : ℕ → List (List ℕ) → List (List ℕ) → Result (Unit {0}) Uninvertible → Type 0
Ended s old new (Ok u) = Reduced s s old new
Ended s old new (Err (Singular c)) = (j : ℕ) × (c ≡ suc j) × StuckAt s j old new
Ended s old new (Err Side) = ⊥
Ended s old new (Err Lengths) = ⊥
