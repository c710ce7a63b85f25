-- What the call `invert` answers and leaves in its buffer (document 01, "The matrix inverse" and "Questions at the gate"). Assumes nothing.
use Rattle.std.specs.Prelude.{◌≡◌, Bool, false, ◌&&◌, List, [], ◌∷◌, ◌↔◌, ℕ, ◌*◌, leb, eqb, length}
use Rattle.base.specs.Gate.{Question, ask, first_no}
use Rattle.matrix.specs.Matrix.{IsInverse, Singular, FirstDependent}
use Rattle.matrix.specs.Inversion.{Inversion, Inverted, Singular as SingularAt, Refused}

-- The answer's number in document 01 ..
abbrev pub number : Inversion → ℕ
number Inverted = 0
number (SingularAt c) = 15
number (Refused q) = q

-- .. and the column that goes with 15; 0 where no column is given.
abbrev pub column_number : Inversion → ℕ
column_number Inverted = 0
column_number (SingularAt c) = c
column_number (Refused q) = 0

-- a number has one case: 0 is `Inverted`, and 15 is `Singular`
abbrev pub Proper : Inversion → Type 0
Proper Inverted = Unit {0}
Proper (SingularAt c) = Unit {0}
Proper (Refused q) = (q ≡ 0 → ⊥) × (q ≡ 15 → ⊥)

-- "Is the matrix side from 1 to 32? No: 16."
abbrev pub side_asked : ℕ → Question
side_asked s = ask (leb 1 s && leb s 32) 16

-- "Has each lent slice its exact length? No: 6."
abbrev pub lengths_asked : ℕ → List ℕ → List ℕ → Question
lengths_asked s m buffer = ask (eqb (length m) (s * s) && eqb (length buffer) (s * s)) 6

-- "Has the matrix an inverse? No: 15."
abbrev pub inverse_asked : Bool → Question
inverse_asked answer = ask answer 15

-- "The matrix inverse puts 16, 6, 15." m is the matrix, old and new what the buffer holds before and after.
pub record InvertPost (s : ℕ) (m old : List ℕ) (answer : Inversion) (new : List ℕ) : Type 0 where
  -- the answer to the last question, which is put only where the first two are answered yes
  pub has_inverse : Bool
  pub asked : first_no (side_asked s ∷ lengths_asked s m old ∷ []) ≡ 0 → has_inverse ≡ false ↔ Singular s m
  pub first : number answer ≡ first_no (side_asked s ∷ lengths_asked s m old ∷ inverse_asked has_inverse ∷ [])
  -- "All yes": every byte of the buffer is the inverse's
  pub served : number answer ≡ 0 → IsInverse s m new
  -- "A refusal writes nothing, and besides its number gives only .. the column of 15."
  pub refused : (number answer ≡ 0 → ⊥) → new ≡ old
  pub dependent : number answer ≡ 15 → FirstDependent s m (column_number answer)
  pub no_column : (number answer ≡ 15 → ⊥) → column_number answer ≡ 0
  pub proper : Proper answer
