-- "Questions at the gate" (document 01), as data. Assumes nothing.
use Rattle.std.specs.Prelude.{Bool, cond, List, [], ◌∷◌, ℕ}

-- One question of a call: whether its answer is yes, and the number that a no gives.
pub record Question : Type 0 where
  pub answer : Bool
  pub number : ℕ

abbrev pub ask : Bool → ℕ → Question
ask b n = record { answer = b; number = n }

-- "The order is that of the list below; the first no is the answer. All yes: answer 0."
unfoldable pub first_no : List Question → ℕ
first_no [] = 0
first_no (q ∷ qs) = cond q.answer (first_no qs) q.number
