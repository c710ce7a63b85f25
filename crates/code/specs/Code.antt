-- The Read-Write code (document 01, "The arrangement and the record"): what a node's block is. Assumes nothing.
use Rattle.std.specs.Prelude.{◌≡◌, Bool, true, List, ℕ, suc, ◌*◌, ◌<◌, length}
use Rattle.base.specs.Seq.{cell}
use Rattle.field.specs.Field.{Bytes}
use Rattle.interpolation.specs.Polynomial.{evaluate}
use Rattle.params.specs.Nodes.{has, lowest}
use Rattle.params.specs.Params.{slack_parts, working}
use Rattle.params.specs.declared.Params.{Params}

-- "Only the point rule turns the one into the other: the point of trap i is the byte i, written c_i."
unfoldable pub point : ℕ → ℕ
point i = i

-- "Message and slack are their parts in order, B bytes each": as many parts of b bytes as count says.
pub record Parts (b count : ℕ) (xs : List ℕ) : Type 0 where
  pub length_is : length xs ≡ count * b
  pub bytes : Bytes xs

-- "For each byte place within a block, with x_1..x_k the message bytes and v_1..v_l the slack bytes at that place, trap i holds
-- y_i = sum over j = 1..k of x_j·c_i^j, plus sum over j = 1..l of v_j·c_i^(k+j)."
-- Byte p of node i's block, for the message x and the slack v.
unfoldable pub block : Params → List ℕ → List ℕ → ℕ → ℕ → ℕ
block a x v i p = evaluate a.k (slack_parts a) (λ j. cell a.b x j p) (λ j. cell a.b v j p) (point i)

-- A (message, slack) pair of the code.
pub record Pair (a : Params) (x v : List ℕ) : Type 0 where
  pub message : Parts a.b a.k x
  pub slack : Parts a.b (slack_parts a) v

-- The pair gives the blocks that the codeword holds at the nodes of 1..n that pass the test. (Node suc j's block is block j of the codeword: "The
-- record is n·B bytes, trap 1's block first.")
pub record Gives (a : Params) (x v : List ℕ) (S : ℕ → Bool) (codeword : List ℕ) : Type 0 where
  pub pair : Pair a x v
  pub equal : (j p : ℕ) → j < a.n → S (suc j) ≡ true → p < a.b → block a x v (suc j) p ≡ cell a.b codeword j p

-- "A reading, rebuild or rearrangement given R uses R's q lowest traps" (document 02, 2026-01).
abbrev pub used : Params → ℕ → ℕ → Bool
used a from = lowest (working a) (has from)
