-- The library's functions for C and Rust, on numbers and slices: what they write beside the calls' own buffers. Assumes nothing.
use Rattle.std.specs.Prelude.{◌≡◌, List, ℕ, ◌-◌, ◌*◌, length, take, drop}
use Rattle.gates.specs.Gates.{view_gate}
use Rattle.params.specs.declared.Params.{Params}
use Rattle.params.specs.declared.Shape.{Shape}
use Rattle.matrix.specs.Invert.{InvertPost, column_number}
use Rattle.matrix.specs.Invert as matrix
use Rattle.matrix.specs.Inversion.{Inversion}
use Rattle.code.specs.Calls.{CheckPost, ViewPost, number}
use Rattle.code.specs.Verdict.{Verdict, Refused, Blamed}

-- "An arrangement is k, r, w, n, B", from its five numbers ..
abbrev pub params : ℕ → ℕ → ℕ → ℕ → ℕ → Params
params k r w n b = record { k = k; r = r; w = w; n = n; b = b }

-- .. and the one to which a rearrangement goes, "k', r', w', n', same B", from its four
abbrev pub shape : ℕ → ℕ → ℕ → ℕ → Shape
shape k r w n = record { k = k; r = r; w = w; n = n }

-- a number that is written beside the answer, where the call is served: "A refusal writes nothing"
pub record Gave (answer given old new : ℕ) : Type 0 where
  pub served : answer ≡ 0 → new ≡ given
  pub refused : (answer ≡ 0 → ⊥) → new ≡ old

-- check, "it returns the set, the number tried and how far the size may be above the smallest" (document 02, 2026-06): what is then in three numbers; a refused
-- one writes none of them
abbrev pub CheckWrote : Verdict → (oldSet oldTried oldDistance set tried distance : ℕ) → Type 0
CheckWrote (Refused q) oldSet oldTried oldDistance set tried distance = (set ≡ oldSet) × (tried ≡ oldTried) × (distance ≡ oldDistance)
CheckWrote (Blamed blame) oldSet oldTried oldDistance set tried distance =
    (set ≡ blame.set.0) × (tried ≡ blame.tried) × (distance ≡ blame.distance)

pub record CheckGave (a : Params) (codeword : List ℕ) (budget oldSet oldTried oldDistance answer set tried distance : ℕ) : Type 0 where
  pub verdict : Verdict
  pub post : CheckPost a codeword budget verdict
  pub answers : answer ≡ number verdict
  pub wrote : CheckWrote verdict oldSet oldTried oldDistance set tried distance

-- view, "the part of the record that is trap i's block": where it begins, with i - 1 blocks before it, "trap 1's block first". The B bytes from there on are
-- the part that the view returns.
pub record ViewGave (a : Params) (codeword : List ℕ) (i old answer new : ℕ) : Type 0 where
  pub answers : answer ≡ view_gate a (length codeword) i
  pub gave : Gave answer ((i - 1) * a.b) old new
  pub part : answer ≡ 0 → ViewPost a codeword i (take a.b (drop new codeword))

-- the matrix inverse: "besides its number gives only .. the column of 15"
pub record InvertGave (s : ℕ) (m oldOut newOut : List ℕ) (old answer new : ℕ) : Type 0 where
  pub inversion : Inversion
  pub post : InvertPost s m oldOut inversion newOut
  pub answers : answer ≡ matrix.number inversion
  pub column : answer ≡ 15 → new ≡ column_number inversion
  pub none : (answer ≡ 15 → ⊥) → new ≡ old
