-- The edges of the questions 1 to 5 and 11 to 14, and working numbers (document 01; document 02, 2026-01): three tables, and a theorem over the rows of each, by
-- computing. Assumes nothing.
use mathlib.Core.Path.{◌≡◌, refl}
use mathlib.Core.List.{List, [], ◌∷◌}
use Prim.Native.Nat.{ℕ}
use Rattle.base.specs.Gate.{first_no}
use Rattle.params.specs.Params.{slack_parts, working, shape_of}
use Rattle.gates.specs.Gates.{shape_asked, params_asked}
use Rattle.params.specs.declared.Params.{Params}

-- Parameters, and the number that the documents give them.
pub record Edge : Type 0 where
  pub params : Params
  pub number : ℕ

-- k, r, w, n, B in document 01's order, and the number
abbrev edge : ℕ → ℕ → ℕ → ℕ → ℕ → ℕ → Edge
edge k r w n b number = record { params = record { k = k; r = r; w = w; n = n; b = b }; number = number }

abbrev pub edges : List Edge
edges =
    edge 1 1 32 32 16 0 ∷
    edge 2 3 3 4 16 0 ∷
    edge 1 1 33 33 16 1 ∷
    edge 2 5 3 4 16 2 ∷
    edge 0 1 1 2 16 3 ∷
    edge 3 2 3 4 16 3 ∷
    edge 3 3 3 4 16 4 ∷
    edge 1 2 3 3 16 0 ∷
    edge 1 32 32 32 16 0 ∷
    edge 2 3 3 4 1024 0 ∷
    edge 2 3 3 4 0 5 ∷
    edge 2 3 3 4 1025 5 ∷ []

-- The first four questions for a new arrangement, .. (B has no part in them)
abbrev pub new-edges : List Edge
new-edges =
    edge 1 2 3 3 16 0 ∷
    edge 1 1 33 33 16 11 ∷
    edge 2 5 3 4 16 12 ∷
    edge 0 1 1 2 16 13 ∷
    edge 3 3 3 4 16 14 ∷ []

-- .. and working numbers.
abbrev pub workings : List Edge
workings =
    edge 2 3 3 4 16 3 ∷
    edge 1 2 3 3 16 1 ∷
    edge 1 32 32 32 16 1 ∷ []

-- each row's number is what its parameters have
abbrev pub All : (Params → ℕ) → List Edge → Type 0
All of [] = Unit
All of (e ∷ es) = (of e.params ≡ e.number) × All of es

pub all_edges : All (λ a. first_no (params_asked a)) edges
unfolding first_no
all_edges = (refl, (refl, (refl, (refl, (refl, (refl, (refl, (refl, (refl, (refl, (refl, (refl, tt))))))))))))

pub all-new-edges : All (λ a. first_no (shape_asked 10 (shape_of a))) new-edges
unfolding first_no
all-new-edges = (refl, (refl, (refl, (refl, (refl, tt)))))

pub all-workings : All working workings
unfolding working slack_parts
all-workings = (refl, (refl, (refl, tt)))
