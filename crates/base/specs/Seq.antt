-- Lists given by their entries, and a test as a number. Assumes nothing.
use Rattle.std.specs.Prelude.{Bool, true, false, List, [], ◌∷◌, ℕ, zero, suc, ◌+◌, ◌*◌, ◌/◌, ◌%◌, get_or}

-- 1 for yes, 0 for no.
abbrev pub one : Bool → ℕ
one true = 1
one false = 0

-- The list of n entries whose entry i is f i.
unfoldable pub tabulate : ℕ → (ℕ → ℕ) → List ℕ
tabulate zero f = []
tabulate (suc n) f = f 0 ∷ tabulate n (λ i. f (suc i))

-- Blocks of b bytes, one after the other: byte p of block j, both counted from 0.
unfoldable pub cell : ℕ → List ℕ → ℕ → ℕ → ℕ
cell b xs j p = get_or xs (j * b + p) 0

-- The n blocks of b bytes whose byte p of block j is f j p.
unfoldable pub blocks : ℕ → ℕ → (ℕ → ℕ → ℕ) → List ℕ
blocks b n f = tabulate (n * b) (λ i. f (i / b) (i % b))
