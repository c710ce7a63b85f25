-- Nodes and node sets (document 01, "The arrangement and the record"). A set is also a test on node numbers, f : ℕ → Bool. Assumes nothing.
use Rattle.std.specs.Prelude.{◌≡◌, Bool, true, false, not, ◌&&◌, List, [], ◌∷◌, ◌++◌, ℕ, zero, suc, ◌+◌, ◌-◌, ◌/◌, ◌%◌, ◌^◌, leb, ltb, eqb, length, get_or, take, drop}
use Rattle.std.specs.Int.Bits.{bit_and}
use Rattle.std.specs.Int.Count.{ones}
use Rattle.base.specs.Seq.{one, tabulate}

-- "A choice of traps is a 32-bit number; trap i is worth 2^(i−1), so no trap can be named twice." Node suc j is in the set when bit j is 1.
unfoldable pub has : ℕ → ℕ → Bool
has s zero = false
has s (suc j) = eqb (s / 2 ^ j % 2) 1

-- "Its size is its count of one bits."
unfoldable pub size : ℕ → ℕ
size s = ones s

-- "Does each choice name only traps up to its n?"
unfoldable pub within : ℕ → ℕ → Bool
within n s = ltb s (2 ^ n)

-- "Is L free of R's traps?"
unfoldable pub disjoint : ℕ → ℕ → Bool
disjoint l r = eqb (bit_and l r) 0

-- How many of the nodes 1..n pass the test f: for a node of a set, its rank is the count below it.
unfoldable pub count : (ℕ → Bool) → ℕ → ℕ
count f zero = 0
count f (suc n) = count f n + one (f (suc n))

abbrev pub only : Bool → ℕ → List ℕ
only true i = i ∷ []
only false i = []

-- The nodes of 1..n that pass the test, in rising order.
unfoldable pub nodes : (ℕ → Bool) → ℕ → List ℕ
nodes f zero = []
nodes f (suc n) = nodes f n ++ only (f (suc n)) (suc n)

-- "R's q lowest traps" (document 02, 2026-01), over a test: a node is one of them if it passes, and fewer than q nodes below it do.
unfoldable pub lowest : ℕ → (ℕ → Bool) → ℕ → Bool
lowest q f zero = false
lowest q f (suc j) = f (suc j) && ltb (count f j) q

-- The set's nodes in rising order.
abbrev pub listed : ℕ → List ℕ
listed s = nodes (has s) 32

-- The set's nodes in rising order stand at the front of new, and behind them what old had; the answer is their number. Where old has not 32 places, new is old,
-- and the answer is 0.
pub record Listing (s : ℕ) (old : List ℕ) (answer : ℕ) (new : List ℕ) : Type 0 where
  pub written : length old ≡ 32 → new ≡ listed s ++ drop (size s) old
  pub counted : length old ≡ 32 → answer ≡ size s
  pub kept : (length old ≡ 32 → ⊥) → (new ≡ old) × (answer ≡ 0)

-- The nodes of 1..n outside the set, as a test.
abbrev pub outside : ℕ → ℕ → ℕ → Bool
outside n s i = (leb 1 i && leb i n) && not (has s i)

-- ---- places: node suc j's block is block j

-- The block numbers 0, 1, .., 31.
abbrev pub in_order : List ℕ
in_order = tabulate 32 (λ j. j)

-- The block number of each of the set's nodes, one less than the node's number; 0 behind the last.
abbrev pub places_of : ℕ → List ℕ
places_of s = tabulate 32 (λ j. get_or (listed s) j 0 - 1)

-- The block numbers of the set's nodes stand at the front of new, and behind them what old had; where old has not 32 places, new is old.
pub record Placing (s : ℕ) (old new : List ℕ) : Type 0 where
  pub written : length old ≡ 32 → new ≡ take (size s) (places_of s) ++ drop (size s) old
  pub kept : (length old ≡ 32 → ⊥) → new ≡ old
