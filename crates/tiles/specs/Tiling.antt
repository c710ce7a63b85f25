-- What the functions of the products in tiles compute; no statement about a call rests on these names. A tile is t bytes of a block: 64, or 16 in the short
-- product. Columns go in groups of at most five, and the table of a group has up to 32 tiles, the sums over every choice of its columns. Assumes nothing.
use Rattle.std.specs.Prelude.{◌≡◌, List, ℕ, zero, suc, ◌+◌, ◌-◌, ◌*◌, ◌/◌, ◌≤◌, ◌<◌, min, length, get_or}
use Rattle.base.specs.Seq.{tabulate, cell}
use Rattle.base.specs.Parts.{part_of}
use Rattle.field.specs.Field.{add, mul, plus}
use Rattle.field.specs.FiniteSum.{sum}
use Rattle.picks.specs.Picks.{bit, number}

-- ---- groups

-- n columns in groups of the given size, at most five; the last has those that are left
pub record Grouped (n groups size : ℕ) : Type 0 where
  pub few : size ≤ 5
  pub begins : (g : ℕ) → g < groups → g * size ≤ n
  pub all : n ≤ groups * size

-- how many groups n columns make, and how large: as few as can be, but one where there is no column, and then as small
abbrev pub groups_of : ℕ → ℕ
groups_of n = suc ((n - 1) / 5)

abbrev pub size_of : ℕ → ℕ
size_of n = (n + (n - 1) / 5) / groups_of n

-- how many of n columns are in group g
unfoldable pub columns : ℕ → ℕ → ℕ → ℕ
columns size n g = min size (n - g * size)

-- ---- tables

-- c·xs, byte by byte
unfoldable pub multiple : ℕ → List ℕ → List ℕ
multiple c xs = tabulate (length xs) (λ p. mul c (get_or xs p 0))

-- byte p of column k's tile, which begins at byte `at` of its block
abbrev pub tile_at : ℕ → ℕ → List ℕ → List ℕ → ℕ → ℕ → ℕ
tile_at b at src places k p = cell b src (get_or places k 0) (at + p)

-- entry half + m of a table, for m below k, is entry m plus part; the entries below half are as they were
pub record Raised (t half k : ℕ) (part old new : List ℕ) : Type 0 where
  pub same : length new ≡ length old
  pub lower : (n p : ℕ) → n < half → p < t → cell t new n p ≡ cell t old n p
  pub upper : (m p : ℕ) → m < k → p < t → cell t new (half + m) p ≡ add (cell t old m p) (get_or part p 0)

-- a group's table, byte p of column k being x k p: the entry that m digits name is the sum of the columns whose digit is 1
pub record Chosen (t w m : ℕ) (x : ℕ → ℕ → ℕ) (old new : List ℕ) : Type 0 where
  pub same : length new ≡ length old
  pub entry : (d : ℕ → ℕ) (p : ℕ) → ((k : ℕ) → d k < 2) → p < w → cell t new (number m d) p ≡ sum m (λ k. mul (d k) (x k p))

-- new has such tables of so many groups, of the w bytes from `at` on of the block at each place. Each has room for 32 entries
pub record Tabled (t b at w size : ℕ) (src places : List ℕ) (groups : ℕ) (old new : List ℕ) : Type 0 where
  pub same : length new ≡ length old
  pub entry : (g : ℕ) (d : ℕ → ℕ) (p : ℕ) → g < groups → ((k : ℕ) → d k < 2) → p < w
      → cell t new (g * 32 + number (columns size (length places) g) d) p
      ≡ sum (columns size (length places) g) (λ k. mul (d k) (tile_at b at src places (g * size + k) p))

-- ---- picks

-- row i of the picks of so many groups is that of the given coefficients; the other rows are as they were
pub record RowPicked (i size : ℕ) (coeffs : List ℕ) (groups : ℕ) (old new : List ℕ) : Type 0 where
  pub same : length new ≡ length old
  pub done : (g s : ℕ) → g < groups → s < 8
      → cell 256 new g (i * 8 + s) ≡ number (columns size (length coeffs) g) (λ k. bit s (get_or coeffs (g * size + k) 0))
  pub rest : (g j s : ℕ) → (j ≡ i → ⊥) → s < 8 → j < 32 → cell 256 new g (j * 8 + s) ≡ cell 256 old g (j * 8 + s)

-- the picks of each of the rows and groups: that of bit 7 - s has the digits that are this bit of the coefficients of row i in group g
pub record Picked (rows stride : ℕ) (coeffs : List ℕ) (n groups size : ℕ) (old new : List ℕ) : Type 0 where
  pub same : length new ≡ length old
  pub pick : (g s i : ℕ) → g < groups → s < 8 → i < rows
      → cell 256 new g (i * 8 + s) ≡ number (columns size n g) (λ k. bit s (cell stride coeffs i (g * size + k)))

-- ---- rows

-- byte p of the sum of one entry of each group's table: those that the groups' picks at place q name
unfoldable pub named : ℕ → ℕ → List ℕ → List ℕ → ℕ → ℕ → ℕ
named t groups table picks q p = sum groups (λ g. cell t table (g * 32 + cell 256 picks g q) p)

-- row i by the first s bits from the top: twice what those before gave, plus the sum of the last
unfoldable pub by_bits : ℕ → ℕ → List ℕ → List ℕ → ℕ → ℕ → ℕ → ℕ
by_bits t groups table picks i zero p = 0
by_bits t groups table picks i (suc s) p = add (mul 2 (by_bits t groups table picks i s p)) (named t groups table picks (i * 8 + s) p)

-- new is old plus the entry that the pick of group g names, if there are so many groups
pub record Stepped (t groups : ℕ) (table picks : List ℕ) (g q : ℕ) (old new : List ℕ) : Type 0 where
  pub inside : g < groups → new ≡ plus old (part_of t (g * 32 + cell 256 picks g q) table)
  pub beyond : groups ≤ g → new ≡ old

-- new is old plus the sum of the entries that the picks at place q name
pub record Gathered (t groups : ℕ) (table picks : List ℕ) (q : ℕ) (old new : List ℕ) : Type 0 where
  pub same : length new ≡ length old
  pub sums : (p : ℕ) → p < t → get_or new p 0 ≡ add (get_or old p 0) (named t groups table picks q p)

-- every group's pick at place q names an entry that the table has
pub record Reached (t groups q : ℕ) (table picks : List ℕ) : Type 0 where
  pub place : (g : ℕ) → g < groups → g * 256 + q < length picks
  pub entry : (g : ℕ) → g < groups → (g * 32 + cell 256 picks g q) * t + t ≤ length table
