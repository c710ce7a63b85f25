-- Lists that the code writes entry by entry or block by block, for contracts of private functions. Assumes nothing.
use Rattle.std.specs.Prelude.{◌≡◌, List, ℕ, ◌+◌, ◌-◌, ◌*◌, ◌≤◌, ◌<◌, length, get_or, take, drop}
use borrow.Rule.Slice.PartMut.{put_mid}
use Rattle.base.specs.Seq.{cell}

-- the first t entries are f's, the others as they were
pub record Filled (f : ℕ → ℕ) (t : ℕ) (old new : List ℕ) : Type 0 where
  pub same : length new ≡ length old
  pub done : (q : ℕ) → q < t → get_or new q 0 ≡ f q
  pub rest : (q : ℕ) → t ≤ q → get_or new q 0 ≡ get_or old q 0

-- block j as the code lends it
abbrev pub part_of : ℕ → ℕ → List ℕ → List ℕ
part_of b j xs = take (j * b + b - j * b) (drop (j * b) xs)

-- the part from j·b on, b entries long, as the code writes it
abbrev pub put_block : ℕ → ℕ → List ℕ → List ℕ → List ℕ
put_block b j xs ys = put_mid (j * b) (j * b + b - j * b) xs ys

-- of n blocks of b bytes the first t are f's, the others as they were
pub record Blocked (b n : ℕ) (f : ℕ → ℕ → ℕ) (t : ℕ) (old new : List ℕ) : Type 0 where
  pub same : length new ≡ length old
  pub done : (i p : ℕ) → i < t → p < b → cell b new i p ≡ f i p
  pub rest : (i p : ℕ) → t ≤ i → p < b → cell b new i p ≡ cell b old i p
