-- What is done to the blocks of a set's nodes: block j is that of node suc j, and byte p of it cell j p. Assumes nothing.
use Rattle.std.specs.Prelude.{◌≡◌, true, false, List, ℕ, suc, ◌+◌, ◌*◌, ◌≤◌, ◌<◌, length, Option, Some, None}
use Rattle.base.specs.Seq.{cell}
use Rattle.params.specs.Nodes.{has, size, count}
use Rattle.params.specs.declared.Node.{Node}

-- blocks are not empty, and a list of that length has the block of each of the set's nodes
abbrev pub BlocksIn : ℕ → ℕ → ℕ → Type 0
BlocksIn b set length = (0 < b) × ((j : ℕ) → has set (suc j) ≡ true → j * b + b ≤ length)

-- what putting and comparing ask of the lengths: codeword has a block for each node of the set, and so has fresh, one after the other
pub record Puttable (b set codeword fresh : ℕ) : Type 0 where
  pub inside : BlocksIn b set codeword
  pub room : fresh ≡ size set * b

-- The block of a node of the set is that of fresh at its rank; the others are as they were. Where the lengths do not fit, nothing is written.
pub record PutPost (b set : ℕ) (fresh old new : List ℕ) : Type 0 where
  pub same : length new ≡ length old
  pub put : Puttable b set (length old) (length fresh) → (j p : ℕ) → has set (suc j) ≡ true → p < b → cell b new j p ≡ cell b fresh (count (has set) j) p
  pub others : (j p : ℕ) → has set (suc j) ≡ false → p < b → cell b new j p ≡ cell b old j p
  pub kept : (Puttable b set (length old) (length fresh) → ⊥) → new ≡ old

-- The blocks of the set's nodes are 00, the others as they were. Where one is not there, nothing is written.
pub record ClearPost (b set : ℕ) (old new : List ℕ) : Type 0 where
  pub same : length new ≡ length old
  pub cleared : BlocksIn b set (length old) → (j p : ℕ) → has set (suc j) ≡ true → p < b → cell b new j p ≡ 0
  pub others : (j p : ℕ) → has set (suc j) ≡ false → p < b → cell b new j p ≡ cell b old j p
  pub kept : (BlocksIn b set (length old) → ⊥) → new ≡ old

-- node suc j's block is fresh's
abbrev pub Alike : ℕ → ℕ → List ℕ → List ℕ → ℕ → Type 0
Alike b set codeword fresh j = (p : ℕ) → p < b → cell b fresh (count (has set) j) p ≡ cell b codeword j p

-- node suc j is the set's lowest whose block is not fresh's
pub record Other (b set : ℕ) (codeword fresh : List ℕ) (node : Node) : Type 0 where
  pub j : ℕ
  pub is : node.0 ≡ suc j
  pub inside : has set (suc j) ≡ true
  pub unlike : Alike b set codeword fresh j → ⊥
  pub lower : (i : ℕ) → has set (suc i) ≡ true → i < j → Alike b set codeword fresh i

-- The answer is the set's lowest node whose block is not fresh's. There is none where all are alike, and where the lengths do not fit.
abbrev pub ComparePost : ℕ → ℕ → List ℕ → List ℕ → Option Node → Type 0
ComparePost b set codeword fresh (Some node) = Puttable b set (length codeword) (length fresh) × Other b set codeword fresh node
ComparePost b set codeword fresh None =
    Puttable b set (length codeword) (length fresh) → (j : ℕ) → has set (suc j) ≡ true → Alike b set codeword fresh j
