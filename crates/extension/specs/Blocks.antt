-- Blocks from parts and blocks, said by what determines them. Assumes nothing.
use Rattle.std.specs.Prelude.{◌≡◌, true, false, List, ℕ, suc, ◌*◌, ◌≤◌, ◌<◌, length}
use Rattle.base.specs.Seq.{cell}
use Rattle.field.specs.Field.{IsByte}
use Rattle.interpolation.specs.Polynomial.{evaluate}
use Rattle.params.specs.Nodes.{has, size, count}
use Rattle.params.specs.Params.{working}
use Rattle.params.specs.declared.Params.{Params}
use Rattle.code.specs.Code.{point, block, Gives}
use Rattle.placing.specs.Placed.{BlocksIn}

-- ---- the blocks of a pair, from blocks

-- what recomputing asks: from has as many nodes of 1..n as message and slack have parts, codeword has n blocks, and fresh one for each target
pub record Recomputable (a : Params) (from targets codeword fresh : ℕ) : Type 0 where
  pub full : size from ≡ working a
  pub inside : (i : ℕ) → has from i ≡ true → i ≤ a.n
  pub codeword_length : codeword ≡ a.n * a.b
  pub room : fresh ≡ size targets * a.b

-- new has the targets' blocks of the pair that gives from's blocks; that of node suc j stands at its rank. Where what it asks does not hold, nothing is written.
pub record RecomputePost (a : Params) (from targets : ℕ) (codeword old new : List ℕ) : Type 0 where
  pub same : length new ≡ length old
  pub written : Recomputable a from targets (length codeword) (length old) → (x v : List ℕ) → Gives a x v (has from) codeword
      → (j p : ℕ) → has targets (suc j) ≡ true → p < a.b → cell a.b new (count (has targets) j) p ≡ block a x v (suc j) p
  pub kept : (Recomputable a from targets (length codeword) (length old) → ⊥) → new ≡ old

-- ---- blocks from leading coefficients and values

-- what a completion asks: message has e parts, z a block for each node of `at`, and out one for each target
pub record CompleteAsks (b e at targets message z out : ℕ) : Type 0 where
  pub most : e ≤ 32
  pub parts : message ≡ e * b
  pub values : z ≡ size at * b
  pub inside : BlocksIn b targets out

-- At each byte place: whichever polynomial has message's parts for its e leading coefficients, and z's blocks for its values at the nodes of `at`, in rising
-- order, has the targets' blocks of new for its values at the targets. The others are as they were. Where what it asks does not hold, nothing is written.
pub record CompletePost (b e at targets : ℕ) (message z old new : List ℕ) : Type 0 where
  pub same : length new ≡ length old
  pub written : CompleteAsks b e at targets (length message) (length z) (length old) → (p : ℕ) (v : ℕ → ℕ) → p < b → ((j : ℕ) → IsByte (v j))
      → ((i : ℕ) → has at (suc i) ≡ true → evaluate e (size at) (λ j. cell b message j p) v (point (suc i)) ≡ cell b z (count (has at) i) p)
      → (j : ℕ) → has targets (suc j) ≡ true → cell b new j p ≡ evaluate e (size at) (λ j. cell b message j p) v (point (suc j))
  pub others : (j p : ℕ) → has targets (suc j) ≡ false → p < b → cell b new j p ≡ cell b old j p
  pub kept : (CompleteAsks b e at targets (length message) (length z) (length old) → ⊥) → new ≡ old
