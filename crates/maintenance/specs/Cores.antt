-- What the private functions ask and do. No statement about a call rests on these names. Assumes nothing.
use Rattle.std.specs.Prelude.{◌≡◌, true, false, List, ℕ, suc, ◌*◌, ◌≤◌, ◌<◌, length}
use Rattle.base.specs.Seq.{cell}
use Rattle.params.specs.Nodes.{has, size}
use Rattle.params.specs.Params.{working}
use Rattle.params.specs.declared.Params.{Params}
use Rattle.code.specs.Code.{block, Gives}

-- what a rebuild asks: from has as many nodes of 1..n as message and slack have parts, lost has nodes of 1..n, and codeword has n blocks, which are not too long
pub record Rebuildable (a : Params) (from lost codeword : ℕ) : Type 0 where
  pub full : size from ≡ working a
  pub from_inside : (i : ℕ) → has from i ≡ true → i ≤ a.n
  pub lost_inside : (i : ℕ) → has lost i ≡ true → i ≤ a.n
  pub codeword_length : codeword ≡ a.n * a.b
  pub b_low : 1 ≤ a.b
  pub b_high : a.b ≤ 1024

-- lost's blocks are those of the pair that gives from's, the others as they were
pub record Rebuilt (a : Params) (from lost : ℕ) (old new : List ℕ) : Type 0 where
  pub same : length new ≡ length old
  pub rebuilt : (x v : List ℕ) → Gives a x v (has from) old → (j p : ℕ) → has lost (suc j) ≡ true → p < a.b
      → cell a.b new j p ≡ block a x v (suc j) p
  pub kept : (j p : ℕ) → has lost (suc j) ≡ false → p < a.b → cell a.b new j p ≡ cell a.b old j p
