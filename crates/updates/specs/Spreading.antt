-- What the rows of a change ask, and what they do to the blocks that they go to. No statement about a call rests on these names. Assumes nothing.
use Rattle.std.specs.Prelude.{◌≡◌, true, List, ℕ, suc, ◌*◌, ◌≤◌, ◌<◌, length, get_or}
use Rattle.base.specs.Seq.{cell}
use Rattle.field.specs.Field.{add}
use Rattle.params.specs.Nodes.{size, within, listed}
use Rattle.params.specs.declared.Params.{Params}
use Rattle.code.specs.Code.{block}
use Rattle.code.specs.Calls.{Vanishes}
use Rattle.products.specs.Blocks.{arriving}

-- a change, a set W of w nodes outside which it is to vanish, and a block for each of the takers, the nodes whose rows are wanted (a difference
-- gives W, a send those of W that take it)
pub record Spreadable (a : Params) (change to takers : ℕ) (targets : List ℕ) (out : ℕ) : Type 0 where
  pub n_high : a.n ≤ 32
  pub k_le_n : a.k ≤ a.n
  pub b_low : 1 ≤ a.b
  pub change_length : change ≡ a.k * a.b
  pub to_within : within a.n to ≡ true
  pub to_size : size to ≡ a.w
  pub count : length targets ≡ size takers
  pub target : (i : ℕ) → i < length targets → suc (get_or targets i 0) * a.b ≤ out

-- what the change, with the slack that makes it vanish outside W, makes of the block of taker t, in rising order, is added to the block that targets names at
-- place t
pub record Spread (a : Params) (d : List ℕ) (to takers : ℕ) (targets old new : List ℕ) : Type 0 where
  pub same : length new ≡ length old
  pub added : (slack : List ℕ) → Vanishes a d to slack → (j p : ℕ) → p < a.b
      → cell a.b new j p ≡ add (cell a.b old j p) (arriving (length targets) targets (λ t. block a d slack (get_or (listed takers) t 0) p) j)
