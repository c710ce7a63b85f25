-- A slack beside a given message, for contracts of functions inside the library. Assumes nothing.
use Rattle.std.specs.Prelude.{◌≡◌, Bool, false, List, ℕ, suc, ◌<◌}
use Rattle.params.specs.Params.{slack_parts}
use Rattle.params.specs.declared.Params.{Params}
use Rattle.code.specs.Code.{Parts, block}

-- v is a slack with which x's blocks are as wanted at the nodes of 1..n outside W
pub record Slack (a : Params) (x : List ℕ) (W : ℕ → Bool) (wanted : ℕ → ℕ → ℕ) (v : List ℕ) : Type 0 where
  pub parts : Parts a.b (slack_parts a) v
  pub equal : (j p : ℕ) → j < a.n → W (suc j) ≡ false → p < a.b → block a x v (suc j) p ≡ wanted (suc j) p
