-- Sends of one change, one after the other (document 02, 2026-03), by the post-condition of the call. Assumes nothing.
use Rattle.std.specs.Prelude.{◌≡◌, Bool, true, false, ◌||◌, List, ℕ}
use Rattle.params.specs.Nodes.{has}
use Rattle.params.specs.declared.Params.{Params}
use Rattle.code.specs.Calls.{UpdatePost}

-- Accepted sends of one change under one serial, each to whichever nodes, with nothing else written between: record and serials before, and after.
pub data Sendings (a : Params) (d : List ℕ) (to serial : ℕ) : List ℕ → List ℕ → List ℕ → List ℕ → Type 0 where
  none : {codeword serials : List ℕ} → Sendings a d to serial codeword serials codeword serials
  more : {codeword serials codeword' serials' codeword'' serials'' : List ℕ} (reached : ℕ)
      → UpdatePost a d to serial reached codeword serials 0 codeword' serials' → Sendings a d to serial codeword' serials' codeword'' serials''
      → Sendings a d to serial codeword serials codeword'' serials''

-- the nodes that one of them was to reach
abbrev pub reached_by : {a : Params} {d : List ℕ} {to serial : ℕ} {codeword serials codeword' serials' : List ℕ}
    → Sendings a d to serial codeword serials codeword' serials' → ℕ → Bool
reached_by none i = false
reached_by (more reached post rest) i = has reached i || reached_by rest i

-- A test that all of W's nodes pass.
abbrev pub Covers : (ℕ → Bool) → ℕ → Type 0
Covers f to = (i : ℕ) → has to i ≡ true → f i ≡ true
