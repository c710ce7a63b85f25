-- What the cores of reading ask and give. No statement about a call rests on these names. Assumes nothing.
use Rattle.std.specs.Prelude.{◌≡◌, true, List, ℕ, ◌*◌, ◌≤◌}
use Rattle.params.specs.Nodes.{has, size, within}
use Rattle.params.specs.Params.{working}
use Rattle.params.specs.declared.Params.{Params}
use Rattle.code.specs.Code.{Gives}

-- a set of as many nodes as message and slack have parts, and a buffer for the message
pub record Decodable (a : Params) (codeword out from : ℕ) : Type 0 where
  pub b_low : 1 ≤ a.b
  pub codeword_length : codeword ≡ a.n * a.b
  pub out_length : out ≡ a.k * a.b
  pub from_within : within a.n from ≡ true
  pub from_size : size from ≡ working a

-- out is the message of the pair that gives the blocks of the set's nodes
pub record Recovered (a : Params) (codeword : List ℕ) (from : ℕ) (out : List ℕ) : Type 0 where
  pub message : (x v : List ℕ) → Gives a x v (has from) codeword → out ≡ x
