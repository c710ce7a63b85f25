-- What the cores of set-up ask. No statement about a call rests on these names. Assumes nothing.
use Rattle.std.specs.Prelude.{◌≡◌, ℕ, ◌+◌, ◌*◌, ◌≤◌}
use Rattle.params.specs.Params.{working}
use Rattle.params.specs.declared.Params.{Params}

-- message and slack side by side, and a block for each node
pub record Raisable (a : Params) (parts codeword : ℕ) : Type 0 where
  pub n_high : a.n ≤ 32
  pub parts_high : working a ≤ 32
  pub b_low : 1 ≤ a.b
  pub parts_length : parts ≡ working a * a.b
  pub codeword_length : codeword ≡ a.n * a.b

-- the same while they are still apart
pub record Encodable (a : Params) (message slack codeword : ℕ) : Type 0 where
  pub b_high : a.b ≤ 1024
  pub message_length : message ≡ a.k * a.b
  pub both : Raisable a (message + slack) codeword
