-- What the private functions ask and do. No statement about a call rests on these names. Assumes nothing.
use Rattle.std.specs.Prelude.{◌≡◌, true, false, List, ℕ, suc, ◌*◌, ◌≤◌, ◌<◌, length}
use Rattle.base.specs.Seq.{cell}
use Rattle.params.specs.Nodes.{has, size, within}
use Rattle.params.specs.Params.{working, reshaped}
use Rattle.params.specs.declared.Params.{Params}
use Rattle.params.specs.declared.Shape.{Shape}
use Rattle.code.specs.Code.{block, Gives}
use Rattle.code.specs.Calls.{writes}
use Rattle.code.specs.Slacks.{Slack}
use Rattle.reconfiguration.specs.declared.Rearrangement.{Rearrangement}

-- from has as many nodes of 1..n as message and slack have parts, W' has w' nodes of 1..n', each buffer has just its blocks, and these are not too many and not
-- too long
pub record Reconfigurable (a : Params) (t : Shape) (old new message from to : ℕ) : Type 0 where
  pub full : size from ≡ working a
  pub from_inside : (i : ℕ) → has from i ≡ true → i ≤ a.n
  pub to_within : within t.n to ≡ true
  pub to_size : size to ≡ t.w
  pub n_high : a.n ≤ 32
  pub new_n_high : t.n ≤ 32
  pub new_k_high : t.k ≤ 32
  pub old_length : old ≡ a.n * a.b
  pub new_length : new ≡ t.n * a.b
  pub message_length : message ≡ t.k * a.b
  pub b_low : 1 ≤ a.b
  pub b_high : a.b ≤ 1024

-- Where s is the slack with which the message x has the blocks of from's pair (y, v) outside W': blocks in W' and above n are those of (x, s). The others are the
-- old record's.
pub record Rewritten (a : Params) (t : Shape) (old : List ℕ) (from to : ℕ) (x new : List ℕ) : Type 0 where
  pub length_is : length new ≡ t.n * a.b
  pub written : (y v s : List ℕ) → Gives a y v (has from) old → Slack (reshaped a t) x (has to) (block a y v) s
      → (j p : ℕ) → j < t.n → writes a to (suc j) ≡ true → p < a.b → cell a.b new j p ≡ block (reshaped a t) x s (suc j) p
  pub copied : (j p : ℕ) → j < t.n → writes a to (suc j) ≡ false → p < a.b → cell a.b new j p ≡ cell a.b old j p

-- ---- the same of what the code passes

abbrev pub Asks : Rearrangement → ℕ → Type 0
Asks x out = Reconfigurable x.a x.shape (length x.codeword.now) out (length x.message.now) x.from.0 x.to.0

abbrev pub Writes : Rearrangement → List ℕ → Type 0
Writes x new = Rewritten x.a x.shape x.codeword.now x.from.0 x.to.0 x.message.now new
