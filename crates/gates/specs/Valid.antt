-- What a served call knows: the facts behind the questions, as records (document 01, "Questions at the gate"). Assumes nothing.
use Rattle.std.specs.Prelude.{◌≡◌, true, ℕ, ◌+◌, ◌*◌, ◌≤◌}
use Rattle.params.specs.Nodes.{size, within, disjoint}
use Rattle.params.specs.Params.{slack_parts, shape_of, reshaped}
use Rattle.params.specs.declared.Params.{Params}
use Rattle.params.specs.declared.Shape.{Shape}

-- Questions 1 to 4.
pub record ValidShape (t : Shape) : Type 0 where
  pub n_low : 1 ≤ t.n
  pub n_high : t.n ≤ 32
  pub r_le_n : t.r ≤ t.n
  pub w_le_n : t.w ≤ t.n
  pub k_low : 1 ≤ t.k
  pub k_le_r : t.k ≤ t.r
  pub k_le_w : t.k ≤ t.w
  pub enough : t.k + t.n ≤ t.r + t.w

-- Questions 1 to 5.
pub record Valid (a : Params) : Type 0 where
  pub shape : ValidShape (shape_of a)
  pub b_low : 1 ≤ a.b
  pub b_high : a.b ≤ 1024

pub record EncodeAccepted (a : Params) (message slack codeword serials : ℕ) : Type 0 where
  pub valid : Valid a
  pub message_length : message ≡ a.k * a.b
  pub slack_length : slack ≡ slack_parts a * a.b
  pub codeword_length : codeword ≡ a.n * a.b
  pub serials_length : serials ≡ a.n

pub record CheckAccepted (a : Params) (codeword : ℕ) : Type 0 where
  pub valid : Valid a
  pub codeword_length : codeword ≡ a.n * a.b

pub record DecodeAccepted (a : Params) (codeword out from : ℕ) : Type 0 where
  pub valid : Valid a
  pub codeword_length : codeword ≡ a.n * a.b
  pub out_length : out ≡ a.k * a.b
  pub from_within : within a.n from ≡ true
  pub from_size : size from ≡ a.r

pub record DeltaAccepted (a : Params) (change out to : ℕ) : Type 0 where
  pub valid : Valid a
  pub change_length : change ≡ a.k * a.b
  pub out_length : out ≡ a.w * a.b
  pub to_within : within a.n to ≡ true
  pub to_size : size to ≡ a.w

pub record UpdateAccepted (a : Params) (codeword serials change to serial : ℕ) : Type 0 where
  pub valid : Valid a
  pub codeword_length : codeword ≡ a.n * a.b
  pub serials_length : serials ≡ a.n
  pub change_length : change ≡ a.k * a.b
  pub to_within : within a.n to ≡ true
  pub to_size : size to ≡ a.w
  pub serial_low : 1 ≤ serial

pub record RepairAccepted (a : Params) (codeword serials from lost : ℕ) : Type 0 where
  pub valid : Valid a
  pub codeword_length : codeword ≡ a.n * a.b
  pub serials_length : serials ≡ a.n
  pub from_within : within a.n from ≡ true
  pub lost_within : within a.n lost ≡ true
  pub from_size : size from ≡ a.r
  pub apart : disjoint lost from ≡ true

pub record ViewAccepted (a : Params) (codeword i : ℕ) : Type 0 where
  pub valid : Valid a
  pub codeword_length : codeword ≡ a.n * a.b
  pub node_low : 1 ≤ i
  pub node_high : i ≤ a.n

pub record ReconfigureAccepted (a : Params) (t : Shape) (old serials new numbers message from to : ℕ) : Type 0 where
  pub valid : Valid a
  pub valid_new : Valid (reshaped a t)
  pub old_length : old ≡ a.n * a.b
  pub serials_length : serials ≡ a.n
  pub new_length : new ≡ t.n * a.b
  pub numbers_length : numbers ≡ t.n
  pub message_length : message ≡ t.k * a.b
  pub from_within : within a.n from ≡ true
  pub to_within : within t.n to ≡ true
  pub from_size : size from ≡ a.r
  pub to_size : size to ≡ t.w
