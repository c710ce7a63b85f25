-- What the private functions ask and do. No exported contract rests on these names. Assumes nothing.
use Rattle.std.specs.Prelude.{◌≡◌, List, ℕ, suc, ◌*◌, ◌≤◌, ◌<◌, length, get_or}
use Rattle.base.specs.Seq.{cell}
use Rattle.field.specs.Field.{IsByte, add}
use Rattle.interpolation.specs.Polynomial.{evaluate}
use Rattle.params.specs.Nodes.{size}
use Rattle.code.specs.Points.{point_at}
use Rattle.products.specs.Blocks.{arriving}
use Rattle.extension.specs.declared.Extension.{Extension}

-- what is asked of the lengths of message, z and out: message has e parts, each place names a block of z, and `to` a block of out for each target
pub record Extendable (b e at targets : ℕ) (places to : List ℕ) (message z out : ℕ) : Type 0 where
  pub most : e ≤ 32
  pub parts : e * b ≤ message
  pub count_is : length places ≡ size at
  pub block : (o : ℕ) → o < size at → suc (get_or places o 0) * b ≤ z
  pub to_count : length to ≡ size targets
  pub target : (t : ℕ) → t < length to → suc (get_or to t 0) * b ≤ out

-- At each byte place: whichever polynomial has message's parts for its e leading coefficients, and z's blocks at the places for its values at the nodes of
-- `at`, its value at target t is added to the block that `to` names at place t. Blocks that are not named are as they were.
pub record Extended (b e at targets : ℕ) (message z places to old new : List ℕ) : Type 0 where
  pub same : length new ≡ length old
  pub added : (p : ℕ) (v : ℕ → ℕ) → p < b → ((j : ℕ) → IsByte (v j))
      → ((o : ℕ) → o < size at → evaluate e (size at) (λ j. cell b message j p) v (point_at at o) ≡ cell b z (get_or places o 0) p)
      → (j : ℕ) → cell b new j p
      ≡ add (cell b old j p) (arriving (length to) to (λ t. evaluate e (size at) (λ j. cell b message j p) v (point_at targets t)) j)
  pub others : (j p : ℕ) → p < b → ((t : ℕ) → t < length to → get_or to t 0 ≡ j → ⊥) → cell b new j p ≡ cell b old j p

-- ---- the same of what the code passes

abbrev pub Asks : Extension → ℕ → Type 0
Asks x out = Extendable x.b x.e x.at.0 x.targets.0 x.places.now x.to.now (length x.message.now) (length x.z.now) out

abbrev pub Adds : Extension → List ℕ → List ℕ → Type 0
Adds x old new = Extended x.b x.e x.at.0 x.targets.0 x.message.now x.z.now x.places.now x.to.now old new
