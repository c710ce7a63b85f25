-- What the private functions ask and do. No statement about a call rests on these names. Assumes nothing.
use Rattle.std.specs.Prelude.{◌≡◌, ◌&&◌, ℕ, ◌+◌, ◌-◌, ◌*◌, ◌≤◌, leb, ltb}
use Rattle.params.specs.Nodes.{has, size}
use Rattle.params.specs.Params.{working}
use Rattle.params.specs.declared.Params.{Params}
use Rattle.gates.specs.Valid.{Valid}
use Rattle.code.specs.declared.Blame.{Blame}
use Rattle.consistency.specs.Tested.{Checkable}

-- what a search asks: a checkable record, and room for the blocks of the nodes behind the first q
pub record Searchable (a : Params) (codeword fresh : ℕ) : Type 0 where
  pub check : Checkable a codeword
  pub room : (a.n - working a) * a.b ≤ fresh

-- the first set not tried
pub record Untried (a : Params) (s : ℕ) : Type 0 where
  pub valid : Valid a
  pub few : size s + working a ≤ a.n

-- the set of all nodes behind the first q, and how much larger it is
pub record Given (a : Params) (untried tried : ℕ) (blame : Blame) : Type 0 where
  pub set_is : (i : ℕ) → has blame.set.0 i ≡ (ltb (working a) i && leb i a.n)
  pub tried_is : blame.tried ≡ tried
  pub distance_is : blame.distance + size untried ≡ size blame.set.0
