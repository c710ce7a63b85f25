-- What trying a set asks and tells, for contracts of functions inside the library: no post-condition of a call rests on these names. Assumes nothing.
use Rattle.std.specs.Prelude.{◌≡◌, true, List, ℕ, ◌+◌, ◌-◌, ◌*◌, ◌≤◌, Option, Some, None}
use Rattle.params.specs.Nodes.{size, within}
use Rattle.params.specs.Params.{working}
use Rattle.params.specs.declared.Node.{Node}
use Rattle.params.specs.declared.Params.{Params}
use Rattle.gates.specs.Valid.{Valid}
use Rattle.code.specs.Calls.{Serves}

-- what a check asks: parameters are valid, and codeword has n blocks
pub record Checkable (a : Params) (codeword : ℕ) : Type 0 where
  pub valid : Valid a
  pub codeword_length : codeword ≡ a.n * a.b

-- what trying a set asks: it leaves q nodes of 1..n, codeword has n blocks, and fresh has room for those of the nodes behind the first q
pub record Testable (a : Params) (s codeword fresh : ℕ) : Type 0 where
  pub check : Checkable a codeword
  pub inside : within a.n s ≡ true
  pub few : size s + working a ≤ a.n
  pub room : (a.n - working a) * a.b ≤ fresh

-- A node that is named shows that the set does not serve. Where none is, and all were compared, it serves.
abbrev pub Tested : Params → ℕ → ℕ → List ℕ → Option Node → Type 0
Tested a s most codeword (Some node) = Serves a codeword s → ⊥
Tested a s most codeword None = a.n ≤ most → Serves a codeword s
