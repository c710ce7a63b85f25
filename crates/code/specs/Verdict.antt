-- What `check` answers. Assumes nothing.
use Rattle.std.specs.Prelude.{ℕ}
use Rattle.code.specs.declared.Blame.{Blame}

-- a refused check answers the number of the first question whose answer is no, and nothing else
pub data Verdict : Type 0 where
  Refused : ℕ → Verdict
  Blamed : Blame → Verdict
