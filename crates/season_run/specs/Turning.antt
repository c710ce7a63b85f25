-- What a last line without message is, for the functions behind `begin` and `turn`. Assumes nothing.
use Rattle.std.specs.Prelude.{◌≡◌, List, [], ℕ, None}
use Rattle.season_lines.specs.Lines.{line_of, Wrote}
use Rattle.season_run.specs.declared.Turn.{Turn}

-- a last line without message
pub record Ended (number kind answer : ℕ) (line : List ℕ) (t : Turn) (line' : List ℕ) : Type 0 where
  pub ends : t.next ≡ None
  pub wrote : Wrote (line_of number kind answer []) line t.written line'
