-- By the two bytes. Assumes nothing.
use mathlib.Core.Path.{◌∙◌}
use native.Mathlib.Omega.{arith}
use Rattle.season_file.specs.File.{number_at}
use Rattle.season_file.proofs.parsing.number_at.Goals as goal

pub returns : goal.returns
unfolding number_at
returns c = (c.from.ensures ∙ c.from_be_bytes.ensures, omega (arith, c.from.ensures, c.from_be_bytes.type_inv))
