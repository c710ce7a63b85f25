-- The line has the room that a line without message needs. Assumes nothing.
use mathlib.Core.Path.{refl}
use native.Mathlib.Omega.{arith}
use Rattle.season_run.proofs.last_line.Goals as goal

pub returns : goal.returns
returns c = record { ends = refl; wrote = c.write_line-written.ensures.served (omega arith) }
