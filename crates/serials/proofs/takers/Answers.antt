-- A node is in the three sets if it takes the serial. Assumes nothing.
use native.Mathlib.Omega.{arith}
use Rattle.serials.proofs.Laws.{takes-by}
use Rattle.serials.proofs.takers.Goals as goal

pub returns : goal.returns
returns c =
    let a = c.args in
    takes-by a.to.0 a.reached.0 c.older.result a.serials.now a.serial (omega arith) c.older.ensures
