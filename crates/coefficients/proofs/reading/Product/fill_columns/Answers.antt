-- The lowest coefficient is not 00. Assumes nothing.
use mathlib.Core.Path.{sym, ◌∙◌}
use native.Mathlib.Nat.{le_refl}
use lib.ListN.{length}
use Rattle.coefficients.proofs.Basis.{first-nonzero}
use Rattle.coefficients.proofs.reading.Product.fill_columns.Goals as goal

pub fill_column-requires-clause-first : goal.fill_column-requires-clause-first
fill_column-requires-clause-first c =
    let can = c.args.self.now.multiplied in
    let points = c.args.self.now.points.now in
    let here = can.lowest 0 can.some in
    c.of-first.ensures (λ e. first-nonzero points can.tell (length points) (le_refl _) (sym here ∙ e)) ∙ here
