-- One lemma for each exit. The last row ends last. Assumes nothing.
use native.Mathlib.Omega.{arith}
use Rattle.products.proofs.Fitting.{no_rows, rows_short, rows-still, rows_last}
use Rattle.products.proofs.rows_fit.Goals as goal

pub returns-then-rows-eq0 : goal.returns-then-rows-eq0
returns-then-rows-eq0 c = no_rows _ _ _ _ c.if-rows-eq0.true

pub returns-then-coeffs-width : goal.returns-then-coeffs-width
returns-then-coeffs-width c = rows_short _ _ _ _ (omega arith) (omega arith)

pub returns-then-stride-eq0 : goal.returns-then-stride-eq0
returns-then-stride-eq0 c = rows-still _ _ _ _ (omega arith) c.if-stride-eq0.true

pub returns : goal.returns
returns c = rows_last _ _ _ _ (omega arith) (omega arith) (omega arith)
