-- Each question that is answered by no decides it; the last answer decides where the others are yes. Assumes nothing.
use native.Mathlib.Omega.{arith}
use Rattle.products.proofs.Fitting.{no_bytes, other-rows, other-targets, all-fits}
use Rattle.products.proofs.fits.Goals as goal

pub returns-then-b-eq0 : goal.returns-then-b-eq0
returns-then-b-eq0 c = no_bytes _ _ _ _ _ _ _ (omega arith)

pub returns-then-not-rows_fit : goal.returns-then-not-rows_fit
returns-then-not-rows_fit c = other-rows _ _ _ _ _ _ _ (c.rows_fit.ensures.fails c.if-not-rows_fit.true)

pub returns-then-not-places_fit : goal.returns-then-not-places_fit
returns-then-not-places_fit c = other-targets _ _ _ _ _ _ _ (c.places_fit.ensures.fails c.if-not-places_fit.true)

pub returns : goal.returns
returns c =
    all-fits _ _ _ _ _ _ _ _ (omega arith) (c.rows_fit.ensures.holds c.if-not-rows_fit.false)
    (c.places_fit.ensures.holds c.if-not-places_fit.false) c.places_fit-2.ensures
