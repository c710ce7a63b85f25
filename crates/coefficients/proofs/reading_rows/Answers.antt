-- Where the points tell a polynomial, and there are as many bytes as the rows have, these are those of the basis polynomials. Assumes nothing.
use native.Mathlib.Omega.{arith}
use Rattle.coefficients.proofs.Values.{reads_made}
use Rattle.coefficients.proofs.reading_rows.Goals as goal

pub returns : goal.returns
returns c =
    let r = c.basis_rows in
    let tell = c.different.ensures.holds c.if-not-different.false in
    reads_made _ _ _ _ (record { few = omega (arith, c.if-count-k.false); most = omega (arith, c.if-count-gt32.false); tell = tell; room = c.if-rows-k.false }) r.auto.rows r.ensures
