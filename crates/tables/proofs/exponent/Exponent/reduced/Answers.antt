-- 02^255 is 01. Assumes nothing.
use Rattle.field.proofs.Exponents.{pow-mod}
use Rattle.tables.proofs.exponent.Exponent.reduced.Goals as goal

pub returns : goal.returns
returns c = pow-mod c.args.e
