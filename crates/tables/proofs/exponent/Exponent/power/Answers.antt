-- Entry k of the table is 02 to the power k, by the table's rule. Assumes nothing.
use Rattle.field.proofs.Exponents.{power_at}
use Rattle.tables.proofs.exponent.Exponent.power.Goals as goal

pub returns : goal.returns
returns c = power_at c.powers.result.now c.powers.ensures c.args.self.value c.args.self.small
