-- The table is the list of doublings, entry by entry: antt computes the list and compares. Assumes nothing.
use Rattle.field.proofs.Exponents.{doublings, power-table}
use Rattle.tables.proofs.powers.Goals as goal

pub returns : goal.returns
unfolding doublings
returns c = power-table
