-- The table is the list of exponents, entry by entry: antt computes the list and compares. Assumes nothing.
use Rattle.field.proofs.Exponents.{logs, log-table}
use Rattle.tables.proofs.logs.Goals as goal

pub returns-clause-log_table : goal.returns-clause-log_table
unfolding logs
returns-clause-log_table c = log-table
