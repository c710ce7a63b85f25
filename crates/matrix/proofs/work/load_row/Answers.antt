-- The entries, then a single 1 among zeros. Assumes nothing.
use Rattle.std.proofs.Common.{arith}
use Rattle.matrix.proofs.Loading.{loaded-row}
use Rattle.matrix.proofs.work.load_row.Goals as goal

pub returns : goal.returns
returns c = rw c.copy_from_slice.ensures.after (loaded-row c.args.i c.args.entries.now c.args.row.now c.requires.0 (omega arith) c.requires.1 (λ k. omega (arith, c.type_inv.entries k)) c.requires.2)
