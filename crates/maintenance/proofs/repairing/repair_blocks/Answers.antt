-- The lost blocks' bytes fit a usize, and the largest room has place for 32 blocks of 1,024 bytes. Assumes nothing.
use native.Mathlib.Omega.{arith}
use Rattle.params.proofs.Sets.{size-most}
use Rattle.gates.proofs.Valid.{blocks-most}
use Rattle.maintenance.proofs.repairing.repair_blocks.Goals as goal

pub overflow_mul-size : goal.overflow_mul-size
overflow_mul-size c =
    record { fits = omega (arith, blocks-most c.size.result c.args.a.b (omega (arith, c.size.ensures, size-most c.args.lost.0 (omega arith))) c.requires.b_high) }

pub repair_in-requires-else-size-le8192-clause-room : goal.repair_in-requires-else-size-le8192-clause-room
repair_in-requires-else-size-le8192-clause-room c = blocks-most _ c.args.a.b (size-most _ (omega arith)) c.requires.b_high
