-- Either room has place for the rows. Assumes nothing.
use Prim.Native.Nat.{◌*◌, ◌≤◌}
use native.Mathlib.Omega.{arith}
use lib.ListN.{length}
use Rattle.base.proofs.Buffers.{areas-fit}
use Rattle.params.proofs.Sets.{size-most}
use Rattle.updates.proofs.spread.Goals as goal
use Rattle.updates.proofs.spread.Goals.{Start}

-- room for the rows of at most 32 takers
room : (c : Start) → length c.args.targets.now * c.args.a.n ≤ 1024
room c = areas-fit (length c.args.targets.now) c.args.a.n (omega (arith, c.requires.count, size-most c.args.takers.0 (omega arith))) c.requires.n_high

pub overflow_mul-targets : goal.overflow_mul-targets
overflow_mul-targets c = omega (arith, room (goal.at.overflow_mul-targets c).Start)

pub spread_in-requires-else-targets-a-le128-clause-room : goal.spread_in-requires-else-targets-a-le128-clause-room
spread_in-requires-else-targets-a-le128-clause-room c =
    room (goal.at.spread_in-requires-else-targets-a-le128-clause-room c).Start
