-- The bytes of the blocks outside W' fit a usize, and each room is enough for the blocks that it is made for: the largest has place for 32 of 1,024 bytes. Assumes
-- nothing.
use mathlib.Core.Path.{subst}
use Prim.Native.Nat.{ℕ, ◌*◌, ◌≤◌}
use native.Mathlib.Omega.{arith}
use Rattle.params.specs.Params.{slack_parts, reshaped}
use Rattle.params.proofs.Sets.{size-most}
use Rattle.gates.proofs.Valid.{blocks-most}
use Rattle.reconfiguration.proofs.Rewriting.{slack-count}
use Rattle.reconfiguration.proofs.Rearrangement.write.Goals as goal
use Rattle.reconfiguration.proofs.Rearrangement.write.Goals.{After-size}

module _ (c : After-size) where
  most : c.size.result * c.args.self.now.a.b ≤ 32768
  most = blocks-most c.size.result c.args.self.now.a.b (omega (arith, c.size.ensures, size-most c.outside.result.0 (omega arith))) c.requires.b_high

  -- there are as many blocks as the new slack has parts
  wanted : (m : ℕ) → c.size.result * c.args.self.now.a.b ≤ m → slack_parts (reshaped c.args.self.now.a c.args.self.now.shape) * c.args.self.now.a.b ≤ m
  wanted m =
      let s = c.args.self.now in
      subst (λ (k : ℕ). k * s.a.b ≤ m)
      (slack-count s.a s.shape s.from.0 s.to.0 c.outside.result.0 _ _ _ _ c.requires c.outside.ensures (omega arith) c.size.ensures)

pub overflow_mul-size : goal.overflow_mul-size
overflow_mul-size c = omega (arith, most (goal.at.overflow_mul-size c).After-size)

pub write_in-requires-clause-room : goal.write_in-requires-clause-room
write_in-requires-clause-room c =
    wanted (goal.at.write_in-requires-clause-room c).After-size 128 (omega (arith, c.if-size-le128.true))

pub write_in-requires-then-size-le1024-clause-room : goal.write_in-requires-then-size-le1024-clause-room
write_in-requires-then-size-le1024-clause-room c =
    wanted (goal.at.write_in-requires-then-size-le1024-clause-room c).After-size 1024 (omega (arith, c.if-size-le1024.true))

pub write_in-requires-else-size-le1024-clause-room : goal.write_in-requires-else-size-le1024-clause-room
write_in-requires-else-size-le1024-clause-room c =
    let l = (goal.at.write_in-requires-else-size-le1024-clause-room c).After-size in
    wanted l 32768 (most l)
