-- The test is on the number of coefficients; at most 32 parts come of at most 32 nodes. Assumes nothing.
use mathlib.Core.Path.{subst⁻¹}
use Prim.Native.Nat.{ℕ, ◌*◌, ◌^◌, ◌≤◌, ◌<◌}
use native.Mathlib.Omega.{arith}
use Rattle.base.proofs.Buffers.{areas-fit}
use Rattle.params.specs.Nodes.{size}
use Rattle.params.proofs.Sets.{size-most}
use Rattle.decoding.proofs.ReadBack.{parts-few}
use Rattle.decoding.proofs.decode_parts.Goals as goal
use Rattle.decoding.proofs.decode_parts.Goals.{Start}

most : (c : Start) → c.args.a.k * size c.args.from.0 ≤ 1024
most c =
    let word : c.args.from.0 < 2 ^ 32 = omega arith in
    areas-fit _ _ (parts-few _ _ _ word c.args.codeword.now c.requires) (size-most c.args.from.0 word)

pub overflow_mul-a : goal.overflow_mul-a
overflow_mul-a c = omega (arith, subst⁻¹ (λ (n : ℕ). c.args.a.k * n ≤ 1024) c.size.ensures (most (goal.at.overflow_mul-a c).Start))

pub decode_in-requires-else-a-size-le128-clause-room : goal.decode_in-requires-else-a-size-le128-clause-room
decode_in-requires-else-a-size-le128-clause-room c = most (goal.at.decode_in-requires-else-a-size-le128-clause-room c).Start
