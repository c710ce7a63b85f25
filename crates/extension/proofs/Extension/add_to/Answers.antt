-- The test is on the number of coefficients; the larger rooms have place for 32 rows of 32. Assumes nothing.
use Prim.Native.Nat.{◌+◌, ◌≤◌}
use native.Mathlib.Nat.{mul-le-mul}
use native.Mathlib.Omega.{arith}
use Rattle.base.proofs.Buffers.{areas-fit}
use Rattle.params.proofs.Sets.{size-most}
use Rattle.extension.proofs.Extension.add_to.Goals as goal

pub overflow_mul-size : goal.overflow_mul-size
overflow_mul-size c =
    let rows : c.size.result ≤ 32 = omega (arith, c.size.ensures, size-most c.args.self.now.targets.0 (omega arith)) in
    let width : c.args.self.now.e + c.size-2.result ≤ 64 = omega (arith, c.requires.asks.most, c.size-2.ensures, size-most c.args.self.now.at.0 (omega arith)) in
    omega (arith, mul-le-mul rows width)

pub add_in-requires-else-size-self-le128-clause-room : goal.add_in-requires-else-size-self-le128-clause-room
add_in-requires-else-size-self-le128-clause-room c =
    let rows = size-most c.args.self.now.targets.0 (omega arith) in
    (areas-fit _ _ rows c.requires.asks.most, areas-fit _ _ rows (size-most c.args.self.now.at.0 (omega arith)))
