-- The complement of 32 bits, and of it the lowest n. Assumes nothing.
use mathlib.Core.Path.{ap, ◌∙◌}
use Prim.Native.Nat.{ℕ, ◌-◌, ◌^◌}
use native.Mathlib.Omega.{arith}
use lib.Bits.{bit_and}
use Rattle.params.specs.Nodes.{has}
use Rattle.params.proofs.Words.{one_shifted, outside-some, outside-all}
use Rattle.params.proofs.NodeSet.outside.Goals as goal

pub returns-then-n-ge32 : goal.returns-then-n-ge32
returns-then-n-ge32 c = λ i. outside-all c.args.n c.args.self.0 i (omega arith) c.if-n-ge32.true

pub returns : goal.returns
returns c = λ i.
    ap (λ (m : ℕ). has (bit_and ((2 ^ 32 - 1) - c.args.self.0) (m - 1)) i) (one_shifted c.args.n (omega arith))
    ∙ outside-some c.args.n c.args.self.0 i (omega arith)
