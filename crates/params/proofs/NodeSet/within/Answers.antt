-- A word is below 2^32; else the shift gives 2^n. Assumes nothing.
use mathlib.Core.Path.{sym, ap}
use Prim.Native.Nat.{◌^◌, ◌<◌}
use native.Mathlib.Nat.{lt_of_lt_of_le}
use native.Mathlib.Omega.{arith}
use lib.Dec.{ltb}
use lib.Pow.{pow_mono}
use borrow.Author.Tests.{lt-ltb}
use Rattle.params.specs.Nodes.{within}
use Rattle.params.proofs.Words.{one_shifted}
use Rattle.params.proofs.NodeSet.within.Goals as goal

pub returns-then-n-ge32 : goal.returns-then-n-ge32
unfolding within
returns-then-n-ge32 c =
    let s = c.args.self.0 in
    let small : s < 2 ^ 32 = omega arith in
    sym (lt-ltb s (2 ^ c.args.n) (lt_of_lt_of_le small (pow_mono c.if-n-ge32.true)))

pub returns : goal.returns
unfolding within
returns c = ap (ltb c.args.self.0) (one_shifted c.args.n (omega arith))
