use mathlib.Core.Path.{ap₂}
use native.Mathlib.Omega.{arith}
use lib.Bits.{bit_xor}
use Rattle.base.proofs.Filled.{filled_more, filled-all}
use Rattle.field.specs.Field.{add}
use Rattle.products.specs.Blocks.{plus_multiple}
use Rattle.products.proofs.add_multiple.Goals as goal

pub loop-p-preserved : goal.loop-p-preserved
unfolding add
loop-p-preserved c =
    let l = c.loop-p in
    let s = l.invariant in
    filled_more _ l.p _ l.dst _ (omega (arith, s.same)) (ap₂ bit_xor (s.rest l.p (omega arith)) c.times.ensures) s

pub returns : goal.returns
unfolding plus_multiple
returns c = filled-all _ _ _ _ (omega arith) c.loop-p.invariant
