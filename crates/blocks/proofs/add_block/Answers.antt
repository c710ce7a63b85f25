use mathlib.Core.Path.{refl, ap₂}
use native.Mathlib.Omega.{arith}
use lib.Bits.{bit_xor}
use lib.Seq.{length-take-le}
use Rattle.base.proofs.Filled.{filled_more}
use Rattle.field.specs.Field.{add}
use Rattle.blocks.proofs.Overlap.{filled-plus, added-front}
use Rattle.blocks.proofs.add_block.Goals as goal

pub loop-p-preserved : goal.loop-p-preserved
unfolding add
loop-p-preserved c =
    let l = c.loop-p in
    let s = l.invariant in
    filled_more _ l.p _ l.byte-items _ (omega (arith, s.same)) (ap₂ bit_xor (s.rest l.p (omega arith)) refl) s

pub returns : goal.returns
returns c =
    let n = c.min-count.result in
    filled-plus _ _ _ n (λ h. omega arith) (added-front _ c.args.src.now n (omega arith) c.loop-p.p _ (omega (arith, length-take-le n c.args.dst.now (omega arith))) c.loop-p.invariant)
