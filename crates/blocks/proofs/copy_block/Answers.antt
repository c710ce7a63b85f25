use native.Mathlib.Omega.{arith}
use lib.Seq.{length-take-le}
use Rattle.base.proofs.Filled.{filled_more}
use Rattle.blocks.proofs.Laws.{get_d_default}
use Rattle.blocks.proofs.Overlap.{filled-over, copied-front}
use Rattle.blocks.proofs.copy_block.Goals as goal

pub loop-p-preserved : goal.loop-p-preserved
loop-p-preserved c =
    let l = c.loop-p in
    filled_more _ l.p _ l.byte-items _ (omega (arith, l.invariant.same)) (get_d_default c.args.src.now l.p 0 _ (omega (arith, l.invariant.same, length-take-le c.min-size.result c.args.dst.now (omega arith)))) l.invariant

pub returns : goal.returns
returns c =
    let n = c.min-size.result in
    filled-over _ _ _ n (λ h. omega arith) (copied-front _ c.args.src.now n (omega arith) c.loop-p.p _ (omega (arith, length-take-le n c.args.dst.now (omega arith))) c.loop-p.invariant)
