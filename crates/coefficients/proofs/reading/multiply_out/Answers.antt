use native.Mathlib.Omega.{arith}
use borrow.Author.Rules.{rules}
use Rattle.coefficients.proofs.Basis.{lowest-none, lowest-more}
use Rattle.coefficients.proofs.reading.multiply_out.Goals as goal

pub loop-x-init : goal.loop-x-init
loop-x-init c = lowest-none _ c.args.product.now (search rules) c.requires.by_index

pub loop-x-preserved : goal.loop-x-preserved
loop-x-preserved c =
    let s = c in
    let l = c.loop-x in
    let w = c.widen in
    lowest-more s.args.points.now s.requires.points l.x-index (omega arith) _ l.product _
    (c.of.ensures (s.requires.points.nonzero l.x-index (omega arith))) w.auto.p w.ensures l.invariant
