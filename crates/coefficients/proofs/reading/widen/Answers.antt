use mathlib.Core.Path.{ap}
use Prim.Native.Nat.{◌-◌}
use native.Mathlib.Omega.{arith}
use borrow.Author.Rules.{rules}
use lib.ListN.{get_or}
use Rattle.field.specs.Field.{add}
use Rattle.coefficients.proofs.Basis.{widening-none, widening-more, widened}
use Rattle.coefficients.proofs.reading.widen.Goals as goal

pub loop-j-init : goal.loop-j-init
loop-j-init c = widening-none _ _ (search rules)

pub loop-j-preserved : goal.loop-j-preserved
unfolding add
loop-j-preserved c =
    let l = c.loop-j in
    let j = l.j - 1 in
    widening-more _ j c.args.p.now l.p _ (omega arith) (omega (arith, l.invariant.same)) (ap (add (get_or l.p (j - 1) 0)) c.times.ensures) l.invariant

pub returns : goal.returns
returns c =
    let l = c.loop-j in
    widened _ (l.j - 1) _ l.p _ (omega arith) (omega (arith, l.invariant.same)) c.times-2.ensures l.invariant
