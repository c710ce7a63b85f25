use mathlib.Core.Path.{◌∙◌}
use native.Mathlib.Omega.{arith}
use Rattle.coefficients.proofs.Gains.{power_small, apart_none, apart_more, apart-all}
use Rattle.coefficients.proofs.distances.Anchors.apart_exponent.Goals as goal

pub loop-d-init : goal.loop-d-init
loop-d-init c =
    let e = c.args.self.now.e in
    let l = c.of.result in
    (power_small l.value e l.small c.args.self.now.weighable.e_most, apart_none e _ l.value _ (c.of.ensures c.requires))

pub loop-d-preserved : goal.loop-d-preserved
loop-d-preserved c =
    let l = c.loop-d in
    let d = c.difference-sum in
    (omega (arith, d.result.small), apart_more _ l.sum d.result.value l.d-index _ l.invariant.1 d.ensures)

pub returns : goal.returns
returns c =
    let l = c.loop-d in
    c.reduced.ensures ∙ apart-all c.args.self.now.e c.args.self.now.at.now _ l.sum l.d-index (omega arith) l.invariant.1
