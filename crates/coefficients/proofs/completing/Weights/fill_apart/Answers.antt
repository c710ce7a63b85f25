use mathlib.Core.Path.{ap, ◌∙◌}
use Prim.Native.Nat.{ℕ, ◌<◌}
use native.Mathlib.Omega.{arith}
use lib.ListN.{length, get_or}
use Rattle.base.specs.Seq.{tabulate}
use Rattle.base.proofs.Filled.{filled_more, filled-all}
use Rattle.field.specs.Field.{add, pow}
use Rattle.interpolation.specs.Lagrange.{basis_value}
use Rattle.coefficients.specs.Working.{basis_values}
use Rattle.coefficients.proofs.Gains.{gap-nonzero, gain-found}
use Rattle.coefficients.proofs.completing.Weights.fill_apart.Goals as goal

pub loop-j-preserved : goal.loop-j-preserved
unfolding add
loop-j-preserved c =
    let s = c.args in
    let l = c.loop-j in
    let self = s.self.now.anchors in
    let byte = c.ranges.target.fits in
    let inside : l.j < length self.at.now = omega (arith, c.requires.room) in
    let gap = gap-nonzero self.e self.at.now s.target self.weighable byte c.requires.apart l.j inside in
    let found = gain-found self.e self.at.now s.target self.weighable byte c.requires.apart l.j inside
    c.from.result _ _ _ _ _
    (ap (pow 2) c.from.ensures ∙ s.self.now.weighed.power l.j inside) (c.of.ensures gap) c.add-parts.ensures c.neg.ensures c.apart_exponent-whole.ensures c.add.ensures in
    filled_more _ l.j _ l.gains _ (omega (arith, l.invariant.same)) (c.power.ensures ∙ found) l.invariant

pub returns : goal.returns
unfolding basis_values
returns c =
    let s = c.args in
    let self = s.self.now.anchors in
    filled-all _ c.loop-j.j _ _ (omega arith) c.loop-j.invariant
    ∙ ap (λ (n : ℕ). tabulate n (λ o. basis_value self.e self.at.now (get_or self.at.now o 0) s.target)) c.requires.room
