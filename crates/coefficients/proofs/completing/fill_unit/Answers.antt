use mathlib.Core.Path.{ap, ◌∙◌}
use Prim.Native.Nat.{ℕ}
use native.Mathlib.Omega.{arith}
use lib.ListN.{get_or}
use Rattle.base.specs.Seq.{tabulate}
use Rattle.base.proofs.Filled.{filled_none, filled_more, filled-all}
use Rattle.coefficients.specs.Working.{same, unit_row}
use Rattle.coefficients.proofs.Gains.{same-told}
use Rattle.coefficients.proofs.completing.fill_unit.Goals as goal

pub loop-j-init : goal.loop-j-init
loop-j-init c = filled_none _ _

pub loop-j-preserved : goal.loop-j-preserved
loop-j-preserved c =
    let l = c.loop-j in
    filled_more _ l.j _ l.gains _ (omega (arith, l.invariant.same)) (c.from.ensures ∙ same-told _ c.args.target) l.invariant

pub returns : goal.returns
unfolding unit_row
returns c =
    let s = c in
    filled-all _ c.loop-j.j _ _ (omega arith) c.loop-j.invariant
    ∙ ap (λ (n : ℕ). tabulate n (λ o. same (get_or s.args.at.now o 0) s.args.target)) s.requires
