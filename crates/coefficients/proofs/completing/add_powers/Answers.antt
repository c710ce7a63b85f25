use mathlib.Core.Path.{◌≡◌, sym, ap, ap₂, ◌∙◌}
use Prim.Native.Nat.{ℕ, suc}
use native.Mathlib.Nat.{le_refl}
use native.Mathlib.Numerals.{add-one}
use native.Mathlib.Omega.{arith}
use borrow.Author.Rules.{rules}
use Rattle.base.proofs.Filled.{filled_none, filled_more, filled-all}
use Rattle.field.specs.Field.{add, mul, pow}
use Rattle.field.proofs.Multiplication.{mul-one-right}
use Rattle.field.proofs.Exponents.{pow-zero}
use Rattle.coefficients.specs.Working.{with_powers}
use Rattle.coefficients.proofs.Shares.{power-on, no-gain}
use Rattle.coefficients.proofs.completing.add_powers.Goals as goal

pub returns-then-g-eq0 : goal.returns-then-g-eq0
returns-then-g-eq0 c = no-gain _ _ _ c.if-g-eq0.true

pub loop-coefficient-init : goal.loop-coefficient-init
loop-coefficient-init c =
    let s = c.args in
    (c.of-sum.ensures c.if-g-eq0.false ∙ sym (ap (mul s.g) (pow-zero s.x) ∙ mul-one-right s.g (search rules)), filled_none _ _)

pub loop-coefficient-preserved : goal.loop-coefficient-preserved
unfolding add
loop-coefficient-preserved c =
    let l = c.loop-coefficient in
    let j = l.coefficient-index in
    let s = c.args in
    let next : pow 2 c.add-sum.result.value ≡ mul s.g (pow s.x (suc j)) =
    power-on s.g s.x _ _ _ j (c.of-l.ensures c.requires) l.invariant.0 c.add-sum.ensures in (
      next ∙ ap (λ (k : ℕ). mul s.g (pow s.x k)) (sym (add-one j)),
      filled_more _ j _ l.leading _ (omega (arith, l.invariant.1.same)) (ap₂ add (l.invariant.1.rest j (le_refl j)) (c.power.ensures ∙ next)) l.invariant.1,
    )

pub returns : goal.returns
unfolding with_powers
returns c = filled-all _ _ _ _ (omega arith) c.loop-coefficient.invariant.1
