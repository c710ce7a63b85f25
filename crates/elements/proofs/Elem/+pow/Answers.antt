use mathlib.Core.Path.{sym, ap, ap₂, ◌∙◌}
use Prim.Native.Nat.{ℕ}
use native.Mathlib.Omega.{arith}
use Rattle.field.specs.Field.{mul}
use Rattle.field.proofs.Exponents.{pow-zero, pow_even, pow-odd}
use Rattle.elements.proofs.Elem.+pow.Goals as goal

pub returns-then-e-eq0 : goal.returns-then-e-eq0
returns-then-e-eq0 t c = sym (ap (Rattle.field.specs.Field.pow c.args.self.0) c.if-e-eq0.true ∙ pow-zero c.args.self.0)

pub returns-then-e-eq0-2 : goal.returns-then-e-eq0-2
returns-then-e-eq0-2 t c =
    let half = c.pow-half.ensures in
    c.mul-square.ensures ∙ ap₂ mul half half ∙ pow_even _ c.args.e c.if-e-eq0-2.true

pub returns : goal.returns
returns t c =
    let half = c.pow-half.ensures in
    c.mul.ensures ∙ ap (λ (x : ℕ). mul x c.args.self.0) (c.mul-square.ensures ∙ ap₂ mul half half)
    ∙ pow-odd c.args.self.0 c.args.e (omega arith) c.if-e-eq0-2.false
