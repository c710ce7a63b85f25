-- The two exponents make 0 or 255. Assumes nothing.
use mathlib.Core.Path.{◌≡◌, sym, ap, ◌∙◌}
use Prim.Native.Nat.{◌+◌, ◌-◌}
use native.Mathlib.Omega.{arith}
use Rattle.field.specs.Field.{pow}
use Rattle.field.proofs.Exponents.{pow-add, pow-order, pow-zero}
use Rattle.tables.proofs.exponent.ExponentNeg.neg.Goals as goal

pub returns-then-self-eq0 : goal.returns-then-self-eq0
returns-then-self-eq0 c =
    let e = c.args.self.value in
    let none : e + e ≡ 0 = omega arith in
    sym (pow-add 2 e e) ∙ ap (pow 2) none ∙ pow-zero 2

pub returns : goal.returns
returns c =
    let e = c.args.self.value in
    let whole : e + (255 - e) ≡ 255 = omega arith in
    sym (pow-add 2 e (255 - e)) ∙ ap (pow 2) whole ∙ pow-order
