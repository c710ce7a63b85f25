-- A product of powers has the sum of their exponents, and 255 less is the same power. Assumes nothing.
use mathlib.Core.Path.{◌≡◌, sym, ap, ◌∙◌}
use Prim.Native.Nat.{ℕ, ◌+◌, ◌-◌}
use native.Mathlib.Omega.{arith}
use Rattle.field.specs.Field.{mul, pow}
use Rattle.field.proofs.Multiplication.{mul-one-left}
use Rattle.field.proofs.Exponents.{pow-byte, pow-add, pow-order}
use Rattle.tables.proofs.exponent.ExponentAdd.add.Goals as goal

pub returns-then-sum-lt255 : goal.returns-then-sum-lt255
returns-then-sum-lt255 c = pow-add 2 c.args.self.value c.args.other.value

pub returns : goal.returns
returns c =
    let sum = c.args.self.value + c.args.other.value in
    let whole : 255 + (sum - 255) ≡ sum = omega arith in
    sym (mul-one-left _ (pow-byte 2 (sum - 255))) ∙ ap (λ (x : ℕ). mul x (pow 2 (sum - 255))) (sym pow-order)
    ∙ sym (pow-add 2 255 (sum - 255)) ∙ ap (pow 2) whole ∙ pow-add 2 c.args.self.value c.args.other.value
