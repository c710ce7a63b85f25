-- A factor 0 gives 0; else both are powers of 02, and the exponents add up. Assumes nothing.
use mathlib.Core.Path.{◌≡◌, ap, sym, ◌∙◌}
use Prim.Native.Nat.{ℕ}
use borrow.Author.Rules.{rules}
use Rattle.field.specs.Field.{mul}
use Rattle.field.proofs.Multiplication.{mul-zero-left, mul-zero-right}
use Rattle.elements.proofs.ElemMul.mul.Goals as goal

pub returns-then-eq : goal.returns-then-eq
returns-then-eq c =
    let a = c.args in
    let zero : a.self.0 ≡ 0 = search rules in
    zero ∙ sym (ap (λ (x : ℕ). mul x a.other.0) zero ∙ mul-zero-left a.other.0)

pub returns-then-eq-2 : goal.returns-then-eq-2
returns-then-eq-2 c =
    let a = c.args in
    let zero : a.other.0 ≡ 0 = search rules in
    zero ∙ sym (ap (mul a.self.0) zero ∙ mul-zero-right a.self.0)
