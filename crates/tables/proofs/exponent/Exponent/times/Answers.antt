-- 0 stays 0; else the exponents add up. Assumes nothing.
use mathlib.Core.Path.{sym, ap, ◌∙◌}
use Prim.Native.Nat.{ℕ}
use Rattle.field.specs.Field.{mul, pow}
use Rattle.field.proofs.Multiplication.{mul-zero-left}
use Rattle.tables.proofs.exponent.Exponent.times.Goals as goal

pub returns-then-a-eq0 : goal.returns-then-a-eq0
returns-then-a-eq0 c = sym (ap (λ (x : ℕ). mul x (pow 2 c.args.self.value)) c.if-a-eq0.true ∙ mul-zero-left _)
