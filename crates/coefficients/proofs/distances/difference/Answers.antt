-- Equal points count 01; of others the exponent is looked up. Assumes nothing.
use mathlib.Core.Path.{sym, ◌∙◌}
use native.Mathlib.Omega.{arith}
use Rattle.field.specs.Field.{add}
use Rattle.field.proofs.Addition.{add-zero-eq}
use Rattle.interpolation.proofs.Lagrange.{factor-same, factor-other}
use Rattle.coefficients.proofs.distances.difference.Goals as goal

pub returns-then-x-d : goal.returns-then-x-d
returns-then-x-d c = c.of.ensures (λ z. omega arith) ∙ sym (factor-same c.args.x c.args.x c.args.d (sym c.if-x-d.true))

pub returns : goal.returns
unfolding add
returns c =
    let s = c.args in
    c.of-2.ensures (λ z. c.if-x-d.false (add-zero-eq s.x s.d z)) ∙ sym (factor-other s.x s.x s.d (λ q. c.if-x-d.false (sym q)))
