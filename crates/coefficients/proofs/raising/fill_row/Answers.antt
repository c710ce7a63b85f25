use mathlib.Core.Path.{◌≡◌, sym, ap, ◌∙◌}
use Prim.Native.Nat.{suc}
use native.Mathlib.Numerals.{add-one}
use native.Mathlib.Omega.{arith}
use Rattle.base.proofs.Filled.{filled_none, filled_more, filled-all}
use Rattle.field.specs.Field.{pow}
use Rattle.field.proofs.Exponents.{pow-zero}
use Rattle.coefficients.specs.Working.{powers_of}
use Rattle.coefficients.proofs.Rows.{step-on, zero-powers}
use Rattle.coefficients.proofs.raising.fill_row.Goals as goal

pub returns-then-c-eq0 : goal.returns-then-c-eq0
returns-then-c-eq0 c = zero-powers _ _ c.args.out.now c.if-c-eq0.true (c.fill.ensures.after (λ y h. h))

pub loop-entry-init : goal.loop-entry-init
loop-entry-init c = (c.of-x.ensures (λ z. omega arith) ∙ sym (pow-zero _), filled_none _ _)

pub loop-entry-preserved : goal.loop-entry-preserved
loop-entry-preserved c =
    let l = c.loop-entry in
    let j = l.entry-index in
    let next : pow 2 c.add-x.result.value ≡ pow c.args.c (suc j) =
    step-on _ _ _ _ j (c.of-l.ensures c.if-c-eq0.false) l.invariant.0 c.add-x.ensures in (
      next ∙ ap (pow c.args.c) (sym (add-one j)),
      filled_more _ j _ l.out _ (omega (arith, l.invariant.1.same)) (c.power.ensures ∙ next) l.invariant.1,
    )

pub returns : goal.returns
unfolding powers_of
returns c = filled-all _ _ _ _ (omega arith) c.loop-entry.invariant.1
