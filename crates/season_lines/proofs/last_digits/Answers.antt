use mathlib.Core.Path.{◌≡◌, sym, ap, ◌∙◌, subst}
use Prim.Native.Nat.{ℕ, suc, ◌-◌, ◌^◌, ◌<◌}
use native.Mathlib.Omega.{arith}
use lib.ListN.{drop, drop_of_length-le}
use Rattle.season_lines.specs.Lines.{digits_before, decimal}
use Rattle.season_lines.proofs.Backwards.{fewer_digits, one_less, first-digit}
use Rattle.season_lines.proofs.last_digits.Goals as goal

pub loop-start-init : goal.loop-start-init
unfolding decimal
loop-start-init c = (omega arith, ap (digits_before 20 c.args.number) (drop_of_length-le c.args.digits.now {i = 20} (omega (arith, c.requires))))

pub returns-then-rest-eq0 : goal.returns-then-rest-eq0
returns-then-rest-eq0 c =
    let l = c.loop-start in
    let e : suc (l.start - 1) ≡ l.start = omega arith in
    (omega arith, first-digit (l.start - 1) l.digits (omega (arith, c.requires)) l.rest c.if-rest-eq0.true ∙ ap (λ (m : ℕ). digits_before m l.rest (drop m l.digits)) e ∙ l.invariant.1)

pub loop-start-preserved : goal.loop-start-preserved
loop-start-preserved c =
    let l = c.loop-start in
    let e : suc (l.start - 1) ≡ l.start = omega arith in (
      fewer_digits (l.start - 1) l.rest (subst (λ (m : ℕ). l.rest < 10 ^ m) (sym e) l.invariant.0),
      one_less (l.start - 1) l.digits (omega (arith, c.requires)) l.rest c.if-rest-eq0.false ∙ ap (λ (m : ℕ). digits_before m l.rest (drop m l.digits)) e
          ∙ l.invariant.1,
    )

pub returns : goal.returns
unfolding digits_before
returns c =
    let l = c.loop-start in
    let z : 0 ≡ l.start = omega arith in
    (omega arith, ap (λ (m : ℕ). digits_before m l.rest (drop m l.digits)) z ∙ l.invariant.1)
