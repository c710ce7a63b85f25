-- The questions in their order; then the end of the elimination is read as the inverse, or as the first dependent column. Assumes nothing.
use mathlib.Core.Path.{◌≡◌, sym, ◌∙◌, subst}
use mathlib.Core.Logic.{⊎_elim}
use borrow.Author.Tests.{le-leb, lt-leb, eq-eqb, ne_eqb}
use Rattle.std.proofs.Common.{arith, rules, ℕ, Result, Err, ◌<◌, ◌≤◌, ◌⊎◌}
use Rattle.matrix.specs.Invert.{InvertPost}
use Rattle.matrix.specs.Working.{Loaded}
use Rattle.matrix.specs.Uninvertible.{inversion}
use Rattle.matrix.specs.declared.Uninvertible.{Uninvertible}
use Rattle.matrix.proofs.Answers.{Open, refused-side, refused-lengths, answered-stuck, answered-stored}
use Rattle.matrix.proofs.invert.Goals.{then-m-area-via-then-m-area, then-m-area-via-else-m-area+then-out-area}
use Rattle.matrix.proofs.invert.Goals as goal

pub returns-then-not-contains : goal.returns-then-not-contains
returns-then-not-contains c =
    let s = c.args.s in
    let out : (s < 1) ⊎ (32 < s) = search rules in
    refused-side _ _ _
    (⊎_elim (λ low. simp (lt-leb 1 s low)) (λ high. simp (le-leb 1 s (omega arith), lt-leb s 32 high)) out)

pub returns-then-m-area : goal.returns-then-m-area
returns-then-m-area c =
    let low : 1 ≤ c.args.s = search rules in
    let high : c.args.s ≤ 32 = search rules in
    elim c.then-m-area.branch [
      | then-m-area-via-then-m-area w ↦ refused-lengths _ _ _ low high (simp (ne_eqb _ _ w.if-m-area.true))
      | then-m-area-via-else-m-area+then-out-area w ↦
          refused-lengths _ _ _ low high (simp (eq-eqb _ _ w.if-m-area.false, ne_eqb _ _ w.if-out-area.true))
    ]

pub returns-in_err-eliminate : goal.returns-in_err-eliminate
returns-in_err-eliminate c =
    let o : Open c.args.s c.args.m.now c.args.out.now =
    record { low = search rules; high = search rules; matrix = c.if-m-area.false; buffer = c.if-out-area.false } in
    let P : Result (Unit {0}) Uninvertible → Type 0 = λ r. InvertPost c.args.s c.args.m.now c.args.out.now (inversion r) c.args.out.now in
    let is : c.from_residual.result ≡ Err c.in_err-eliminate.field-0.0 = search rules in
    subst P (sym is)
    (answered-stuck _ _ _ o _ _ _ (c.load.ensures.0 ∙ c.zeros-work.ensures.0) (subst (λ (x : ℕ). Loaded x c.args.m.now c.load.new.self.rows) c.zeros-work.ensures.0 c.load.ensures.1) _ (λ i. omega (arith, c.type_inv.m i)) c.eliminate.new.self.bytes
    c.in_err-eliminate.ensures.1)

pub returns : goal.returns
returns c =
    let o : Open c.args.s c.args.m.now c.args.out.now =
    record { low = search rules; high = search rules; matrix = c.if-m-area.false; buffer = c.if-out-area.false } in
    answered-stored _ _ _ o _ _ _ (c.load.ensures.0 ∙ c.zeros-work.ensures.0) (subst (λ (x : ℕ). Loaded x c.args.m.now c.load.new.self.rows) c.zeros-work.ensures.0 c.load.ensures.1) _ _ c.in_ok-eliminate.ensures.0 c.in_ok-eliminate.ensures.1 c.store.ensures
    (c.store.auto.out ∙ o.buffer) (λ i. omega (arith, c.type_inv.out i))
