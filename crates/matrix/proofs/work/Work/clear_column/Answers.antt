use mathlib.Core.Path.{◌≡◌, refl, sym, ◌∙◌, subst}
use Rattle.std.proofs.Common.{arith, ◌+◌}
use Rattle.matrix.specs.declared.work.Work.{Work}
use Rattle.matrix.proofs.RowOperations.{ClearedBelow, cleared-same, cleared-more}
use Rattle.matrix.proofs.work.Work.clear_column.Goals.{then-i-j, else-i-j}
use Rattle.matrix.proofs.work.Work.clear_column.Goals as goal

pub loop-i-preserved : goal.loop-i-preserved
loop-i-preserved c =
    let l = c.loop-i in
    let old = c.args.self.now in
    let P : Work → Type 0 = λ x. (x.side ≡ old.side) × ClearedBelow old.side c.args.j (l.i + 1) old.rows x.rows in
    elim c.if-i-j.branch [
      | then-i-j w ↦
          let a = w.add_multiple.ensures in
          subst P (sym w.self-is)
          (a.0 ∙ l.invariant.0, cleared-more _ _ _ _ _ _ _ _ l.invariant.0 (omega arith) w.if-i-j.true (l.self.bytes l.i c.args.j) c.requires (λ k hk. refl) a.1 l.invariant.1)
      | else-i-j w ↦
          subst P (sym w.self-is) (l.invariant.0, cleared-same _ _ _ _ _ _ l.invariant.0 (omega arith) w.if-i-j.false c.requires l.invariant.1)
    ]
