use mathlib.Core.Path.{sym, subst}
use Rattle.field.specs.Field.{IsByte, add}
use Rattle.field.proofs.Addition.{add-byte}
use Rattle.field.proofs.Multiplication.{mul-byte}
use Rattle.std.proofs.Common.{arith}
use Rattle.std.proofs.lemmas.Grind.{common_steps}
use Rattle.matrix.proofs.Rewriting.{bytes-set}
use Rattle.matrix.proofs.work.add_to.Goals as goal

pub loop-i-preserved : goal.loop-i-preserved
unfolding add
loop-i-preserved c =
    let l = c.loop-i in (
      λ k hk. grind (arith, common_steps),
      λ k hk. grind (arith, common_steps),
      bytes-set _ _ _ (omega arith) (add-byte _ _ (l.invariant.2 l.i) (subst IsByte (sym c.times.ensures) (mul-byte _ _))) l.invariant.2,
    )
