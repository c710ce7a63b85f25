use mathlib.Core.Path.{ap₂, ◌∙◌}
use mathlib.Core.Bool.{Bool, cond}
use Prim.Native.Nat.{ℕ}
use native.Mathlib.Omega.{arith}
use Rattle.base.proofs.Filled.{filled_more}
use Rattle.serials.proofs.Laws.{low_bit, next_bit}
use Rattle.serials.proofs.stamp.Goals as goal

pub loop-own-preserved : goal.loop-own-preserved
loop-own-preserved c =
    let l = c.loop-own in
    let a = c.args in
    let at = l.own-index in
    let w = l.invariant.1 in (
      next_bit _ at _ l.invariant.0,
      filled_more _ at _ l.serials _ (omega (arith, w.same))
          (c.pick.ensures ∙ ap₂ (λ (b : Bool) (x : ℕ). cond b a.serial x) (low_bit a.set.0 at _ l.invariant.0) (w.rest at (omega arith))) w,
    )
