use mathlib.Core.Path.{refl, sym, ap, ap₂, ◌∙◌}
use mathlib.Core.Bool.{Bool, cond}
use Prim.Native.Nat.{max}
use native.Mathlib.Nat.{div-one}
use lib.ListN.{get_or}
use Rattle.params.specs.Nodes.{has}
use Rattle.serials.specs.Serials.{highest}
use Rattle.serials.proofs.Laws.{low_bit, next_bit, highest-more}
use Rattle.serials.proofs.highest.Goals as goal

pub loop-own-init : goal.loop-own-init
unfolding highest
loop-own-init c = (sym (div-one _), refl)

pub loop-own-preserved : goal.loop-own-preserved
loop-own-preserved c =
    let l = c.loop-own in
    let a = c.args in
    let at = l.own-index in
    let x = get_or a.serials.now at 0 in (
      next_bit _ at _ l.invariant.0,
      c.max-most.ensures
          ∙ ap₂ max l.invariant.1 (c.pick.ensures ∙ ap (λ (b : Bool). cond b x 0) (low_bit a.set.0 at _ l.invariant.0))
          ∙ sym (highest-more (has a.set.0) a.serials.now at),
    )
