use mathlib.Core.Path.{◌≡◌, subst}
use Prim.Native.Nat.{ℕ, min}
use native.Mathlib.Omega.{arith}
use Rattle.tiles.specs.Tiling.{Gathered}
use Rattle.tiles.proofs.Spans.{gathered_none, gathered-step}
use Rattle.tiled_products.proofs.rows.add_picked.Goals as goal

pub loop-g-init : goal.loop-g-init
loop-g-init g c =
    let none : 0 ≡ min 0 c.args.groups = omega arith in
    let s = c.args in
    let t = g.row.TILE in
    subst (λ (n : ℕ). Gathered t n s.table.now s.picks.now s.q s.sum.now s.sum.now) none (gathered_none t _ _ _ _ c.requires.sum_len.0)

pub loop-g-preserved : goal.loop-g-preserved
loop-g-preserved g c =
    let l = c.loop-g in
    gathered-step g.row.TILE _ _ _ _ c.requires.sum_len.0 c.args.groups l.g l.sum _ c.add_entry.ensures l.invariant
