use Prim.Native.Nat.{ℕ, ◌+◌, ◌<◌}
use native.Mathlib.Omega.{arith}
use borrow.Author.Rules.{rules}
use lib.ListN.{length}
use Rattle.base.proofs.Parts.{row_ends}
use Rattle.tiles.proofs.Choices.{raised-none, raised-more}
use Rattle.tiled_products.proofs.tables.raise.Goals as goal

pub loop-m-init : goal.loop-m-init
loop-m-init g c = raised-none _ _ _ _

-- both entries end within the table
pub set_sum-requires : goal.set_sum-requires
set_sum-requires g c =
    let t = g.row.TILE in
    let l = c.loop-m in
    let s = c.args in
    let inside = λ (n : ℕ) (h : n < s.half + s.half). row_ends (s.half + s.half) n t (length l.table) h (omega (arith, l.invariant.same)) in
    record {
      n_in_bounds = (omega (arith, inside (s.half + l.m) (omega arith)), omega (arith, inside l.m (omega arith)));
      tile_len = (search rules, omega arith);
    }

pub loop-m-preserved : goal.loop-m-preserved
loop-m-preserved g c =
    let l = c.loop-m in
    raised-more g.row.TILE _ c.args.half _ c.args.table.now c.requires.half_bound.1 (omega arith) l.m l.table _ (omega arith) c.set_sum.ensures l.invariant
