-- A copy of entry m, to which the tile is added; it is as long as the part that it is written to. Assumes nothing.
use mathlib.Core.Path.{ap, ◌∙◌}
use native.Mathlib.Omega.{arith}
use Prim.Native.Nat.{ℕ}
use lib.ListN.{length-replicate}
use Rattle.base.specs.Parts.{part_of, put_block}
use Rattle.base.proofs.Parts.{length-part_of}
use Rattle.blocks.proofs.Laws.{over-same}
use Rattle.tiles.proofs.Choices.{sum_is}
use Rattle.tiled_products.proofs.tables.set_sum.Goals as goal

pub returns : goal.returns
returns g c =
    let t = g.row.TILE in
    let n = c.args.n in
    let table = c.args.table.now in
    sum_is t n c.args.m _ _ _ _ _ _ c.requires.n_in_bounds.1 (length-replicate {A = ℕ} t 0) c.copy_block.ensures c.add_block.ensures
    (ap (put_block t n table)
    (c.copy_block-2.ensures
    ∙ over-same (part_of t n table) _ (omega (arith, length-part_of t n table c.requires.n_in_bounds.0, c.add_block.auto.dst, c.copy_block.auto.dst, length-replicate {A = ℕ} t 0))))
