use mathlib.Core.Path.{◌≡◌, refl}
use Prim.Native.Nat.{◌+◌, ◌*◌, ◌≤◌}
use native.Mathlib.Omega.{arith}
use lib.ListN.{length}
use Rattle.products.proofs.Stretches.{length-stretch}
use Rattle.tiles.specs.Tiling.{columns}
use Rattle.tiles.proofs.Groups.{columns-are}
use Rattle.tiles.proofs.PickRows.{group-eight, group-picks, row_more}
use Rattle.tiled_products.proofs.picked.fill_row.Goals as goal

pub loop-g-preserved : goal.loop-g-preserved
loop-g-preserved c =
    let l = c.loop-g in
    let s = c.args in
    let r = c.min.result in
    let room : l.g * 256 + s.i * 8 + 8 ≤ length l.picks = omega (arith, c.requires.i_bound.1 l.g (omega arith), l.invariant.same) in
    let ends : l.g * s.size + r ≤ length s.coeffs.now = omega (arith, c.requires.grouped.begins l.g (omega arith)) in
    let count : r ≡ columns s.size (length s.coeffs.now) l.g = columns-are _ _ _ _ c.min.ensures in
    let few : r ≤ 5 = omega (arith, c.requires.grouped.few) in
    let lent = length-stretch (l.g * 256 + s.i * 8) 8 l.picks room in
    let put = c.put_picks in
    row_more s.i s.size s.coeffs.now l.g _ _ l.picks put.new.picks c.requires.i_bound.0 refl room
    (group-eight s.size s.coeffs.now l.g r _ _ lent few ends count put.ensures)
    (group-picks s.size s.coeffs.now l.g r _ _ lent few ends count put.ensures) l.invariant
