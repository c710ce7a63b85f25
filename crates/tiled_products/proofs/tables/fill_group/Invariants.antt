-- After each turn the table has the sums over the columns from t on. Assumes nothing.
use mathlib.Core.Path.{◌≡◌}
use Prim.Native.Nat.{◌+◌, ◌-◌, ◌^◌}
use lib.ListN.{length}
use Rattle.tiles.specs.Tiling.{tile_at, Chosen}
use Rattle.tiled_products.proofs.tables.fill_group.Given as goal

abbrev pub invariant-loop-t : goal.invariant-loop-t
invariant-loop-t g l =
    (l.half ≡ 2 ^ (length l.places - l.t)) × Chosen g.row.TILE l.w (length l.places - l.t) (λ k. tile_at l.b l.at l.src l.places (l.t + k)) l.initial.table l.table
