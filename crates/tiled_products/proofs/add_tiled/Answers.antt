-- Row by row, or where the product fits in tiles: the table and the picks have room for 32 rows and columns. Assumes nothing.
use mathlib.Core.Path.{◌≡◌, sym, ap, ◌∙◌}
use mathlib.Core.List.{List, ◌++◌}
use Prim.Native.Nat.{ℕ, ◌+◌, ◌^◌, ◌≤◌}
use native.Mathlib.Omega.{arith}
use lib.ListN.{length, drop, replicate, length-append}
use lib.Pow.{pow_mono}
use Rattle.products.proofs.Laws.{nothing-added}
use Rattle.tiles.proofs.Groups.{all-grouped, seven}
use Rattle.tiled_products.proofs.add_tiled.Goals as goal

-- the table with its first tile doubled
table-length : (first : List ℕ) → length first ≡ 64 → length (first ++ drop 64 (replicate 14336 0)) ≡ 14336
table-length first e = length-append first _ ∙ ap (λ (n : ℕ). n + length (drop {A = ℕ} 64 (replicate 14336 0))) e

entries : (size : ℕ) → size ≤ 5 → 2 ^ size ≤ 32
entries size h = omega (arith, pow_mono h)

pub returns-then-not-fits : goal.returns-then-not-fits
returns-then-not-fits c = nothing-added _ _ _ _ _ _ _ (c.fits.ensures.fails c.if-not-fits.true)

pub slice_bounds-add_tiles-end : goal.slice_bounds-add_tiles-end
slice_bounds-add_tiles-end c = sym (table-length c.double_tile.new.x c.double_tile.auto.x)

pub add_tiles-requires : goal.add_tiles-requires
add_tiles-requires c =
    let d = c.double_tile in
    let most = c.prefers_rows.ensures c.if-prefers_rows.false in
    let few : c.groups_of-groups.result ≤ 7 = seven _ _ most.1 c.groups_of-groups.ensures in
    let all = all-grouped _ _ _ most.1 c.groups_of-groups.ensures c.size_of-size.ensures in
    record {
      fits = c.fits.ensures.holds c.if-not-fits.false;
      grouped = all;
      bounds = (most.0, few, omega arith, omega arith);
      table_room = λ g hg. omega (arith, few, entries c.size_of-size.result all.few, table-length d.new.x d.auto.x);
      picks_room = λ g hg. omega (arith, few, most.0);
    }
