-- One group of at most four columns, whose table has at most 16 entries. Assumes nothing.
use Prim.Native.Nat.{ℕ, ◌^◌, ◌≤◌}
use native.Mathlib.Omega.{arith}
use lib.Pow.{pow_mono}
use Rattle.tiled_products.proofs.short.add_short.Goals as goal

entries : (size : ℕ) → size ≤ 4 → 2 ^ size ≤ 16
entries size h = omega (arith, pow_mono h)

pub add_tiles-requires-clause-table_room : goal.add_tiles-requires-clause-table_room
add_tiles-requires-clause-table_room c = λ g hg. omega (arith, entries _ c.if-places-gt4.false)
