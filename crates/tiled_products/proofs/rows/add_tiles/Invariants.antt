-- After some turns the bytes before `at` of every block have the rows added that go to it, the others are as they were. Assumes nothing.
use mathlib.Core.Path.{◌≡◌}
use Prim.Native.Nat.{◌-◌, min}
use lib.ListN.{length}
use Rattle.tiles.proofs.Spans.{block_at, Tiled}
use Rattle.tiled_products.proofs.rows.add_tiles.Given as goal

abbrev pub invariant-loop-at : goal.invariant-loop-at
invariant-loop-at g l =
    (length l.table ≡ length l.initial.table)
    × Tiled l.b (block_at l.b l.stride l.src l.targets l.places l.coeffs l.initial.out) (min l.at l.b) l.initial.out l.out

abbrev pub decreases-loop-at : goal.decreases-loop-at
decreases-loop-at g l = l.b - l.at
