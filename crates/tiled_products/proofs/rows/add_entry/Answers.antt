-- The pick stands within the picks, and names an entry that the table has. Assumes nothing.
use mathlib.Core.List.{List}
use mathlib.Core.Path.{◌≡◌, ap, ◌∙◌, subst⁻¹}
use Prim.Native.Nat.{ℕ, ◌+◌, ◌*◌, ◌≤◌, ◌<◌}
use native.Mathlib.Omega.{arith}
use lib.ListN.{length, get_or}
use Rattle.base.specs.Seq.{cell}
use Rattle.base.specs.Parts.{part_of}
use Rattle.field.specs.Field.{plus}
use Rattle.tiles.specs.Tiling.{Reached}
use Rattle.tiled_products.proofs.rows.add_entry.Goals as goal

pick_is : (r g q : ℕ) (picks : List ℕ) → r ≡ get_or picks (g * 256 + q) 0 → r ≡ cell 256 picks g q
unfolding cell
pick_is r g q picks e = e

room : (t groups r g q : ℕ) (table picks : List ℕ) → r ≡ get_or picks (g * 256 + q) 0 → Reached t groups q table picks → g < groups → (g * 32 + r) * t + t ≤ length table
room t groups r g q table picks e h lt =
    subst⁻¹ (λ (k : ℕ). (g * 32 + k) * t + t ≤ length table) (pick_is r g q picks e) (h.entry g lt)

pub overflow_mul-at : goal.overflow_mul-at
overflow_mul-at g c = omega (arith, room g.row.TILE _ _ c.args.g _ _ _ c.from.ensures c.requires.reached (omega arith))

pub overflow_add-end : goal.overflow_add-end
overflow_add-end g c = omega (arith, room g.row.TILE _ _ c.args.g _ _ _ c.from.ensures c.requires.reached (omega arith))

pub slice_bounds-add_block-end : goal.slice_bounds-add_block-end
slice_bounds-add_block-end g c = room g.row.TILE _ _ c.args.g _ _ _ c.from.ensures c.requires.reached (omega arith)

pub returns : goal.returns
returns g c =
    let s = c.args in
    record {
      inside = λ lt. c.add_block.ensures ∙ ap (λ (k : ℕ). plus s.sum.now (part_of g.row.TILE (s.g * 32 + k) s.table.now)) (pick_is _ s.g s.q s.picks.now c.from.ensures);
      beyond = λ le. absurd (omega arith);
    }
