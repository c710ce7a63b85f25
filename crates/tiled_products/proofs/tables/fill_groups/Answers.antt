use mathlib.Core.Path.{◌≡◌, refl, sym, ap, subst⁻¹}
use mathlib.Core.List.{List}
use Prim.Native.Nat.{ℕ, ◌+◌, ◌-◌, ◌*◌, ◌^◌, ◌≤◌}
use native.Mathlib.Nat.{add-mul, mul_assoc, mul-le-mul_right}
use native.Mathlib.Omega.{arith}
use lib.ListN.{length, take, drop}
use lib.Pow.{pow_mono}
use Rattle.base.proofs.Parts.{length-lent}
use Rattle.products.proofs.Stretches.{length-stretch}
use Rattle.tiles.specs.Tiling.{columns}
use Rattle.tiles.proofs.Choices.{tabled-more}
use Rattle.tiles.proofs.Groups.{columns-are}
use Rattle.tiled_products.proofs.tables.fill_groups.Goals as goal

-- where the table of group h begins, and that it has room up to the end
begin : (t h : ℕ) → h * (32 * t) ≡ h * 32 * t
begin t h = sym (mul_assoc h 32 t)

begins : (t h n size : ℕ) → (h * 32 + 2 ^ size) * t ≤ n → h * (32 * t) + 2 ^ size * t ≤ n
begins t h n size room = omega (arith, begin t h, add-mul (h * 32) (2 ^ size) t)

pub overflow_mul-first-in-loop-g : goal.overflow_mul-first-in-loop-g
overflow_mul-first-in-loop-g g c =
    let l = c.loop-g in
    omega (arith, begins g.row.TILE l.g _ c.args.size (c.requires.room l.g (omega arith)))

pub slice_bounds-fill_group-count : goal.slice_bounds-fill_group-count
slice_bounds-fill_group-count g c =
    let l = c.loop-g in
    omega (arith, begins g.row.TILE l.g _ c.args.size (c.requires.room l.g (omega arith)))

pub slice_bounds-fill_group-start : goal.slice_bounds-fill_group-start
slice_bounds-fill_group-start g c =
    let l = c.loop-g in
    omega (arith, begins g.row.TILE l.g _ c.args.size (c.requires.room l.g (omega arith)))

-- the group's columns, of which there are r, need no more entries than its table has
room : (t h size n r : ℕ) (table part places : List ℕ) → (h * 32 + 2 ^ size) * t ≤ n → length table ≡ n → part ≡ take (n - h * (32 * t)) (drop (h * (32 * t)) table) → length places ≡ r → r ≤ size
    → 2 ^ length places * t ≤ length part
room t h size n r table part places fits same lent all few =
    subst⁻¹ (λ (k : ℕ). 2 ^ k * t ≤ length part) all
    (omega (arith, mul-le-mul_right t (pow_mono few), begins t h n size fits, ap length lent, length-lent (h * (32 * t)) (n - h * (32 * t)) table inside))
  where
    inside : h * (32 * t) + (n - h * (32 * t)) ≤ length table
    inside = omega (arith, begins t h n size fits)

pub fill_group-requires-clause-room : goal.fill_group-requires-clause-room
fill_group-requires-clause-room g c =
    let t = g.row.TILE in
    let l = c.loop-g in
    let s = c.args in
    let r = c.min.result in
    let n = length s.places.now in
    let ends : l.g * s.size + r ≤ n = omega (arith, c.requires.grouped.begins l.g (omega arith)) in
    let all = length-stretch (l.g * s.size) r s.places.now ends in
    (omega (arith, all, c.requires.grouped.few), room t l.g s.size _ r l.table _ _ (c.requires.room l.g (omega arith)) c.loop-g.invariant.same refl all (omega arith))

pub loop-g-preserved : goal.loop-g-preserved
loop-g-preserved g c =
    let t = g.row.TILE in
    let l = c.loop-g in
    let s = c.args in
    let r = c.min.result in
    let n = length s.places.now in
    let ends : l.g * s.size + r ≤ n = omega (arith, c.requires.grouped.begins l.g (omega arith)) in
    let first = l.g * (32 * t) in
    let count : r ≡ columns s.size n l.g = columns-are _ _ _ _ c.min.ensures in
    tabled-more t _ _ _ _ _ _ _ c.requires.grouped l.g r first _ l.table _ (begin t l.g) c.requires.w_bound.1 l.invariant.same (c.requires.room l.g (omega arith)) ends count
    c.fill_group.ensures l.invariant
