use mathlib.Core.Path.{◌≡◌, refl, sym, ap, ◌∙◌}
use Prim.Native.Nat.{ℕ, suc, ◌+◌, ◌-◌, ◌*◌, ◌^◌, ◌≤◌, ◌<◌}
use native.Mathlib.Nat.{pow-suc, mul-le-mul_right}
use native.Mathlib.Omega.{arith}
use lib.ListN.{length, get_or}
use lib.Pow.{pow_mono}
use Rattle.products.proofs.Stretches.{stretch, stretch-cell}
use Rattle.tiles.specs.Tiling.{tile_at}
use Rattle.tiles.proofs.Choices.{tile-byte, chosen_none, chosen_more}
use Rattle.tiled_products.proofs.tables.fill_group.Goals as goal

-- there is room for the first entry
one : (n t long : ℕ) → 2 ^ n * t ≤ long → t ≤ long
one n t long room =
    let least : 0 ≤ n = omega arith in
    let some : 1 ≤ 2 ^ n = pow_mono least in
    omega (arith, mul-le-mul_right t some)

pub loop-t-init : goal.loop-t-init
loop-t-init g c =
    let s = c.args in
    let t = g.row.TILE in
    let n = length s.places.now in
    let none : n - n ≡ 0 = omega arith in
    let whole : t - 0 ≡ t = omega arith in
    (ap (λ (k : ℕ). 2 ^ k) (sym none), chosen_none t _ c.requires.w_bound.1 _ _ 0 (t - 0) s.table.now _ none refl whole (one n t _ c.requires.room.1) c.clear.ensures)

-- there is room for twice as many entries
halves : (half t n : ℕ) → half ≡ 2 ^ (n - t) → 0 < t → t ≤ n → half + half ≤ 2 ^ n
halves half t n e pos le =
    let most : suc (n - t) ≤ n = omega arith in
    omega (arith, e, pow-suc 2 (n - t), pow_mono most)

few : (n : ℕ) → n ≤ 5 → 2 ^ n ≤ 32
few n h = omega (arith, pow_mono h)

pub add_column-requires-clause-half_bound : goal.add_column-requires-clause-half_bound
add_column-requires-clause-half_bound g c =
    let l = c.loop-t in
    let n = length c.args.places.now in
    let twice : l.half + l.half ≤ 2 ^ n = halves l.half l.t n l.invariant.0 (omega arith) (omega arith) in
    (omega (arith, few n c.requires.room.0), omega (arith, mul-le-mul_right g.row.TILE twice, c.requires.room.1, l.invariant.1.same))

pub loop-t-preserved : goal.loop-t-preserved
loop-t-preserved g c =
    let l = c.loop-t in
    let s = c.args in
    let k = length s.places.now - l.t in
    let more : length s.places.now - (l.t - 1) ≡ suc k = omega arith in (
      ap (λ (x : ℕ). x * 2) l.invariant.0 ∙ sym (ap (λ (x : ℕ). 2 ^ x) more ∙ pow-suc 2 k),
      chosen_more g.row.TILE s.w c.requires.w_bound.1 (tile_at s.b s.at s.src.now s.places.now) _
          (tile-byte s.b s.at s.src.now s.places.now (λ i. omega (arith, (c.type_inv.src i).fits)))
          l.t k l.half _ l.table _ (omega arith) l.invariant.0
          (λ p hp. ap (λ (x : ℕ). get_or (stretch (x * s.b + s.at) s.w s.src.now) p 0) c.from.ensures
          ∙ stretch-cell s.b s.at s.w (get_or s.places.now (l.t - 1) 0) s.src.now p hp)
          c.add_column.ensures l.invariant.1 _ more,
    )
