use mathlib.Core.Path.{◌≡◌, ◌∙◌, subst}
use mathlib.Core.List.{List}
use Prim.Native.Nat.{ℕ, ◌+◌, ◌-◌, ◌<◌, min}
use native.Mathlib.Omega.{arith}
use lib.ListN.{length}
use Rattle.products.specs.Blocks.{product, Spanned}
use Rattle.tiles.proofs.Spans.{picks-reach, row-product, block_at, Tiled, tiled-more, tiled-all}
use Rattle.tiled_products.proofs.rows.add_tiles.Goals as goal

pub add_tile_rows-requires-clause-by_index : goal.add_tile_rows-requires-clause-by_index
add_tile_rows-requires-clause-by_index g c =
    let t = c.fill_groups.ensures in
    let p = c.fill_picks.ensures in
    picks-reach _ _ _ _ _ p g.row.TILE c.args.size _ (omega arith) (λ h hh. omega (arith, c.requires.picks_room h hh, p.same))
    (λ h hh. omega (arith, c.requires.table_room h hh, t.same, c.loop-at.invariant.0))

-- one more tile: it ends where the next begins, or with the block
next : (b at w t stride : ℕ) (src targets places coeffs old : List ℕ) (f : ℕ → ℕ → ℕ) (mid new : List ℕ) → at < b → w ≡ min (b - at) t
    → ((i p : ℕ) → i < length targets → p < w → f i p ≡ product b src places coeffs stride i (at + p))
    → Tiled b (block_at b stride src targets places coeffs old) (min at b) old mid → Spanned b at w targets f (length targets) mid new
    → Tiled b (block_at b stride src targets places coeffs old) (min (at + t) b) old new
next b at w t stride src targets places coeffs old f mid new lt e is s l =
    subst (λ (q : ℕ). Tiled b (block_at b stride src targets places coeffs old) q old new) ends
    (tiled-more b at w stride src targets places coeffs old f mid new (omega arith) is
    (subst (λ (q : ℕ). Tiled b (block_at b stride src targets places coeffs old) q old mid) begins s) l)
  where
    ends : at + w ≡ min (at + t) b
    ends = omega arith

    begins : min at b ≡ at
    begins = omega arith

pub loop-at-preserved : goal.loop-at-preserved
loop-at-preserved g c =
    let t = c.fill_groups.ensures in
    let l = c.loop-at in (
      t.same ∙ l.invariant.0,
      next _ l.at _ g.row.TILE _ _ _ _ _ _ _ l.out _ (omega arith) c.min-w.ensures
          (row-product g.row.TILE _ _ _ _ _ _ _ _ _ _ _ _ (λ i. omega (arith, (c.type_inv.coeffs i).fits)) c.requires.grouped t c.fill_picks.ensures)
          l.invariant.1 c.add_tile_rows.ensures,
    )

pub returns : goal.returns
returns g c = tiled-all _ _ (min c.loop-at.at c.args.b) _ _ _ _ _ _ c.requires.fits (omega arith) c.loop-at.invariant.1

-- where the next tile would begin past every number, this one was the last
pub returns-2 : goal.returns-2
returns-2 g c =
    let t = c.fill_groups.ensures in
    let l = c.loop-at in
    tiled-all _ _ (min (l.at + g.row.TILE) c.args.b) _ _ _ _ _ _ c.requires.fits (omega arith)
    (next _ l.at _ g.row.TILE _ _ _ _ _ _ _ l.out _ (omega arith) c.min-w.ensures
    (row-product g.row.TILE _ _ _ _ _ _ _ _ _ _ _ _ (λ i. omega (arith, (c.type_inv.coeffs i).fits)) c.requires.grouped t c.fill_picks.ensures)
    l.invariant.1 c.add_tile_rows.ensures)
