-- The picks of a row, group by group, and of all rows. Assumes nothing.
use mathlib.Core.Path.{◌≡◌, refl, sym, ap, ◌∙◌}
use mathlib.Core.List.{List}
use mathlib.Core.Logic.{⊎_elim}
use Prim.Native.Nat.{ℕ, ◌+◌, ◌-◌, ◌*◌, ◌≤◌, ◌<◌, min}
use borrow.Rule.Slice.PartMut.{put_mid, same_len_mid}
use native.Mathlib.Nat.{zero-mul}
use native.Mathlib.Omega.{arith}
use lib.ListN.{length, get_or}
use Rattle.base.specs.Seq.{tabulate, cell}
use Rattle.base.proofs.Cases.{lt-or, eq-or}
use Rattle.base.proofs.Parts.{put-before, put_in, put-after}
use Rattle.base.proofs.Seq.{length-tabulate, get_d_tabulate}
use Rattle.picks.specs.Picks.{bit, number, pick_of, Picks}
use Rattle.picks.proofs.Digits.{number-ext}
use Rattle.products.proofs.Stretches.{stretch, row_of, length-stretch, stretch-at}
use Rattle.tiles.specs.Tiling.{columns, RowPicked, Picked}

-- the picks of a part
part-picks : (a n : ℕ) (coeffs : List ℕ) (s : ℕ) → a + n ≤ length coeffs → pick_of (stretch a n coeffs) s ≡ number n (λ k. bit s (get_or coeffs (a + k) 0))
unfolding pick_of
part-picks a n coeffs s h =
    ap (λ (m : ℕ). number m (λ k. bit s (get_or (stretch a n coeffs) k 0))) (length-stretch a n coeffs h)
    ∙ number-ext n _ _ (λ k hk. ap (bit s) (stretch-at a n coeffs k hk))

-- of group g, and of a whole row as one group
module _ (size : ℕ) (coeffs : List ℕ) (g n : ℕ) (old bytes : List ℕ) (size8 : length old ≡ 8) (few : n ≤ 5) (ends : g * size + n ≤ length coeffs)
    (count : n ≡ columns size (length coeffs) g) (p : Picks (stretch (g * size) n coeffs) old bytes) where
  group-bytes : bytes ≡ tabulate 8 (pick_of (stretch (g * size) n coeffs))
  group-bytes = p.written size8 (omega (arith, length-stretch (g * size) n coeffs ends))

  pub group-eight : length bytes ≡ 8
  group-eight = ap length group-bytes ∙ length-tabulate 8 _

  pub group-picks : (s : ℕ) → s < 8 → get_or bytes s 0 ≡ number (columns size (length coeffs) g) (λ k. bit s (get_or coeffs (g * size + k) 0))
  group-picks s hs =
      ap (λ (l : List ℕ). get_or l s 0) group-bytes ∙ get_d_tabulate 8 _ s hs ∙ part-picks (g * size) n coeffs s ends
      ∙ ap (λ (m : ℕ). number m (λ k. bit s (get_or coeffs (g * size + k) 0))) count

module _ (size : ℕ) (coeffs old bytes : List ℕ) (size8 : length old ≡ 8) (few : size ≤ 5) (all : length coeffs ≡ size) (p : Picks coeffs old bytes) where
  whole-bytes : bytes ≡ tabulate 8 (pick_of coeffs)
  whole-bytes = p.written size8 (omega arith)

  pub whole-eight : length bytes ≡ 8
  whole-eight = ap length whole-bytes ∙ length-tabulate 8 _

  pub whole-picks : (s : ℕ) → s < 8 → get_or bytes s 0 ≡ number (columns size (length coeffs) 0) (λ k. bit s (get_or coeffs (0 * size + k) 0))
  unfolding pick_of columns
  whole-picks s hs =
      let count : length coeffs ≡ min size (length coeffs - 0 * size) = omega (arith, zero-mul size) in
      ap (λ (l : List ℕ). get_or l s 0) whole-bytes ∙ get_d_tabulate 8 _ s hs
      ∙ number-ext (length coeffs) _ _ (λ k hk. let e : k ≡ 0 * size + k = omega (arith, zero-mul size) in ap (λ (q : ℕ). bit s (get_or coeffs q 0)) e)
      ∙ ap (λ (m : ℕ). number m (λ k. bit s (get_or coeffs (0 * size + k) 0))) count

-- ---- a row of picks

pub row-none : (i size : ℕ) (coeffs l : List ℕ) → RowPicked i size coeffs 0 l l
row-none i size coeffs l = record { same = refl; done = λ g s hg hs. absurd (omega arith); rest = λ g j s ne hs hj. refl }

-- the picks of group g, written at their place
module _ (i size : ℕ) (coeffs : List ℕ) (g at : ℕ) (old new bytes : List ℕ) (hi : i < 32) (ea : at ≡ g * 256 + i * 8) (room : at + 8 ≤ length new) (eight : length bytes ≡ 8)
    (is : (s : ℕ) → s < 8 → get_or bytes s 0 ≡ number (columns size (length coeffs) g) (λ k. bit s (get_or coeffs (g * size + k) 0))) (r : RowPicked i size coeffs g old new) where
  abbrev put : List ℕ
  put = put_mid at (at + 8 - at) new bytes

  full : length bytes ≡ at + 8 - at
  full = eight ∙ omega arith

  inside : at + (at + 8 - at) ≤ length new
  inside = omega arith

  -- places other than these
  other : (q : ℕ) → (at ≤ q → q < at + 8 → ⊥) → get_or put q 0 ≡ get_or new q 0
  other q ne =
      ⊎_elim (λ (lt : q < at). put-before at (at + 8 - at) new bytes inside full q lt)
      (λ (le : at ≤ q).
      ⊎_elim (λ (lt : q < at + 8). absurd (ne le lt)) (λ (ge : at + 8 ≤ q). put-after at (at + 8 - at) new bytes inside full q (omega arith)) (lt-or q (at + 8)))
      (lt-or q at)

  here : (s : ℕ) → s < 8 → get_or put (at + s) 0 ≡ number (columns size (length coeffs) g) (λ k. bit s (get_or coeffs (g * size + k) 0))
  here s hs = put_in at (at + 8 - at) new bytes inside full s (omega arith) ∙ is s hs

  pub row_more : RowPicked i size coeffs (g + 1) old put
  unfolding cell
  row_more =
      record {
        same = same_len_mid at (at + 8 - at) new bytes (eight ∙ sym (length-stretch at 8 new room)) ∙ r.same;
        done = λ h s hh hs.
            ⊎_elim
            (λ (e : h ≡ g).
            let place : h * 256 + (i * 8 + s) ≡ at + s = omega arith in
            ap (λ (q : ℕ). get_or put q 0) place ∙ here s hs
            ∙ ap (λ (k : ℕ). number (columns size (length coeffs) k) (λ j. bit s (get_or coeffs (k * size + j) 0))) (sym e))
            (λ ne. other (h * 256 + (i * 8 + s)) (λ le lt. omega (arith, ne)) ∙ r.done h s (omega (arith, ne)) hs) (eq-or h g);
        rest = λ h j s ne hs hj. other (h * 256 + (j * 8 + s)) (λ le lt. omega (arith, ne)) ∙ r.rest h j s ne hs hj;
      }

-- ---- the picks of all rows

pub picked_none : (stride : ℕ) (coeffs : List ℕ) (n groups size : ℕ) (l : List ℕ) → Picked 0 stride coeffs n groups size l l
picked_none stride coeffs n groups size l = record { same = refl; pick = λ g s i hg hs hi. absurd (omega arith) }

pub picked_more : (i stride : ℕ) (coeffs : List ℕ) (n groups size : ℕ) (old new last : List ℕ) → i < 32 → i * stride + n ≤ length coeffs
    → RowPicked i size (row_of stride n i coeffs) groups new last → Picked i stride coeffs n groups size old new
    → Picked (i + 1) stride coeffs n groups size old last
unfolding cell columns
picked_more i stride coeffs n groups size old new last hi ends r p =
    record {
      same = r.same ∙ p.same;
      pick = λ g s k hg hs hk.
          ⊎_elim
          (λ (e : k ≡ i).
          ap (λ (k : ℕ). get_or last (g * 256 + (k * 8 + s)) 0) e ∙ r.done g s hg hs
          ∙ ap (λ (m : ℕ). number (columns size m g) (λ j. bit s (get_or (row_of stride n i coeffs) (g * size + j) 0))) (length-stretch (i * stride) n coeffs ends)
          ∙ number-ext (columns size n g) _ _ (λ j hj. ap (bit s) (stretch-at (i * stride) n coeffs (g * size + j) (omega arith)))
          ∙ ap (λ (k : ℕ). number (columns size n g) (λ j. bit s (get_or coeffs (k * stride + (g * size + j)) 0))) (sym e))
          (λ ne. r.rest g k s ne hs (omega arith) ∙ p.pick g s k hg hs (omega (arith, ne))) (eq-or k i);
    }
