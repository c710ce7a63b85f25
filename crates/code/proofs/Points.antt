-- The points of a set's nodes tell a polynomial: they are the points of the nodes that pass the set's test. Assumes nothing.
use mathlib.Core.Path.{◌≡◌, refl, sym, ap, ◌∙◌, subst⁻¹}
use mathlib.Core.List.{List, ◌++◌}
use Prim.Native.Nat.{ℕ, ◌^◌, ◌≤◌, ◌<◌}
use native.Mathlib.Omega.{arith}
use lib.ListN.{length, get_or, take, drop, replicate}
use Rattle.base.specs.Seq.{tabulate}
use Rattle.base.specs.Parts.{Filled}
use Rattle.base.proofs.Seq.{length-tabulate, get_d_tabulate}
use Rattle.base.proofs.Buffers.{buffer-front, buffer-fits, buffer-count}
use Rattle.interpolation.specs.Polynomial.{Points}
use Rattle.params.specs.Nodes.{has, size, Listing}
use Rattle.params.proofs.Sets.{size-count, size-most}
use Rattle.params.proofs.Placing.{entries_told, entries-kept}
use Rattle.code.specs.Code.{point}
use Rattle.code.specs.Points.{point_at, points_of, Pointing}
use Rattle.code.proofs.PointRule.{points_at-points}

-- ---- a set's points, by their number and their entries

pub length-points_of : (s : ℕ) → length (points_of s) ≡ size s
unfolding points_of
length-points_of s = length-tabulate (size s) (point_at s)

pub points_of-most : (s : ℕ) → s < 2 ^ 32 → length (points_of s) ≤ 32
points_of-most s h = omega (arith, length-points_of s, size-most s h)

pub points_of-at : (s i : ℕ) → i < size s → get_or (points_of s) i 0 ≡ point_at s i
unfolding points_of
points_of-at s i hi = get_d_tabulate (size s) (point_at s) i hi

pub points_of-points : (s : ℕ) → s < 2 ^ 32 → Points (points_of s)
unfolding points_of
points_of-points s h = subst⁻¹ (λ (m : ℕ). Points (tabulate m (point_at s))) (size-count 32 s h) (points_at-points (has s) 32 (omega arith))

-- ---- what points_of leaves

pub points-told : (s : ℕ) → s < 2 ^ 32 → (old : List ℕ) (count : ℕ) (l : List ℕ) → Listing s old count l → (t : ℕ) (front : List ℕ) → length l ≡ length old
    → length (take count l) ≤ t → Filled (λ i. point (get_or (take count l) i 0)) t (take count l) front → Pointing s old count (front ++ drop count l)
unfolding points_of
points-told s h old count l lists t front same all filled =
    record {
      written = entries_told s h old count l lists point t front same all filled;
      counted = lists.counted;
      kept = λ none. (entries-kept s h old count l lists point t front same all filled none, (lists.kept none).1);
    }

-- .. of 32 zeros: the points are lent from its front
module _ (s q : ℕ) (l : List ℕ) (made : Pointing s (replicate 32 0) q l) where
  full : length (points_of s) ≡ q
  full = length-points_of s ∙ sym (made.counted refl)

  pub points-fit : q ≤ length l
  points-fit = subst⁻¹ (λ (k : List ℕ). q ≤ length k) (made.written refl) (buffer-fits q (points_of s) _ full)

  pub points-count : q ≡ length (take q l)
  points-count = buffer-count q (points_of s) (drop (size s) (replicate 32 0)) full ∙ ap (λ (k : List ℕ). length (take q k)) (sym (made.written refl))

  pub points-front : take q l ≡ points_of s
  points-front = ap (take q) (made.written refl) ∙ buffer-front q (points_of s) _ full
