-- The law of the point rule, and the points of the nodes that pass a test: they are among those of the nodes 1..32. Assumes nothing.
use mathlib.Core.Path.{◌≡◌, refl, sym, ap, ◌∙◌, subst₂, subst⁻¹}
use mathlib.Core.Bool.{Bool, true}
use mathlib.Core.List.{List}
use Prim.Native.Nat.{ℕ, suc, ◌≤◌, ◌<◌}
use native.Mathlib.Omega.{arith}
use lib.ListN.{length, get_or}
use Rattle.base.specs.Seq.{tabulate}
use Rattle.base.proofs.Seq.{length-tabulate, get_d_tabulate}
use Rattle.field.specs.Field.{IsByte}
use Rattle.interpolation.specs.Polynomial.{Points}
use Rattle.interpolation.proofs.PointLists.{points-of, points-upto}
use Rattle.params.specs.Nodes.{count, nodes}
use Rattle.params.proofs.Sets.{rank_lt, node-at-rank, entry, distinct}
use Rattle.code.specs.Code.{point}

-- The points of the nodes 1..32 ..
abbrev pub all_points : List ℕ
all_points = tabulate 32 (λ j. point (suc j))

-- .. are different bytes other than 00: all that is known of the rule, but for the proof of the function itself and for computed examples.
pub point-rule : Points all_points
unfolding point
point-rule = points-upto 32 (omega arith)

module _ (S : ℕ → Bool) (n : ℕ) where
  -- the points of the nodes of 1..n that pass the test, in rising order of the nodes
  abbrev pub points_at : List ℕ
  points_at = tabulate (count S n) (λ i. point (get_or (nodes S n) i 0))

  pub length-points_at : length points_at ≡ count S n
  length-points_at = length-tabulate (count S n) _

  -- what holds of each entry and its node holds of each of these nodes and its point, ..
  pub at-nodes : (P : ℕ → ℕ → Type 0) → ((i : ℕ) → i < length points_at → P (get_or (nodes S n) i 0) (get_or points_at i 0)) → (j : ℕ) → j < n
      → S (suc j) ≡ true → P (suc j) (point (suc j))
  at-nodes P h j hj e =
      let lt = rank_lt S n j hj e in
      let node = node-at-rank S n j hj e in
      subst₂ P node (get_d_tabulate (count S n) _ (count S j) lt ∙ ap point node) (h (count S j) (omega (arith, length-points_at, lt)))

  -- .. and the other way round
  pub at-entries : (P : ℕ → ℕ → Type 0) → ((j : ℕ) → j < n → S (suc j) ≡ true → P (suc j) (point (suc j))) → (i : ℕ) → i < length points_at
      → P (get_or (nodes S n) i 0) (get_or points_at i 0)
  at-entries P h i hi =
      let lt : i < count S n = omega (arith, length-points_at) in
      let g = entry S n i lt in
      subst₂ P (sym g.3) (sym (get_d_tabulate (count S n) _ i lt ∙ ap point g.3)) (h g.0 g.1 g.2)

  pub points_at-points : n ≤ 32 → Points points_at
  points_at-points h =
      points-of points_at
      (λ i hi.
      let g = node i hi in
      let some : get_or points_at i 0 ≡ 0 → ⊥ = λ z. point-rule.nonzero g.0 g.1 (sym g.3 ∙ z) in
      (omega (arith, some), subst⁻¹ IsByte g.3 (point-rule.bytes g.0)))
      (λ i j hi hj e.
      let g = node i hi in
      let k = node j hj in
      distinct S n i j (omega (arith, length-points_at)) (omega (arith, length-points_at))
      (g.2 ∙ ap suc (point-rule.distinct g.0 k.0 g.1 k.1 (sym g.3 ∙ e ∙ k.3)) ∙ sym k.2))
    where
      -- entry i is the point of one of the nodes 1..32
      node : (i : ℕ) → i < length points_at
          → (j : ℕ) × (j < length all_points) × (get_or (nodes S n) i 0 ≡ suc j) × (get_or points_at i 0 ≡ get_or all_points j 0)
      node =
          at-entries (λ i c. (j : ℕ) × (j < length all_points) × (i ≡ suc j) × (c ≡ get_or all_points j 0))
          (λ j hj e.
          (j, omega (arith, length-tabulate 32 (λ j. point (suc j))), refl, sym (get_d_tabulate 32 (λ j. point (suc j)) j (omega arith))))
