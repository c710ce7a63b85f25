-- The lists that are lent are those of the sets' points. Assumes nothing.
use mathlib.Core.Path.{subst₂}
use mathlib.Core.List.{List}
use Prim.Native.Nat.{ℕ}
use Rattle.code.proofs.Points.{points-fit, points-count, points-front}
use Rattle.coefficients.specs.Coefficients.{ExtendsPost}
use Rattle.node_rows.proofs.extending_rows.Goals as goal

pub slice_bounds-known-end : goal.slice_bounds-known-end
slice_bounds-known-end c = points-fit _ _ _ c.points_of-m.ensures

pub slice_bounds-completion_rows-end : goal.slice_bounds-completion_rows-end
slice_bounds-completion_rows-end c = points-count _ _ _ c.points_of-m.ensures

pub slice_bounds-wanted-end : goal.slice_bounds-wanted-end
slice_bounds-wanted-end c = points-fit _ _ _ c.points_of-count.ensures

pub slice_bounds-completion_rows-end-2 : goal.slice_bounds-completion_rows-end-2
slice_bounds-completion_rows-end-2 c = points-count _ _ _ c.points_of-count.ensures

pub returns : goal.returns
returns c =
    let r = c in
    let s = r in
    let new = r.completion_rows.new in
    subst₂ (λ (at targets : List ℕ). ExtendsPost s.args.e at targets s.args.leading.now s.args.gains.now new.leading new.gains)
    (points-front _ _ _ r.points_of-m.ensures) (points-front _ _ _ r.points_of-count.ensures) r.completion_rows.ensures
