-- The list that is lent is that of the set's points. Assumes nothing.
use mathlib.Core.Path.{subst}
use mathlib.Core.List.{List}
use Prim.Native.Nat.{ℕ}
use Rattle.code.proofs.Points.{points-fit, points-count, points-front}
use Rattle.coefficients.specs.Coefficients.{ReadsPost}
use Rattle.node_rows.proofs.decoding_rows.Goals as goal

pub slice_bounds-points-end : goal.slice_bounds-points-end
slice_bounds-points-end c = points-fit _ _ _ c.points_of-count.ensures

pub slice_bounds-reading_rows-end : goal.slice_bounds-reading_rows-end
slice_bounds-reading_rows-end c = points-count _ _ _ c.points_of-count.ensures

pub returns : goal.returns
returns c =
    let r = c in
    let p = r.before.before.before.before in
    let s = p.before.before.before in
    subst (λ (l : List ℕ). ReadsPost s.args.k l s.args.rows.now r.reading_rows.new.rows) (points-front _ _ _ p.points_of-count.ensures) r.reading_rows.ensures
