-- The rows of powers take message and slack, side by side, to the blocks. Assumes nothing.
use mathlib.Core.Path.{◌≡◌, ap, ◌∙◌}
use Prim.Native.Nat.{ℕ, ◌*◌, ◌≤◌}
use native.Mathlib.Omega.{arith}
use lib.ListN.{length, drop, replicate}
use lib.Seq.{length-take-le}
use Rattle.base.proofs.Buffers.{buffer-fits, buffer-count}
use Rattle.coefficients.proofs.Laws.{lent-anew}
use Rattle.encoding.proofs.PowerBlocks.{powers-most, most, area-is, encoded}
use Rattle.encoding.proofs.encode_within.Goals as goal
use Rattle.encoding.proofs.encode_within.Goals.{After-working-q, After-encoding_rows}

-- there is room for the powers
area : (c : After-working-q) → c.args.a.n * c.working-q.result ≤ length c.args.rows.now
area c = omega (arith, area-is c.args.a _ _ c.requires.raisable c.working-q.result c.working-q.ensures, c.requires.a_in_bounds)

-- which they fill
module _ (c : After-encoding_rows) (fits : c.args.a.n * c.working-q.result ≤ length c.args.rows.now) where
  filled : length c.encoding_rows.new.rows ≡ c.args.a.n * c.working-q.result
  filled = c.encoding_rows.auto.rows ∙ length-take-le _ c.args.rows.now fits

pub overflow_mul-area : goal.overflow_mul-area
overflow_mul-area c =
    omega (arith, area-is c.args.a _ _ c.requires.raisable c.working-q.result c.working-q.ensures, powers-most c.args.a _ _ c.requires.raisable)

pub slice_bounds-encoding_rows-end : goal.slice_bounds-encoding_rows-end
slice_bounds-encoding_rows-end c = area c

pub slice_bounds-columns-end : goal.slice_bounds-columns-end
slice_bounds-columns-end c = omega (arith, most c.args.a _ _ c.requires.raisable c.working-q.result c.working-q.ensures)

pub slice_bounds-add_product-end-4 : goal.slice_bounds-add_product-end-4
slice_bounds-add_product-end-4 c =
    let l = goal.at.slice_bounds-add_product-end-4 c in
    buffer-fits _ c.encoding_rows.new.rows (drop (c.args.a.n * c.working-q.result) c.args.rows.now) (filled l.After-encoding_rows (area l.After-working-q))

pub slice_bounds-add_product-end-5 : goal.slice_bounds-add_product-end-5
slice_bounds-add_product-end-5 c =
    let l = goal.at.slice_bounds-add_product-end-5 c in
    buffer-count _ c.encoding_rows.new.rows (drop (c.args.a.n * c.working-q.result) c.args.rows.now) (filled l.After-encoding_rows (area l.After-working-q))

pub returns : goal.returns
returns c =
    let s = c.args in
    let ok = c.requires.raisable in
    let q = c.working-q.result in
    let l = goal.at.returns c in
    let fits = area l.After-working-q in
    encoded s.a _ _ ok q c.working-q.ensures c.encoding_rows.new.rows (c.encoding_rows.ensures.written ok.n_high (length-take-le _ s.rows.now fits))
    s.parts.now c.in_order-order.result c.in_order-columns.result _ _ ok.parts_length
    (c.clear.ensures ∙ ap (λ (n : ℕ). replicate n 0) ok.codeword_length)
    c.in_order-order.ensures c.in_order-columns.ensures
    (lent-anew s.a.b q _ s.parts.now c.encoding_rows.new.rows (drop (s.a.n * q) s.rows.now) _ _ _ _ (filled l.After-encoding_rows fits) c.add_product.ensures)
