-- The rows take the blocks read to the message. Assumes nothing.
use mathlib.Core.Path.{◌≡◌, sym, ap, ◌∙◌, subst⁻¹}
use Prim.Native.Nat.{ℕ, ◌*◌, ◌^◌, ◌≤◌, ◌<◌}
use native.Mathlib.Omega.{arith}
use mathlib.Core.List.{List}
use lib.ListN.{length, take, drop}
use lib.Seq.{length-take-le}
use Rattle.base.proofs.Buffers.{areas-fit, buffer-fits, buffer-count}
use Rattle.params.specs.Nodes.{size}
use Rattle.params.proofs.Sets.{size-most}
use Rattle.params.proofs.Placing.{placing-zeros}
use Rattle.coefficients.proofs.Laws.{lent-anew}
use Rattle.node_rows.proofs.Laws.{readable}
use Rattle.decoding.proofs.ReadBack.{part-each, parts-few, recovered}
use Rattle.decoding.proofs.decode_within.Goals as goal
use Rattle.decoding.proofs.decode_within.Goals.{After-size-q}

-- the sides of the rows, and room for them
module _ (c : After-size-q) where
  word : c.args.from.0 < 2 ^ 32
  word = omega arith

  parts-most : c.args.a.k ≤ 32
  parts-most = parts-few _ _ _ word c.args.codeword.now c.requires.decodable

  nodes-most : c.size-q.result ≤ 32
  nodes-most = omega (arith, c.size-q.ensures, size-most c.args.from.0 word)

  area : c.args.a.k * c.size-q.result ≤ length c.args.rows.now
  area = subst⁻¹ (λ (m : ℕ). c.args.a.k * m ≤ length c.args.rows.now) c.size-q.ensures c.requires.from_in_bounds

  -- which they fill
  filled : (new : List ℕ) → length new ≡ length (take (c.args.a.k * c.size-q.result) c.args.rows.now) → length new ≡ c.args.a.k * c.size-q.result
  filled new same = same ∙ length-take-le _ c.args.rows.now area

pub overflow_mul-area : goal.overflow_mul-area
overflow_mul-area c =
    let l = (goal.at.overflow_mul-area c).After-size-q in
    omega (arith, areas-fit c.args.a.k c.size-q.result (parts-most l) (nodes-most l))

pub slice_bounds-decoding_rows-end : goal.slice_bounds-decoding_rows-end
slice_bounds-decoding_rows-end c = area (goal.at.slice_bounds-decoding_rows-end c).After-size-q

pub slice_bounds-order-end : goal.slice_bounds-order-end
slice_bounds-order-end c = omega (arith, parts-most (goal.at.slice_bounds-order-end c).After-size-q)

pub slice_bounds-places-end : goal.slice_bounds-places-end
slice_bounds-places-end c = omega (arith, nodes-most (goal.at.slice_bounds-places-end c).After-size-q)

pub slice_bounds-add_product-end : goal.slice_bounds-add_product-end
slice_bounds-add_product-end c =
    let l = (goal.at.slice_bounds-add_product-end c).After-size-q in
    sym (length-take-le _ c.in_order-order.result (omega (arith, ap length c.in_order-order.ensures, parts-most l)))

pub slice_bounds-add_product-end-3 : goal.slice_bounds-add_product-end-3
slice_bounds-add_product-end-3 c =
    let l = (goal.at.slice_bounds-add_product-end-3 c).After-size-q in
    sym (length-take-le _ c.places_of.new.out (omega (arith, c.places_of.auto.out, nodes-most l)))

pub slice_bounds-add_product-end-4 : goal.slice_bounds-add_product-end-4
slice_bounds-add_product-end-4 c =
    let l = (goal.at.slice_bounds-add_product-end-4 c).After-size-q in
    buffer-fits _ c.decoding_rows.new.rows (drop (c.args.a.k * c.size-q.result) c.args.rows.now) (filled l _ c.decoding_rows.ensures.same)

pub slice_bounds-add_product-end-5 : goal.slice_bounds-add_product-end-5
slice_bounds-add_product-end-5 c =
    let l = (goal.at.slice_bounds-add_product-end-5 c).After-size-q in
    buffer-count _ c.decoding_rows.new.rows (drop (c.args.a.k * c.size-q.result) c.args.rows.now) (filled l _ c.decoding_rows.ensures.same)

pub returns : goal.returns
returns c =
    let s = c.args in
    let q = c.size-q.result in
    let ok = c.requires.decodable in
    let l = (goal.at.returns c).After-size-q in
    let rows = c.decoding_rows.new.rows in
    let few : s.a.k ≤ size s.from.0 = part-each _ _ _ (word l) s.codeword.now ok in
    let room = length-take-le _ s.rows.now (area l) ∙ ap (λ (n : ℕ). s.a.k * n) c.size-q.ensures in
    let full = filled l rows c.decoding_rows.ensures.same in
    recovered s.a s.from.0 _ (word l) s.codeword.now ok q c.places_of.new.out
    c.in_order-order.result rows _ _ c.clear.ensures
    c.size-q.ensures (placing-zeros _ _ (word l) c.places_of.ensures) c.in_order-order.ensures full
    (c.decoding_rows.ensures.written (readable _ _ _ (word l) few room))
    (lent-anew s.a.b q _ s.codeword.now rows (drop (s.a.k * q) s.rows.now) _ _ _ _ full c.add_product.ensures)
