-- The rows that take values to leading coefficients, applied to the blocks read, give the message of the pair that gives these blocks: at each byte place the
-- blocks are the values of the pair's polynomial. Assumes nothing.
use mathlib.Core.Path.{◌≡◌, sym, ap, ◌∙◌}
use mathlib.Core.List.{List}
use Prim.Native.Nat.{ℕ, suc, ◌*◌, ◌^◌, ◌≤◌, ◌<◌}
use native.Mathlib.Nat.{le_refl}
use native.Mathlib.Omega.{arith}
use lib.ListN.{length, get_or, take, replicate, length-replicate}
use Rattle.base.specs.Seq.{cell}
use Rattle.base.proofs.Seq.{cells_ext}
use Rattle.field.specs.Field.{mul}
use Rattle.field.specs.FiniteSum.{sum}
use Rattle.field.proofs.FiniteSum.{sum-ext}
use Rattle.field.proofs.Bytes.{cell-byte}
use Rattle.interpolation.specs.Polynomial.{evaluate}
use Rattle.params.specs.Nodes.{has, size, in_order, places_of}
use Rattle.params.specs.Params.{slack_parts, working}
use Rattle.params.proofs.Placing.{place_of, placed-length, placed-inside}
use Rattle.params.specs.declared.Params.{Params}
use Rattle.params.proofs.Sets.{within_has, size-most}
use Rattle.code.specs.Code.{point, block, Gives}
use Rattle.code.specs.Points.{point_at, points_of}
use Rattle.products.specs.Blocks.{Fits, Added}
use Rattle.products.proofs.Arriving.{ordered-product}
use Rattle.coefficients.specs.Coefficients.{Reads}
use Rattle.coefficients.proofs.Laws.{product-fits, product-places, first-length, first-at, first-inside}
use Rattle.node_rows.proofs.Laws.{reads-nodes}
use Rattle.decoding.specs.Cores.{Decodable, Recovered}

module _ (a : Params) (from out : ℕ) (word : from < 2 ^ 32) (codeword : List ℕ) (ok : Decodable a (length codeword) out from) where
  module _ (x v : List ℕ) (gives : Gives a x v (has from) codeword) where
    -- the block read for the set's node o is the value at its point
    value : (p o : ℕ) → p < a.b → o < size from
        → cell a.b codeword (get_or (places_of from) o 0) p
        ≡ evaluate a.k (slack_parts a) (λ j. cell a.b x j p) (λ j. cell a.b v j p) (point_at from o)
    unfolding block
    value p o hp ho =
        let g = place_of from o word ho in
        ap (λ (j : ℕ). cell a.b codeword j p) g.3
        ∙ sym (gives.equal g.0 p ((within_has a.n from word).0 ok.from_within (suc g.0) g.1) g.1 hp)
        ∙ ap (λ (c : ℕ). evaluate a.k (slack_parts a) (λ j. cell a.b x j p) (λ j. cell a.b v j p) (point c)) (sym g.2)

    -- so a row takes the blocks read to a part of the message
    part-read : (rows : List ℕ) → Reads a.k (points_of from) rows → (j p : ℕ) → j < a.k → p < a.b
        → sum (size from) (λ o. mul (cell (size from) rows j o) (cell a.b codeword (get_or (places_of from) o 0) p)) ≡ cell a.b x j p
    unfolding working
    part-read rows reads j p hj hp =
        sum-ext (size from) _ _ (λ o ho. ap (mul (cell (size from) rows j o)) (value p o hp ho))
        ∙ reads-nodes a.k from rows reads (slack_parts a) (λ j. cell a.b x j p) (λ j. cell a.b v j p) (sym ok.from_size)
        (λ j. cell-byte a.b x j p gives.pair.message.bytes) (λ j. cell-byte a.b v j p gives.pair.slack.bytes) j hj

  -- no more parts than nodes
  pub part-each : a.k ≤ size from
  unfolding working
  part-each = omega (arith, ok.from_size)

  pub parts-few : a.k ≤ 32
  parts-few = omega (arith, part-each, size-most from word)

  -- q is the set's size as the code counts it
  pub recovered : (q : ℕ) (places order rows old new : List ℕ) → old ≡ replicate out 0 → q ≡ size from → places ≡ places_of from → order ≡ in_order
      → length rows ≡ a.k * q → Reads a.k (points_of from) rows → Added a.b q codeword (take a.k order) (take q places) rows old new → Recovered a codeword from new
  recovered q places order rows old new cleared hq hp ordered full reads made =
      let few : a.k ≤ 32 = parts-few in
      let targets : length (take a.k order) ≡ a.k = first-length order ordered a.k few in
      let room : length old ≡ a.k * a.b = ap length cleared ∙ length-replicate {A = ℕ} out 0 ∙ ok.out_length in
      let fits : Fits a.b q (take a.k order) (take q places) (length codeword) (length rows) (length old) =
      product-fits a.b q (length codeword) (length rows) (length old) (take a.k order) (take q places) ok.b_low
      (first-inside order ordered a.k few a.b a.k (length old) (le_refl a.k) (omega (arith, room))) (omega (arith, placed-length from word places hp q hq))
      (omega (arith, ap (λ (m : ℕ). m * q) targets, full))
      (placed-inside from word places hp q hq a.b a.n (length codeword) ((within_has a.n from word).0 ok.from_within)
      (omega (arith, ok.codeword_length))) in
      record {
        message = λ x v gives.
            cells_ext a.b a.k new x ok.b_low (made.same ∙ room) gives.pair.message.length_is
            (λ j p hj hb.
            ordered-product (take a.k order) (λ i hi. first-at order ordered a.k few i (omega (arith, targets))) a.b q codeword (take q places) rows old new
            fits made out cleared j p (omega (arith, targets)) hb
            ∙ product-places places (places_of from) hp q (placed-length from word places hp q hq) a.b q codeword rows j p
            ∙ ap (λ (m : ℕ). sum m (λ o. mul (cell m rows j o) (cell a.b codeword (get_or (places_of from) o 0) p))) hq
            ∙ part-read x v gives rows reads j p hj hb);
      }
