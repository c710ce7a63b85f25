-- The rows that extend a change, applied to it, give what it makes of the takers' blocks: at each byte place the change's polynomial is 00 at the nodes outside
-- W, so that the leading rows alone take it to its values at the takers. Assumes nothing.
use mathlib.Core.Path.{◌≡◌, sym, ap, ap₂, ◌∙◌, subst}
use mathlib.Core.Bool.{false}
use mathlib.Core.List.{List, ◌++◌}
use Prim.Native.Nat.{ℕ, suc, ◌-◌, ◌*◌, ◌^◌, ◌≤◌, ◌<◌}
use native.Mathlib.Nat.{le_refl}
use native.Mathlib.Omega.{arith}
use lib.ListN.{length, get_or, take}
use lib.Seq.{take-length}
use Rattle.base.specs.Seq.{cell}
use Rattle.field.specs.Field.{Bytes, add, mul}
use Rattle.field.specs.FiniteSum.{sum}
use Rattle.field.proofs.Addition.{add-zero-right}
use Rattle.field.proofs.Multiplication.{mul-zero-right}
use Rattle.field.proofs.FiniteSum.{sum_zeros}
use Rattle.interpolation.specs.Polynomial.{evaluate}
use Rattle.params.specs.Nodes.{has, size, listed, in_order}
use Rattle.params.specs.Params.{slack_parts}
use Rattle.params.specs.declared.Params.{Params}
use Rattle.field.proofs.Bytes.{cell-byte}
use Rattle.params.proofs.Sets.{size-count, entry}
use Rattle.params.proofs.Outside.{Outside, outside-node, outside-size}
use Rattle.code.specs.Code.{point, block}
use Rattle.code.specs.Points.{point_at, points_of}
use Rattle.code.specs.Calls.{Vanishes}
use Rattle.products.specs.Blocks.{Fits, Added}
use Rattle.products.proofs.Arriving.{arriving-ext}
use Rattle.coefficients.specs.Coefficients.{Extends, Roomy}
use Rattle.coefficients.proofs.Laws.{product-fits, lent-anew, first-length, first-inside, product-first}
use Rattle.node_rows.proofs.Laws as rows
use Rattle.updates.specs.Spreading.{Spreadable, Spread}

module _ (a : Params) (d targets old : List ℕ) (to takers other : ℕ) (other_word : other < 2 ^ 32)
    (ok : Spreadable a (length d) to takers targets (length old)) (is : Outside a.n to other) where
  -- as many nodes outside W as the slack has parts
  others : size other ≡ slack_parts a
  unfolding slack_parts
  others = outside-size a.n to other ok.n_high is other_word ok.to_within ∙ ap (λ (m : ℕ). a.n - m) ok.to_size

  -- what the rows ask; l is that number as the code counts it
  pub roomy : takers < 2 ^ 32 → (l leading gains : ℕ) → l ≡ slack_parts a → leading ≡ length targets * a.k → gains ≡ length targets * l
      → Roomy a.k (points_of other) (points_of takers) leading gains
  roomy word l leading gains hl full rest =
      rows.roomy a.k other takers leading gains other_word word (omega (arith, ok.k_le_n, ok.n_high)) (full ∙ ap (λ (m : ℕ). m * a.k) ok.count)
      (rest ∙ ap₂ ◌*◌ ok.count (hl ∙ sym others))

  -- node o of them
  other_at : (o : ℕ) → o < size other → (j : ℕ) × (j < a.n) × (has to (suc j) ≡ false) × (get_or (listed other) o 0 ≡ suc j)
  other_at o h =
      let g = entry (has other) 32 o (omega (arith, size-count 32 other other_word)) in
      let y = outside-node a.n to other ok.n_high is g.0 g.2 in
      (g.0, y.0, y.1, g.3)

  module _ (leading gains : List ℕ) (extends : Extends a.k (points_of other) (points_of takers) leading gains) (bytes : Bytes d) (v : List ℕ) (vanishes : Vanishes a d to v) where
    -- the change's polynomial at byte place p
    at : ℕ → ℕ → ℕ → ℕ
    at p m c = evaluate a.k m (λ j. cell a.b d j p) (λ j. cell a.b v j p) c

    at_block : (p m i : ℕ) → m ≡ slack_parts a → at p m (point i) ≡ block a d v i p
    unfolding at block
    at_block p m i h = ap (λ (s : ℕ). evaluate a.k s (λ j. cell a.b d j p) (λ j. cell a.b v j p) (point i)) h

    -- .. is 00 at the nodes outside
    clears : (p o : ℕ) → p < a.b → o < size other → at p (size other) (point_at other o) ≡ 0
    clears p o hp ho =
        let g = other_at o ho in
        ap (λ (c : ℕ). at p (size other) (point c)) g.3 ∙ at_block p (size other) (suc g.0) others ∙ vanishes.zero g.0 p g.1 g.2 hp

    -- so a leading row gives the block of its node
    at-rank : (t p : ℕ) → t < size takers → p < a.b
        → sum a.k (λ i. mul (cell a.k leading t i) (cell a.b d i p)) ≡ block a d v (get_or (listed takers) t 0) p
    unfolding at
    at-rank t p ht hp =
        sym
        (rows.extends-nodes a.k other takers leading gains extends (λ i. cell a.b d i p) (λ i. cell a.b v i p) (λ i. cell-byte a.b d i p bytes)
        (λ i. cell-byte a.b v i p vanishes.slack.bytes) t ht
        ∙ ap (add (sum a.k (λ i. mul (cell a.k leading t i) (cell a.b d i p))))
        (sum_zeros (size other) _ (λ o ho. ap (mul (cell (size other) gains t o)) (clears p o hp ho) ∙ mul-zero-right _))
        ∙ add-zero-right _)
        ∙ at_block p (size other) (get_or (listed takers) t 0) others

  pub spread : (leading gains rest order new : List ℕ) → length leading ≡ length targets * a.k → Extends a.k (points_of other) (points_of takers) leading gains → Bytes d → order ≡ in_order
      → Added a.b a.k (take (length d) d) (take (length targets) targets) (take a.k order) (take (length targets * a.k) (leading ++ rest)) old new
      → Spread a d to takers targets old new
  spread leading gains rest order new full extends bytes o lent =
      let k : a.k ≤ 32 = omega (arith, ok.k_le_n, ok.n_high) in
      let made : Added a.b a.k d targets (take a.k order) leading old new =
      lent-anew a.b a.k (length targets * a.k) d leading rest targets (take a.k order) old new full
      (subst (λ (l : List ℕ). Added a.b a.k (take (length d) d) l (take a.k order) (take (length targets * a.k) (leading ++ rest)) old new)
      (take-length targets) lent) in
      let fits : Fits a.b a.k targets (take a.k order) (length d) (length leading) (length old) =
      product-fits a.b a.k (length d) (length leading) (length old) targets (take a.k order) ok.b_low ok.target
      (omega (arith, first-length order o a.k k)) (omega (arith, full))
      (first-inside order o a.k k a.b a.k (length d) (le_refl a.k) (omega (arith, ok.change_length))) in
      record {
        same = made.same;
        added = λ v vanishes j p hp.
            made.written fits j p hp
            ∙ ap (add (cell a.b old j p))
            (arriving-ext (length targets) targets _ _ j
            (λ t ht.
            product-first order o a.k k a.b a.k d leading t p
            ∙ at-rank leading gains extends bytes v vanishes t p (omega (arith, ok.count)) hp));
      }
