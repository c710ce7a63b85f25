-- Rows of coefficients applied to blocks, as the code does it: two products that fit, added one after the other, add the targets' values, by what the rows take
-- to what. Assumes nothing.
use mathlib.Core.Path.{◌≡◌, sym, ap, ap₂, ◌∙◌, subst, subst₂}
use mathlib.Core.List.{List, ◌++◌}
use Prim.Native.Nat.{ℕ, ◌*◌, ◌^◌, ◌≤◌, ◌<◌}
use native.Mathlib.Nat.{le_refl}
use native.Mathlib.Omega.{arith}
use lib.ListN.{length, get_or, take, drop}
use lib.Seq.{length-take-le}
use Rattle.base.specs.Seq.{cell}
use Rattle.base.proofs.Buffers.{buffer-front}
use Rattle.field.specs.Field.{Bytes, add, mul}
use Rattle.field.specs.FiniteSum.{sum}
use Rattle.field.proofs.Addition.{add-zero-right, add_assoc}
use Rattle.field.proofs.FiniteSum.{sum-ext}
use Rattle.field.proofs.Bytes.{cell-byte}
use Rattle.interpolation.specs.Polynomial.{evaluate}
use Rattle.params.specs.Nodes.{size, in_order}
use Rattle.code.specs.Points.{point_at, points_of}
use Rattle.products.specs.Blocks.{product, arriving, Fits, Added}
use Rattle.products.proofs.Arriving.{arriving-ext, arriving-none, arriving-add}
use Rattle.coefficients.specs.Coefficients.{Extends, ExtendsPost}
use Rattle.coefficients.proofs.Laws.{product-fits, first-length, first-inside, product-first}
use Rattle.node_rows.proofs.Laws.{roomy, extends-nodes}
use Rattle.extension.specs.Extending.{Extendable, Extended}

module _ (b e at targets rows : ℕ) (message z places to columns leading gains : List ℕ) (out : ℕ)
    (ok : Extendable b e at targets places to (length message) (length z) out) (hr : rows ≡ size targets) (told : columns ≡ in_order)
    (hl : length leading ≡ rows * e) (hg : length gains ≡ rows * size at) where
  row_count : length to ≡ rows
  row_count = ok.to_count ∙ sym hr

  -- the product by the leading coefficients fits, ..
  leading-fits : 0 < b → Fits b e to (take e columns) (length message) (length leading) out
  leading-fits some =
      product-fits b e (length message) (length leading) out to (take e columns) some ok.target (omega (arith, first-length columns told e ok.most))
      (omega (arith, ap (λ (m : ℕ). m * e) row_count)) (first-inside columns told e ok.most b e (length message) (le_refl e) ok.parts)

  -- .. and so does the product by the gains
  gains-fit : 0 < b → Fits b (size at) to places (length z) (length gains) out
  gains-fit some =
      product-fits b (size at) (length z) (length gains) out to places some ok.target (omega (arith, ok.count_is))
      (omega (arith, ap (λ (m : ℕ). m * size at) row_count)) (λ j hj. ok.block j (omega (arith, ok.count_is)))

  -- the two terms of row t
  module _ (bytes : Bytes message) (rows_take : Extends e (points_of at) (points_of targets) leading gains) (p : ℕ) (v : ℕ → ℕ) (hv : (j : ℕ) → v j < 256)
      (values : (o : ℕ) → o < size at → evaluate e (size at) (λ j. cell b message j p) v (point_at at o) ≡ cell b z (get_or places o 0) p) where
    row-value : (t : ℕ) → t < length to
        → add (product b message (take e columns) leading e t p) (product b z places gains (size at) t p)
        ≡ evaluate e (size at) (λ j. cell b message j p) v (point_at targets t)
    unfolding product
    row-value t ht =
        ap₂ add (product-first columns told e ok.most b e message leading t p)
        (ap (λ (m : ℕ). sum m (λ o. mul (cell (size at) gains t o) (cell b z (get_or places o 0) p))) ok.count_is
        ∙ sum-ext (size at) _ _ (λ o ho. ap (mul (cell (size at) gains t o)) (sym (values o ho))))
        ∙ sym (extends-nodes e at targets leading gains rows_take (λ j. cell b message j p) v (λ j. cell-byte b message j p bytes) hv t (omega (arith, ok.to_count)))

  extended : (old mid new : List ℕ) → length old ≡ out → Bytes message → Extends e (points_of at) (points_of targets) leading gains
      → Added b e message to (take e columns) leading old mid → Added b (size at) z to places gains mid new
      → Extended b e at targets message z places to old new
  extended old mid new room bytes rows_take first second =
      record {
        same = second.same ∙ first.same;
        added = λ p v hp hv values j.
            both j p hp ∙ ap (add (cell b old j p)) (arriving-ext (length to) to _ _ j (row-value bytes rows_take p v hv values));
        others = λ j p hp other. both j p hp ∙ ap (add (cell b old j p)) (arriving-none to _ j (length to) other) ∙ add-zero-right _;
      }
    where
      both : (j p : ℕ) → p < b → cell b new j p
          ≡ add (cell b old j p)
          (arriving (length to) to (λ t. add (product b message (take e columns) leading e t p) (product b z places gains (size at) t p)) j)
      both j p hp =
          let some : 0 < b = omega arith in
          second.written (subst (Fits b (size at) to places (length z) (length gains)) (sym (first.same ∙ room)) (gains-fit some)) j p hp
          ∙ ap (λ (x : ℕ). add x (arriving (length to) to (λ t. product b z places gains (size at) t p) j))
          (first.written (subst (Fits b e to (take e columns) (length message) (length leading)) (sym room) (leading-fits some)) j p hp)
          ∙ add_assoc _ _ _ ∙ ap (add (cell b old j p)) (arriving-add (length to) to _ _ j)

-- the same, with q for the number of the nodes of `at`, and the coefficients lent from buffers
module _ (b e at targets rows q : ℕ) (ha : at < 2 ^ 32) (ht : targets < 2 ^ 32) (message z places to columns leading₀ gains₀ leading gains : List ℕ) (out : ℕ)
    (ok : Extendable b e at targets places to (length message) (length z) out) (hr : rows ≡ size targets) (hq : q ≡ size at) (told : columns ≡ in_order)
    (hl : rows * e ≤ length leading₀) (hg : rows * q ≤ length gains₀) (bytes : Bytes message)
    (post : ExtendsPost e (points_of at) (points_of targets) (take (rows * e) leading₀) (take (rows * q) gains₀) leading gains) where
  pub extended-lent : (old mid new : List ℕ) → length old ≡ out
      → Added b e message to (take e columns) (take (rows * e) (leading ++ drop (rows * e) leading₀)) old mid
      → Added b q z to places (take (rows * q) (gains ++ drop (rows * q) gains₀)) mid new → Extended b e at targets message z places to old new
  extended-lent old mid new room first second =
      let l = length-take-le (rows * e) leading₀ hl in
      let g = length-take-le (rows * q) gains₀ hg in
      extended b e at targets rows message z places to columns leading gains out ok hr told (post.same_leading ∙ l)
      (post.same_gains ∙ g ∙ ap (◌*◌ rows) hq) old mid new room bytes
      (post.written (roomy e at targets _ _ ha ht ok.most (l ∙ ap (λ (m : ℕ). m * e) hr) (g ∙ ap₂ ◌*◌ hr hq)))
      (subst (λ (k : List ℕ). Added b e message to (take e columns) k old mid) (buffer-front (rows * e) leading _ (post.same_leading ∙ l)) first)
      (subst₂ (λ (m : ℕ) (k : List ℕ). Added b m z to places k mid new) hq (buffer-front (rows * q) gains _ (post.same_gains ∙ g)) second)
