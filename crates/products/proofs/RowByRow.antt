-- A product added row by row: a whole block is a span of itself. Assumes nothing.
use mathlib.Core.Path.{◌≡◌, sym, ap, ap₂, ◌∙◌, subst⁻¹}
use mathlib.Core.List.{List}
use Prim.Native.Nat.{ℕ, ◌+◌, ◌-◌, ◌*◌, ◌≤◌, ◌<◌}
use native.Mathlib.Omega.{arith}
use lib.ListN.{length, get_or}
use Rattle.base.specs.Seq.{cell}
use Rattle.base.specs.Parts.{part_of, put_block}
use Rattle.base.proofs.Parts.{length-part_of, part_of-at}
use Rattle.field.specs.Field.{add, mul}
use Rattle.field.proofs.FiniteSum.{sum-ext}
use Rattle.products.specs.Blocks.{product, arriving, Fits, Added, Inside, combined, Accumulated, Spanned}
use Rattle.products.proofs.Spanning.{spanned-more}
use Rattle.products.proofs.Stretches.{row_of, stretch-at}

row_of-at : (stride width i : ℕ) (coeffs : List ℕ) (j : ℕ) → j < width → get_or (row_of stride width i coeffs) j 0 ≡ cell stride coeffs i j
unfolding cell
row_of-at stride width i coeffs j h = stretch-at (i * stride) width coeffs j h

row-combined : (b stride i p : ℕ) (src places coeffs : List ℕ)
    → combined b src places (row_of stride (length places) i coeffs) p ≡ product b src places coeffs stride i p
unfolding combined product
row-combined b stride i p src places coeffs =
    sum-ext (length places) _ _
    (λ j h. ap (λ (x : ℕ). mul x (cell b src (get_or places j 0) p)) (row_of-at stride (length places) i coeffs j h))

-- the lent block is as long as those of src
pub part-inside : (b i src : ℕ) (places out : List ℕ) → i * b + b ≤ length out → Inside b places src
    → Inside (length (part_of b i out)) places src
part-inside b i src places out h f = subst⁻¹ (λ (m : ℕ). Inside m places src) (length-part_of b i out h) f

module _ (b stride : ℕ) (src targets places coeffs old : List ℕ) where
  -- the block of a row's target, as the code lends it, and what it becomes
  pub row-added : (i g : ℕ) (out part : List ℕ) → g ≡ get_or targets i 0 → g * b + b ≤ length out
      → Accumulated (length (part_of b g out)) 0 src places (row_of stride (length places) i coeffs) (part_of b g out) part
      → Spanned b 0 b targets (λ i p. product b src places coeffs stride i p) i old out
      → Spanned b 0 b targets (λ i p. product b src places coeffs stride i p) (i + 1) old (put_block b g out part)
  row-added i g out part eg ends a s =
      spanned-more b 0 b targets _ old (omega arith) i (g * b) (g * b + b - g * b) out part (omega (arith, ap (λ (k : ℕ). k * b) eg)) (omega arith) (omega arith)
      (a.same ∙ l ∙ omega arith)
      (λ p hp.
      let front : p ≡ 0 + p = omega arith in
      a.sums p (omega (arith, l))
      ∙ ap₂ add (part_of-at b g out p hp ∙ ap₂ (cell b out) eg front)
      (ap₂ (λ (k q : ℕ). combined k src places (row_of stride (length places) i coeffs) q) l (sym front) ∙ row-combined b stride i p src places coeffs))
      s
    where
      l : length (part_of b g out) ≡ b
      l = length-part_of b g out ends

  pub rows-added : (i : ℕ) (out : List ℕ) → Fits b stride targets places (length src) (length coeffs) (length old) → i ≡ length targets
      → Spanned b 0 b targets (λ i p. product b src places coeffs stride i p) i old out → Added b stride src targets places coeffs old out
  rows-added i out fits e s =
      record {
        same = s.same;
        written = λ f j p hp.
            let front : p ≡ 0 + p = omega arith in
            ap (cell b out j) front ∙ s.done j p hp
            ∙ ap₂ (λ (q n : ℕ). add (cell b old j q) (arriving n targets (λ i. product b src places coeffs stride i p) j)) (sym front) e;
        kept = λ ne. absurd (ne fits);
      }
