-- Each answer of the tests on lengths decides what it is to decide: a quotient takes the place of a product that could overflow. Assumes nothing.
use mathlib.Core.Path.{◌≡◌, refl, ap, ◌∙◌}
use mathlib.Core.Bool.{Bool, true, false, false≢true}
use mathlib.Core.List.{List}
use Prim.Native.Nat.{ℕ, ◌-◌, ◌*◌, ◌/◌, ◌≤◌, ◌<◌}
use native.Mathlib.Nat.{mul-zero, mul-le-mul_right, le-div_iff_mul-le}
use native.Mathlib.Omega.{arith}
use borrow.Author.Tests.{leb-true, leb-false}
use lib.Dec.{leb}
use lib.ListN.{length}
use Rattle.std.specs.Prelude.{◌↔◌, All, IsTrue}
use Rattle.std.proofs.lemmas.List.Elements.{All-get_or, All-from_get_or}
use Rattle.base.specs.Decided.{Decided}
use Rattle.base.proofs.Decisions.{decided-true, decided-false}
use Rattle.products.specs.Blocks.{Rows, Inside, Fits}

-- ---- rows of coefficients

module _ (rows width stride coeffs : ℕ) where
  pub no_rows : rows ≡ 0 → Decided (Rows rows width stride coeffs) true
  no_rows e = decided-true _ (λ i h. absurd (omega arith))

  pub rows_short : 0 < rows → coeffs < width → Decided (Rows rows width stride coeffs) false
  rows_short h lt = decided-false _ (λ f. omega (arith, f 0 h))

  pub rows-still : width ≤ coeffs → stride ≡ 0 → Decided (Rows rows width stride coeffs) true
  rows-still le e = decided-true _ (λ i h. omega (arith, ap (λ (k : ℕ). i * k) e ∙ mul-zero i))

  -- the last row ends last
  pub rows_last : 0 < rows → width ≤ coeffs → 0 < stride → Decided (Rows rows width stride coeffs) (leb (rows - 1) ((coeffs - width) / stride))
  rows_last hr hw hs =
      record {
        holds = λ e i h.
            let last : i ≤ rows - 1 = omega arith in
            omega (arith, (le-div_iff_mul-le hs).0 (leb-true (rows - 1) ((coeffs - width) / stride) e), mul-le-mul_right stride last);
        fails = λ e f.
            let room : (rows - 1) * stride ≤ coeffs - width = omega (arith, f (rows - 1) (omega arith)) in
            omega (arith, (le-div_iff_mul-le hs).1 room, leb-false (rows - 1) ((coeffs - width) / stride) e);
      }

-- ---- places

-- as the code asks of each of them whether it is below the number of blocks
pub places-below : (b : ℕ) (places : List ℕ) (src : ℕ) → 0 < b → (t : Bool) → IsTrue t ↔ All (λ p. p < src / b) places → Decided (Inside b places src) t
places-below b places src hb true f = decided-true _ (λ j h. (le-div_iff_mul-le hb).0 (All-get_or (λ p. p < src / b) places j 0 h (f.0 refl)))
places-below b places src hb false f = decided-false _ (λ g. false≢true (f.1 (All-from_get_or (λ p. p < src / b) places 0 (λ j h. (le-div_iff_mul-le hb).1 (g j h)))))

-- ---- all together

module _ (b stride : ℕ) (targets places : List ℕ) (src coeffs out : ℕ) where
  pub no_bytes : b ≡ 0 → Decided (Fits b stride targets places src coeffs out) false
  no_bytes e = decided-false _ (λ f. omega (arith, f.some))

  pub other-rows : (Rows (length targets) (length places) stride coeffs → ⊥) → Decided (Fits b stride targets places src coeffs out) false
  other-rows ne = decided-false _ (λ f. ne f.row)

  pub other-targets : (Inside b targets out → ⊥) → Decided (Fits b stride targets places src coeffs out) false
  other-targets ne = decided-false _ (λ f. ne f.target)

  pub all-fits : (t : Bool) → 0 < b → Rows (length targets) (length places) stride coeffs → Inside b targets out → Decided (Inside b places src) t
      → Decided (Fits b stride targets places src coeffs out) t
  all-fits t hb row target d =
      record {
        holds = λ e. record { some = hb; target = target; row = row; block = d.holds e };
        fails = λ e f. d.fails e f.block;
      }
