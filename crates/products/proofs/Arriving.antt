-- What a block gets of the rows of a product: nothing, the one row that goes to it, or one row more. Assumes nothing.
use mathlib.Core.Path.{◌≡◌, refl, sym, ap, ◌∙◌, subst⁻¹}
use mathlib.Core.Bool.{Bool, true, false}
use mathlib.Core.List.{List}
use Prim.Native.Nat.{ℕ, suc, ◌+◌, ◌*◌, ◌≤◌, ◌<◌}
use native.Mathlib.Numerals.{add-one}
use borrow.Author.Tests.{eqb-true, eqb-false}
use lib.Dec.{eqb}
use lib.ListN.{length, get_or, replicate}
use Rattle.base.specs.Seq.{cell}
use Rattle.base.proofs.Seq.{zeros-at}
use native.Mathlib.Omega.{arith}
use Rattle.field.specs.Field.{add}
use Rattle.field.proofs.Addition.{add-zero-left}
use Rattle.field.proofs.FiniteSum.{sum-zero, sum_zeros, sum_one, sum-last, sum-ext, sum-add}
use Rattle.products.specs.Blocks.{when, arriving, product, Inside, Fits, Added}
use Rattle.products.proofs.Laws.{block_inside}

when-same : (g j x : ℕ) → g ≡ j → when (eqb g j) x ≡ x
when-same g j x e = go (eqb g j) refl
  where
    go : (t : Bool) → eqb g j ≡ t → when t x ≡ x
    go true et = refl
    go false et = absurd (eqb-false g j et e)

when-other : (g j x : ℕ) → (g ≡ j → ⊥) → when (eqb g j) x ≡ 0
when-other g j x ne = go (eqb g j) refl
  where
    go : (t : Bool) → eqb g j ≡ t → when t x ≡ 0
    go true et = absurd (ne (eqb-true g j et))
    go false et = refl

module _ (targets : List ℕ) (f : ℕ → ℕ) (j : ℕ) where
  pub arriving-start : arriving 0 targets f j ≡ 0
  unfolding arriving
  arriving-start = sum-zero _

  -- the last term goes to block j
  pub arriving-here : (n : ℕ) → get_or targets n 0 ≡ j → arriving (n + 1) targets f j ≡ add (arriving n targets f j) (f n)
  unfolding arriving
  arriving-here n e =
      ap (λ (k : ℕ). arriving k targets f j) (add-one n) ∙ sum-last n _ ∙ ap (add (arriving n targets f j)) (when-same (get_or targets n 0) j (f n) e)

  -- or to another
  pub arriving-by : (n : ℕ) → (get_or targets n 0 ≡ j → ⊥) → arriving (n + 1) targets f j ≡ add (arriving n targets f j) 0
  unfolding arriving
  arriving-by n ne =
      ap (λ (k : ℕ). arriving k targets f j) (add-one n) ∙ sum-last n _ ∙ ap (add (arriving n targets f j)) (when-other (get_or targets n 0) j (f n) ne)

  -- no term goes there
  pub arriving-none : (n : ℕ) → ((i : ℕ) → i < n → get_or targets i 0 ≡ j → ⊥) → arriving n targets f j ≡ 0
  unfolding arriving
  arriving-none n ne = sum_zeros n _ (λ i hi. when-other (get_or targets i 0) j (f i) (ne i hi))

  -- only term k does
  pub arriving-one : (n k : ℕ) → k < n → get_or targets k 0 ≡ j → ((i : ℕ) → i < n → (i ≡ k → ⊥) → get_or targets i 0 ≡ j → ⊥) → arriving n targets f j ≡ f k
  unfolding arriving
  arriving-one n k hk e ne =
      sum_one n k _ hk (λ i hi other. when-other (get_or targets i 0) j (f i) (ne i hi other)) ∙ when-same (get_or targets k 0) j (f k) e

pub arriving-ext : (n : ℕ) (targets : List ℕ) (f g : ℕ → ℕ) (j : ℕ) → ((i : ℕ) → i < n → f i ≡ g i) → arriving n targets f j ≡ arriving n targets g j
unfolding arriving
arriving-ext n targets f g j h = sum-ext n _ _ (λ i hi. ap (when (eqb (get_or targets i 0) j)) (h i hi))

-- what arrives of two terms arrives of their sum
pub arriving-add : (n : ℕ) (to : List ℕ) (f g : ℕ → ℕ) (j : ℕ) → add (arriving n to f j) (arriving n to g j) ≡ arriving n to (λ t. add (f t) (g t)) j
unfolding arriving
arriving-add n to f g j = sym (sum-add n _ _) ∙ sum-ext n _ _ (λ t ht. both (eqb (get_or to t 0) j) (f t) (g t))
  where
    both : (b : Bool) (x y : ℕ) → add (when b x) (when b y) ≡ when b (add x y)
    both true x y = refl
    both false x y = add-zero-left 0

-- ---- targets in order: row i goes to block i

module _ (targets : List ℕ) (order : (i : ℕ) → i < length targets → get_or targets i 0 ≡ i) where
  pub ordered-inside : (b n out : ℕ) → length targets ≤ n → n * b ≤ out → Inside b targets out
  ordered-inside b n out le room i h = subst⁻¹ (λ (k : ℕ). suc k * b ≤ out) (order i h) (block_inside b n i out (omega arith) room)

  module _ (b stride : ℕ) (src places coeffs old new : List ℕ) (fits : Fits b stride targets places (length src) (length coeffs) (length old))
      (a : Added b stride src targets places coeffs old new) where
    pub ordered-added : (i p : ℕ) → i < length targets → p < b → cell b new i p ≡ add (cell b old i p) (product b src places coeffs stride i p)
    ordered-added i p hi hp =
        a.written fits i p hp
        ∙ ap (add (cell b old i p)) (arriving-one targets _ i (length targets) i hi (order i hi) (λ k hk ne e. ne (sym (order k hk) ∙ e)))

    -- added to zeros
    pub ordered-product : (n : ℕ) → old ≡ replicate n 0 → (i p : ℕ) → i < length targets → p < b → cell b new i p ≡ product b src places coeffs stride i p
    unfolding cell
    ordered-product n e i p hi hp =
        ordered-added i p hi hp
        ∙ ap (λ (x : ℕ). add x (product b src places coeffs stride i p)) (ap (λ (l : List ℕ). get_or l (i * b + p) 0) e ∙ zeros-at n (i * b + p))
        ∙ add-zero-left _
