-- Rows of powers by their lengths and entries, what rows take to what for points told by their entries, and products over blocks in order. Assumes nothing.
use mathlib.Core.Path.{◌≡◌, sym, ap, ap₂, ◌∙◌, subst}
use mathlib.Core.List.{List, ◌++◌}
use Prim.Native.Nat.{ℕ, suc, ◌+◌, ◌*◌, ◌≤◌, ◌<◌}
use native.Mathlib.Omega.{arith}
use lib.ListN.{length, get_or, take}
use lib.Seq.{take-length, get_or-take, length-take-le}
use Rattle.base.specs.Seq.{cell}
use Rattle.base.proofs.Seq.{length-blocks, cell-blocks}
use Rattle.base.proofs.Parts.{row_ends}
use Rattle.base.proofs.Buffers.{buffer-front}
use Rattle.field.specs.Field.{IsByte, add, mul, pow}
use Rattle.field.specs.FiniteSum.{sum}
use Rattle.field.proofs.FiniteSum.{sum-ext}
use Rattle.interpolation.specs.Polynomial.{evaluate}
use Rattle.params.specs.Nodes.{in_order}
use Rattle.params.proofs.Placing.{length-in-order, in-order-at}
use Rattle.products.specs.Blocks.{product, Inside, Fits, Added}
use Rattle.products.proofs.Arriving.{ordered-inside}
use Rattle.coefficients.specs.Coefficients.{power_rows, Reads, Extends}

-- ---- rows of powers

pub length-power_rows : (m : ℕ) (points : List ℕ) → length (power_rows m points) ≡ length points * m
unfolding power_rows
length-power_rows m points = length-blocks m (length points) _

pub power_rows-at : (m : ℕ) (points : List ℕ) (i j : ℕ) → i < length points → j < m → cell m (power_rows m points) i j ≡ pow (get_or points i 0) (suc j)
unfolding power_rows
power_rows-at m points i j hi hj = cell-blocks m (length points) _ i j hi hj

-- ---- points told by their number q and their entries c

pub reads_at : (k q : ℕ) (points rows : List ℕ) (c : ℕ → ℕ) → length points ≡ q → ((o : ℕ) → o < q → get_or points o 0 ≡ c o) → Reads k points rows
    → (l : ℕ) (x v : ℕ → ℕ) → k + l ≡ q → ((j : ℕ) → IsByte (x j)) → ((j : ℕ) → IsByte (v j)) → (j : ℕ) → j < k
    → sum q (λ o. mul (cell q rows j o) (evaluate k l x v (c o))) ≡ x j
reads_at k q points rows c many at reads l x v whole hx hv j hj =
    sum-ext q _ _ (λ o ho. ap (λ (y : ℕ). mul (cell q rows j o) (evaluate k l x v y)) (sym (at o ho)))
    ∙ ap (λ (n : ℕ). sum n (λ o. mul (cell n rows j o) (evaluate k l x v (get_or points o 0)))) (sym many)
    ∙ reads.takes l x v (whole ∙ sym many) hx hv j hj

pub extends-at : (e q n : ℕ) (at targets leading gains : List ℕ) (c d : ℕ → ℕ) → length at ≡ q → ((o : ℕ) → o < q → get_or at o 0 ≡ c o) → length targets ≡ n
    → ((t : ℕ) → t < n → get_or targets t 0 ≡ d t) → Extends e at targets leading gains
    → (x v : ℕ → ℕ) → ((j : ℕ) → IsByte (x j)) → ((j : ℕ) → IsByte (v j)) → (t : ℕ) → t < n
    → evaluate e q x v (d t)
    ≡ add (sum e (λ j. mul (cell e leading t j) (x j))) (sum q (λ o. mul (cell q gains t o) (evaluate e q x v (c o))))
extends-at e q n at targets leading gains c d many at_is count targets-are extends x v hx hv t ht =
    ap₂ (λ (m y : ℕ). evaluate e m x v y) (sym many) (sym (targets-are t ht)) ∙ extends.takes x v hx hv t (omega arith)
    ∙ ap (add (sum e (λ j. mul (cell e leading t j) (x j))))
    (ap (λ (m : ℕ). sum m (λ o. mul (cell m gains t o) (evaluate e m x v (get_or at o 0)))) many
    ∙ sum-ext q _ _ (λ o ho. ap (λ (y : ℕ). mul (cell q gains t o) (evaluate e q x v y)) (at_is o ho)))

-- ---- products over blocks

-- a product fits: there are its blocks, and a row of coefficients for each target
pub product-fits : (b stride src coeffs out : ℕ) (targets places : List ℕ) → 0 < b → Inside b targets out → length places ≤ stride
    → length targets * stride ≤ coeffs → Inside b places src → Fits b stride targets places src coeffs out
product-fits b stride src coeffs out targets places some target narrow enough block =
    record {
      some = some;
      target = target;
      row = λ i hi. omega (arith, row_ends (length targets) i stride coeffs hi enough);
      block = block;
    }

-- the blocks are lent anew, whole, and so are the rows, at the front of their buffer
pub lent-anew : (b q n : ℕ) (src rows rest targets places old new : List ℕ) → length rows ≡ n
    → Added b q (take (length src) src) targets places (take n (rows ++ rest)) old new → Added b q src targets places rows old new
lent-anew b q n src rows rest targets places old new full made =
    subst (λ (l : List ℕ). Added b q src targets places l old new) (buffer-front n rows rest full)
    (subst (λ (l : List ℕ). Added b q l targets places (take n (rows ++ rest)) old new) (take-length src) made)

-- what a product over the blocks at the first places of a list gives
pub product-places : (places named : List ℕ) → places ≡ named → (width : ℕ) → length (take width places) ≡ width → (b stride : ℕ) (src coeffs : List ℕ) (i p : ℕ)
    → product b src (take width places) coeffs stride i p ≡ sum width (λ k. mul (cell stride coeffs i k) (cell b src (get_or named k 0) p))
unfolding product
product-places places named told width full b stride src coeffs i p =
    ap (λ (m : ℕ). sum m (λ k. mul (cell stride coeffs i k) (cell b src (get_or (take width places) k 0) p))) full
    ∙ sum-ext width _ _
    (λ k hk.
    ap (λ (j : ℕ). mul (cell stride coeffs i k) (cell b src j p)) (get_or-take width places k 0 hk ∙ ap (λ (l : List ℕ). get_or l k 0) told))

-- ---- the first blocks in order

module _ (order : List ℕ) (ordered : order ≡ in_order) (width : ℕ) (most : width ≤ 32) where
  pub first-length : length (take width order) ≡ width
  first-length = length-take-le width order (omega (arith, ap length ordered ∙ length-in-order))

  pub first-at : (j : ℕ) → j < width → get_or (take width order) j 0 ≡ j
  first-at j h = get_or-take width order j 0 h ∙ ap (λ (l : List ℕ). get_or l j 0) ordered ∙ in-order-at j (omega arith)

  -- they are there in a list that has n blocks
  pub first-inside : (b n size : ℕ) → width ≤ n → n * b ≤ size → Inside b (take width order) size
  first-inside b n size le room = ordered-inside (take width order) (λ i h. first-at i (omega (arith, first-length))) b n size (omega (arith, first-length)) room

  -- what a product over them gives
  pub product-first : (b stride : ℕ) (src coeffs : List ℕ) (i p : ℕ)
      → product b src (take width order) coeffs stride i p ≡ sum width (λ j. mul (cell stride coeffs i j) (cell b src j p))
  product-first b stride src coeffs i p =
      product-places order in_order ordered width first-length b stride src coeffs i p
      ∙ sum-ext width _ _ (λ j hj. ap (λ (k : ℕ). mul (cell stride coeffs i j) (cell b src k p)) (in-order-at j (omega arith)))
